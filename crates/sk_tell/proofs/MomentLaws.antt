-- Moments, one after another.
use Rattle.std.proofs.Common.{◌≡◌, ℕ, zero, suc, ◌+◌, ◌<◌, Bool, true, false, if◌then◌else◌, List, [], ◌∷◌, ◌++◌, length, take, get_or, is_some, refl, sym, ap, subst, ◌∙◌, arith, append_assoc}
use Rattle.sk_model.specs.Entries.{Entry}
use Rattle.sk_model.specs.Missing.{Begins}
use Rattle.sk_model.proofs.Missing.{begins_trans}
use Rattle.sk_tell.specs.Manners.{Manner}
use Rattle.sk_tell.specs.Moments.{Moment, IsMoment, Follows, AreMoments}

-- moments, one after each of these windows, which follow those before; the list of each goes on from the one before
unfoldable pub MomentsFrom : Manner → List (List (List ℕ)) → List Entry → List (List (List ℕ)) → List Moment → Type 0
MomentsFrom manner before last [] [] = Unit {0}
MomentsFrom manner before last [] (m ∷ moments) = ⊥
MomentsFrom manner before last (window ∷ windows) [] = ⊥
MomentsFrom manner before last (window ∷ windows) (m ∷ moments) =
    IsMoment manner (before ++ window ∷ []) m × Begins last m.list × MomentsFrom manner (before ++ window ∷ []) m.list windows moments

module _ (manner : Manner) where
  as_many : (windows before : List (List (List ℕ))) (last : List Entry) (moments : List Moment) → MomentsFrom manner before last windows moments → length moments ≡ length windows
  unfolding MomentsFrom
  as_many [] before last [] are = refl
  as_many [] before last (m ∷ moments) are = absurd are
  as_many (w ∷ windows) before last [] are = absurd are
  as_many (w ∷ windows) before last (m ∷ moments) are = ap suc (as_many windows (before ++ w ∷ []) m.list moments are.2)

  later : (windows before : List (List (List ℕ))) (last : List Entry) (moments : List Moment) → MomentsFrom manner before last windows moments → (j : ℕ) (d : Moment) → j < length moments → Begins last (get_or moments j d).list
  unfolding MomentsFrom
  later windows before last [] are j d within = absurd (omega arith)
  later [] before last (m ∷ moments) are j d within = absurd are
  later (w ∷ windows) before last (m ∷ moments) are zero d within = are.1
  later (w ∷ windows) before last (m ∷ moments) are (suc j) d within =
      begins_trans last m.list (get_or moments j d).list are.1 (later windows (before ++ w ∷ []) m.list moments are.2 j d (omega arith))

  grow : (windows before : List (List (List ℕ))) (last : List Entry) (moments : List Moment) → MomentsFrom manner before last windows moments
      → (i j : ℕ) (d : Moment) → i < j → j < length moments → Follows (get_or moments i d) (get_or moments j d)
  unfolding MomentsFrom
  grow windows before last [] are i j d less within = absurd (omega arith)
  grow [] before last (m ∷ moments) are i j d less within = absurd are
  grow (w ∷ windows) before last (m ∷ moments) are zero zero d less within = absurd (omega arith)
  grow (w ∷ windows) before last (m ∷ moments) are (suc i) zero d less within = absurd (omega arith)
  grow (w ∷ windows) before last (m ∷ moments) are zero (suc j) d less within = later windows (before ++ w ∷ []) m.list moments are.2 j d (omega arith)
  grow (w ∷ windows) before last (m ∷ moments) are (suc i) (suc j) d less within = grow windows (before ++ w ∷ []) m.list moments are.2 i j d (omega arith) (omega arith)

  each : (windows before : List (List (List ℕ))) (last : List Entry) (moments : List Moment) → MomentsFrom manner before last windows moments → (j : ℕ) (d : Moment) → j < length moments → IsMoment manner (before ++ take (j + 1) windows) (get_or moments j d)
  unfolding MomentsFrom
  each windows before last [] are j d within = absurd (omega arith)
  each [] before last (m ∷ moments) are j d within = absurd are
  each (w ∷ windows) before last (m ∷ moments) are zero d within = are.0
  each (w ∷ windows) before last (m ∷ moments) are (suc j) d within =
      let same : suc (j + 1) ≡ suc j + 1 = omega arith in
      subst (λ (n : ℕ). IsMoment manner (before ++ take n (w ∷ windows)) (get_or moments j d)) same
      (subst (λ (l : List (List (List ℕ))). IsMoment manner l (get_or moments j d)) (append_assoc before (w ∷ []) (take (j + 1) windows)) (each windows (before ++ w ∷ []) m.list moments are.2 j d (omega arith)))

  -- with a window, moments that follow one another from the start
  pub are_moments : (windows : List (List (List ℕ))) (moments : List Moment) → is_some manner.window ≡ true → MomentsFrom manner [] [] windows moments → AreMoments manner windows moments
  are_moments windows moments is are = record {
    count = as_many windows [] [] moments are ∙ ap (λ (b : Bool). if b then length windows else 0) (sym is);
    grows = grow windows [] [] moments are;
    each = each windows [] [] moments are;
  }

  -- without one there are none
  pub no_moments : (windows : List (List (List ℕ))) (moments : List Moment) → is_some manner.window ≡ false → moments ≡ [] → AreMoments manner windows moments
  no_moments windows moments is none = record {
    count = ap (λ (l : List Moment). length l) none ∙ ap (λ (b : Bool). if b then length windows else 0) (sym is);
    grows = λ i j d less within. absurd (omega (arith, within, ap (λ (l : List Moment). length l) none));
    each = λ j d within. absurd (omega (arith, within, ap (λ (l : List Moment). length l) none));
  }
