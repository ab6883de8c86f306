-- Moments, one after another.
use Rattle.std.proofs.Common.{◌≡◌, ℕ, zero, suc, ◌+◌, ◌*◌, ◌<◌, ◌≤◌, Bool, true, false, if◌then◌else◌, List, [], ◌∷◌, ◌++◌, length, take, get_or, is_some, refl, sym, ap, subst, ◌∙◌, arith, append_assoc}
use Rattle.sk_model.specs.Missing.{Begins, LacksAtMost}
use Rattle.sk_model.proofs.Missing.{begins_trans, lacks_some, missing_stays}
use Rattle.sk_count.specs.declared.plan.Plan.{Plan}
use Rattle.sk_count.specs.Moments.{Moment, IsMoment, Follows, AreMoments}

-- before the first window
abbrev pub start : Moment
start = record { lines = 0; seen = []; kept = [] }

-- moments, one after each of these windows, which follow those before; each is later than the last one
unfoldable pub MomentsFrom : Plan → List (List (List ℕ)) → Moment → List (List (List ℕ)) → List Moment → Type 0
MomentsFrom plan before last [] [] = Unit {0}
MomentsFrom plan before last [] (m ∷ moments) = ⊥
MomentsFrom plan before last (window ∷ windows) [] = ⊥
MomentsFrom plan before last (window ∷ windows) (m ∷ moments) =
    IsMoment plan (before ++ window ∷ []) m × Follows plan.updaters last m × MomentsFrom plan (before ++ window ∷ []) m windows moments

follows_on : (n : ℕ) (a b c : Moment) → Follows n a b → Follows n b c → Follows n a c
follows_on n a b c x y = record { seen = begins_trans _ _ _ x.seen y.seen; kept = λ i within. begins_trans _ _ _ (x.kept i within) (y.kept i within) }

module _ (plan : Plan) where
  as_many : (windows before : List (List (List ℕ))) (last : Moment) (moments : List Moment) → MomentsFrom plan before last windows moments → length moments ≡ length windows
  unfolding MomentsFrom
  as_many [] before last [] are = refl
  as_many [] before last (m ∷ moments) are = absurd are
  as_many (w ∷ windows) before last [] are = absurd are
  as_many (w ∷ windows) before last (m ∷ moments) are = ap suc (as_many windows (before ++ w ∷ []) m moments are.2)

  later : (windows before : List (List (List ℕ))) (last : Moment) (moments : List Moment) → MomentsFrom plan before last windows moments → (j : ℕ) (d : Moment) → j < length moments → Follows plan.updaters last (get_or moments j d)
  unfolding MomentsFrom
  later windows before last [] are j d within = absurd (omega arith)
  later [] before last (m ∷ moments) are j d within = absurd are
  later (w ∷ windows) before last (m ∷ moments) are zero d within = are.1
  later (w ∷ windows) before last (m ∷ moments) are (suc j) d within =
      follows_on plan.updaters last m (get_or moments j d) are.1 (later windows (before ++ w ∷ []) m moments are.2 j d (omega arith))

  grow : (windows before : List (List (List ℕ))) (last : Moment) (moments : List Moment) → MomentsFrom plan before last windows moments
      → (i j : ℕ) (d : Moment) → i < j → j < length moments → Follows plan.updaters (get_or moments i d) (get_or moments j d)
  unfolding MomentsFrom
  grow windows before last [] are i j d less within = absurd (omega arith)
  grow [] before last (m ∷ moments) are i j d less within = absurd are
  grow (w ∷ windows) before last (m ∷ moments) are zero zero d less within = absurd (omega arith)
  grow (w ∷ windows) before last (m ∷ moments) are (suc i) zero d less within = absurd (omega arith)
  grow (w ∷ windows) before last (m ∷ moments) are zero (suc j) d less within = later windows (before ++ w ∷ []) m moments are.2 j d (omega arith)
  grow (w ∷ windows) before last (m ∷ moments) are (suc i) (suc j) d less within = grow windows (before ++ w ∷ []) m moments are.2 i j d (omega arith) (omega arith)

  each : (windows before : List (List (List ℕ))) (last : Moment) (moments : List Moment) → MomentsFrom plan before last windows moments → (j : ℕ) (d : Moment) → j < length moments → IsMoment plan (before ++ take (j + 1) windows) (get_or moments j d)
  unfolding MomentsFrom
  each windows before last [] are j d within = absurd (omega arith)
  each [] before last (m ∷ moments) are j d within = absurd are
  each (w ∷ windows) before last (m ∷ moments) are zero d within = are.0
  each (w ∷ windows) before last (m ∷ moments) are (suc j) d within =
      let same : suc (j + 1) ≡ suc j + 1 = omega arith in
      subst (λ (n : ℕ). IsMoment plan (before ++ take n (w ∷ windows)) (get_or moments j d)) same
      (subst (λ (l : List (List (List ℕ))). IsMoment plan l (get_or moments j d)) (append_assoc before (w ∷ []) (take (j + 1) windows)) (each windows (before ++ w ∷ []) m moments are.2 j d (omega arith)))

  -- with a window, moments that follow one another from the start
  pub are_moments : (windows : List (List (List ℕ))) (moments : List Moment) → is_some plan.window ≡ true → MomentsFrom plan [] start windows moments → AreMoments plan windows moments
  are_moments windows moments is are = record {
    count = as_many windows [] start moments are ∙ ap (λ (b : Bool). if b then length windows else 0) (sym is);
    grows = grow windows [] start moments are;
    each = each windows [] start moments are;
  }

  -- without one there are none
  pub no_moments : (windows : List (List (List ℕ))) (moments : List Moment) → is_some plan.window ≡ false → moments ≡ [] → AreMoments plan windows moments
  no_moments windows moments is none = record {
    count = ap (λ (l : List Moment). length l) none ∙ ap (λ (b : Bool). if b then length windows else 0) (sym is);
    grows = λ i j d less within. absurd (omega (arith, within, ap (λ (l : List Moment). length l) none));
    each = λ j d within. absurd (omega (arith, within, ap (λ (l : List Moment). length l) none));
  }

-- ---- what a list lacks

-- a list that has all that was handed over lacks at most what lies in the fill buffer
pub lacks_one : (handed fill ys : List ℕ) (size : ℕ) → Begins handed ys → length fill ≤ size → LacksAtMost (handed ++ fill) ys size
lacks_one handed fill ys size begins few =
    subst (λ (l : List ℕ). LacksAtMost (handed ++ fill) l size) (sym begins.1) (missing_stays (handed ++ fill) handed begins.0 size (lacks_some (handed ++ fill) handed fill size refl few))

-- at most two buffers, and with a propagator one
pub lacks_last : (propagator b : Bool) (size : ℕ) (kept seen : List ℕ) → propagator ≡ b → LacksAtMost kept seen (2 * size) → (propagator ≡ true → LacksAtMost kept seen size) → LacksAtMost kept seen ((if propagator then 1 else 2) * size)
lacks_last propagator true size kept seen is two one =
    let same : size ≡ 1 * size = omega arith in
    subst (λ (c : Bool). LacksAtMost kept seen ((if c then 1 else 2) * size)) (sym is) (subst (LacksAtMost kept seen) same (one is))
lacks_last propagator false size kept seen is two one = subst (λ (c : Bool). LacksAtMost kept seen ((if c then 1 else 2) * size)) (sym is) two
