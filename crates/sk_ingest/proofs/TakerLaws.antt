-- The updaters of a hub as takers of windows, each by itself or all together.
use Rattle.std.proofs.Common.{◌≡◌, ℕ, ◌<◌, ◌≤◌, Bool, List, [], ◌∷◌, ◌++◌, length, get_or, All, sym, ap, ◌∙◌, subst, arith, length-append}
use Rattle.std.proofs.lemmas.List.Elements.{All-nil, All-cons}
use Rattle.sk_model.specs.Entries.{Entry}
use Rattle.sk_model.specs.Limits.{most_updaters}
use Rattle.sk_hub.specs.Updaters.{UpdaterState, kept_of}
use Rattle.sk_read.specs.declared.kind.Kind.{Kind}
use Rattle.sk_hub.specs.Calls.{Takes}
use Rattle.sk_feed.specs.Rounds.{HaveFew}
use Rattle.sk_feed.specs.Shares.{share, TakeShares}
use Rattle.sk_feed.proofs.Shares.{share_none, no_shares}
use Rattle.sk_hub.proofs.Calls.{none_refl, takes_none}
use Rattle.sk_lanes.specs.Lanes.{TakeAll}

-- none of them has kept more
pub few_each : (count : ℕ) (us : List UpdaterState) → HaveFew count [] us → All (λ u. length (kept_of u) ≤ count) us
few_each count us few = λ i d within. let here = few i d within in omega arith

-- each took its share
pub shares_of_all : (keeps : ℕ → ℕ → Bool) (hint_of : List ℕ → List Entry → ℕ) (kind : Kind) (windows : List (List (List ℕ))) (us us' : List UpdaterState)
    → TakeAll (λ i n u v ws. Takes keeps hint_of u (share kind ws n i) v) windows us us' → TakeShares keeps hint_of kind windows us us'
shares_of_all keeps hint_of kind windows us us' taken = record {
  count = taken.count;
  each = λ i d within.
      let u = get_or us i d in
      taken.each i d within u [] (subst (λ l. Takes keeps hint_of u l u) (sym (share_none kind (length us) i)) (takes_none keeps hint_of u u (none_refl u)));
}

-- ---- all in one

no_more : {A : Type 0} (xs rest : List A) (x : A) → length xs ≡ 1 → xs ≡ rest ++ x ∷ [] → (d : A) → get_or xs 0 d ≡ x
no_more xs [] x one is d = ap (λ l. get_or l 0 d) is
no_more xs (y ∷ rest) x one is d = let no : ⊥ = omega (arith, one, ap length is, length-append rest (x ∷ [])) in absurd no

module _ {V : Type 0} (f : V → List UpdaterState) (hub : List V) (v : V) (only : hub ≡ v ∷ []) where
  pub few_all : (count : ℕ) → length (f v) ≤ most_updaters → HaveFew count [] (f v) → All (λ x. (length (f x) ≤ most_updaters) × HaveFew count [] (f x)) hub
  few_all count most few =
      let P : V → Type 0 = λ x. (length (f x) ≤ most_updaters) × HaveFew count [] (f x) in
      subst (All P) (sym only) (All-cons P v [] (most, few) (All-nil P))

  module _ (keeps : ℕ → ℕ → Bool) (hint_of : List ℕ → List Entry → ℕ) (kind : Kind) (windows : List (List (List ℕ))) (hub' : List V) (taken : TakeAll (λ i n x y ws. TakeShares keeps hint_of kind ws (f x) (f y)) windows hub hub') where
    one : length hub' ≡ 1
    one = taken.count ∙ ap length only

    -- they took their shares, and come back
    pub shares_of_one : (rest : List V) (v' : V) → hub' ≡ rest ++ v' ∷ [] → TakeShares keeps hint_of kind windows (f v) (f v')
    shares_of_one rest v' is =
        let was : get_or hub 0 v ≡ v = ap (λ l. get_or l 0 v) only in
        let inside : 0 < length hub = omega (arith, ap length only) in
        subst (λ x. TakeShares keeps hint_of kind windows (f x) (f v')) was
        (subst (λ y. TakeShares keeps hint_of kind windows (f (get_or hub 0 v)) (f y)) (no_more hub' rest v' one is v)
        (taken.each 0 v inside (get_or hub 0 v) [] (no_shares keeps hint_of kind (f (get_or hub 0 v)))))

    pub none_left : {A : Type 0} → length hub' ≡ 0 → A
    none_left is = let no : ⊥ = omega (arith, one, is) in absurd no
