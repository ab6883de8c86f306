-- What stays true of candidates as items come, and as they are cut.
use Rattle.std.proofs.Common.{◌≡◌, ℕ, ◌-◌, ◌≤◌, nat_lt, if◌then◌else◌, List, [], ◌∷◌, ◌++◌, length, take, slice_index, Contains, sym, ap, subst, ◌∙◌, arith, append-nil}
use Rattle.std.specs.List.{dedup}
use Rattle.std.specs.List.Sorted.{IsPermutation, IsSorted, IsStrictlyIncreasing}
use Rattle.std.specs.Ordering.{nat_cmp}
use Rattle.std.proofs.lemmas.List.Elements.{All-nil, All-push}
use Rattle.std.proofs.lemmas.List.Kept.{Contains-dedup_nat, Contains-from_dedup}
use Rattle.std.proofs.lemmas.List.Sorted.{Contains-permutation, IsPermutation-sym}
use Rattle.std.proofs.lemmas.Map.Keys.{IsStrictlyIncreasing-dedup}
use Rattle.sk_model.specs.Sketch.{placed, k_smallest, theta_of}
use Rattle.sk_model.specs.Width.{item_end, IsItem, AreItems}
use Rattle.sk_model.proofs.Sketch.{rising_is, one_more, a_batch_more, k_smallest_of_members, theta_within, theta_falls, idle_once}
use Rattle.sk_panes.specs.Candidates.{CandidatesState, HaveSmallest}
use lib.Dec.{eqb}

-- ---- lists with the same k smallest

pub same_theta : (k : ℕ) (xs ys : List ℕ) → k_smallest k xs ≡ k_smallest k ys → theta_of k xs ≡ theta_of k ys
same_theta k xs ys same = ap (λ (kept : List ℕ). if nat_lt (length kept) k then item_end else slice_index kept (k - 1)) same

same_more : (k h : ℕ) (xs ys : List ℕ) → k_smallest k xs ≡ k_smallest k ys → k_smallest k (xs ++ h ∷ []) ≡ k_smallest k (ys ++ h ∷ [])
same_more k h xs ys same = one_more k h xs ∙ ap (λ (kept : List ℕ). take k (placed h kept)) same ∙ sym (one_more k h ys)

smallest_twice : (k : ℕ) (xs : List ℕ) → k_smallest k (k_smallest k xs) ≡ k_smallest k xs
smallest_twice k xs = ap (k_smallest k) (sym (append-nil (k_smallest k xs))) ∙ sym (a_batch_more k xs []) ∙ ap (k_smallest k) (append-nil xs)

pub same_moved : (k : ℕ) (xs ys : List ℕ) → IsPermutation xs ys → k_smallest k ys ≡ k_smallest k xs
same_moved k xs ys moved = k_smallest_of_members k ys xs (λ x c. Contains-permutation ys xs x (IsPermutation-sym xs ys moved) c) (λ x c. Contains-permutation xs ys x moved c)

-- ---- a cut

-- a list that was sorted, of which each member was left once
pub cut_is : (k : ℕ) (xs sorted kept : List ℕ) → IsPermutation xs sorted → IsSorted nat_cmp sorted → kept ≡ dedup eqb sorted → take k kept ≡ k_smallest k xs
unfolding k_smallest
cut_is k xs sorted kept moved up is =
    let rises : IsStrictlyIncreasing kept = subst IsStrictlyIncreasing (sym is) (IsStrictlyIncreasing-dedup sorted up) in
    ap (take k) (sym (rising_is kept xs rises
    (λ x c. Contains-permutation sorted xs x (IsPermutation-sym xs sorted moved) (Contains-from_dedup eqb sorted x (subst (λ (l : List ℕ). Contains l x) is c)))
    (λ x c. subst (λ (l : List ℕ). Contains l x) (sym is) (Contains-dedup_nat sorted x (Contains-permutation xs sorted x moved c)))))

pub settled : (k : ℕ) (xs ys : List ℕ) → IsPermutation (k_smallest k xs) ys → k_smallest k ys ≡ k_smallest k xs
settled k xs ys moved = same_moved k (k_smallest k xs) ys moved ∙ smallest_twice k xs

-- ---- an item that comes

abbrev pub candidates : ℕ → List ℕ → ℕ → CandidatesState
candidates k items bound = record { k = k; items = items; bound = bound }

-- those of no item
pub of_none : (k : ℕ) (xs : List ℕ) → xs ≡ [] → HaveSmallest [] (candidates k xs item_end)
of_none k xs none = record { same = ap (k_smallest k) none; bound = theta_within k [] (All-nil IsItem) }

falls : (k h : ℕ) (items : List ℕ) → AreItems items → IsItem h → theta_of k (items ++ h ∷ []) ≤ theta_of k items
falls k h items all item = theta_falls k items (h ∷ []) (All-push IsItem items h all item)

-- it is not below the bound
pub passed_by : (c : CandidatesState) (h : ℕ) (items : List ℕ) → AreItems items → IsItem h → c.bound ≤ h → HaveSmallest items c → HaveSmallest (items ++ h ∷ []) c
passed_by c h items all item past have =
    let idle : theta_of c.k items ≤ h = omega (arith, have.bound, past) in
    record {
      same = have.same ∙ sym (idle_once c.k h items item idle);
      bound = omega (arith, falls c.k h items all item, have.bound);
    }

-- it is put with the others
pub put_last : (k bound h : ℕ) (xs items : List ℕ) → AreItems items → IsItem h → HaveSmallest items (candidates k xs bound) → HaveSmallest (items ++ h ∷ []) (candidates k (xs ++ h ∷ []) bound)
put_last k bound h xs items all item have = record {
  same = same_more k h xs items have.same;
  bound = omega (arith, falls k h items all item, have.bound);
}

-- and they are cut
pub cut_with : (k bound theta h : ℕ) (xs ys items : List ℕ) → HaveSmallest items (candidates k xs bound) → ys ≡ k_smallest k (xs ++ h ∷ []) → theta ≡ theta_of k (xs ++ h ∷ []) → HaveSmallest (items ++ h ∷ []) (candidates k ys theta)
cut_with k bound theta h xs ys items have kept is =
    let same = same_more k h xs items have.same in
    record {
      same = ap (k_smallest k) kept ∙ smallest_twice k (xs ++ h ∷ []) ∙ same;
      bound = omega (arith, is, same_theta k (xs ++ h ∷ []) (items ++ h ∷ []) same);
    }
