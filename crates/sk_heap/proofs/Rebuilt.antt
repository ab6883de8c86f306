-- A table that is made anew for hashes that are kept.
use Rattle.std.proofs.Common.{◌≡◌, ℕ, zero, suc, ◌+◌, ◌-◌, ◌*◌, ◌%◌, ◌<◌, ◌≤◌, nat_eq, List, [], ◌∷◌, length, drop, get_or, replicate, Contains, refl, sym, subst, arith}
use Rattle.std.proofs.lemmas.List.{length-drop, length-replicate}
use Rattle.std.specs.Int.{IsPowerOfTwo}
use Rattle.std.specs.List.{IsDistinct}
use Rattle.std.proofs.lemmas.Map.Keys.{IsDistinct-tail}
use Rattle.sk_model.proofs.Rising.{Has, Has-from_Contains}
use Rattle.sk_heap.specs.Heap.{times, HasSame}
use Rattle.sk_heap.specs.Held.{IsHeld, IsTabled}
use Rattle.sk_heap.specs.Table.{IsProbed, home, most_places}
use Rattle.sk_heap.proofs.Both.{contains_from_times}
use Rattle.sk_heap.proofs.Counts.{once-same, once-other, once-suc, times-cons}
use Rattle.sk_heap.proofs.Distinct.{head_once}
use Rattle.sk_heap.proofs.Shown.{zeros_are, zeros_alone, zeros_times}

zeros_tabled : (n : ℕ) → let zeros : List ℕ = replicate n 0 in IsTabled [] zeros
zeros_tabled n =
    let zeros : List ℕ = replicate n 0 in record {
      probed = λ h m e under found less. absurd (omega (arith, found, zeros_are n ((home (length zeros) h + m) % length zeros)));
      entries = λ h. zeros_alone n h;
      vacant = omega (arith, zeros_times n, length-replicate {A = ℕ} n 0);
    }

-- an empty table has no hashes
pub tabled_none : (table : List ℕ) → table ≡ replicate (length table) 0 → IsTabled [] table
tabled_none table zeros = subst (λ (t : List ℕ). IsTabled [] t) (sym zeros) (zeros_tabled (length table))

-- one hash more
pub tabled_more : (hash : ℕ) (rest old new : List ℕ) → IsTabled rest old → IsProbed new → HasSame (0 ∷ new) ((hash + 1) ∷ old) → length new ≡ length old → IsTabled (hash ∷ rest) new
tabled_more hash rest old new before probed more long = record {
  probed = probed;
  entries = λ h.
      omega (
        arith,
        more (h + 1),
        times-cons (h + 1) 0 new,
        times-cons (h + 1) (hash + 1) old,
        once-other (h + 1) 0 (λ e. absurd (omega arith)),
        once-suc h hash,
        before.entries h,
        times-cons h hash rest,
      );
  vacant =
      omega (
        arith,
        more 0,
        times-cons 0 0 new,
        times-cons 0 (hash + 1) old,
        once-same 0,
        once-other 0 (hash + 1) (λ e. absurd (omega arith)),
        before.vacant,
        long,
      );
}

distinct_drop : (n : ℕ) (xs : List ℕ) → IsDistinct nat_eq xs → IsDistinct nat_eq (drop n xs)
distinct_drop zero xs distinct = distinct
distinct_drop (suc n) [] distinct = distinct
distinct_drop (suc n) (x ∷ xs) distinct = distinct_drop n xs (IsDistinct-tail nat_eq x xs distinct)

-- the members from a place on are the one there and those after it
pub drop_at : (i : ℕ) (xs : List ℕ) → i < length xs → drop i xs ≡ get_or xs i 0 ∷ drop (suc i) xs
drop_at i [] inside = absurd (omega arith)
drop_at zero (x ∷ xs) inside = refl
drop_at (suc i) (x ∷ xs) inside = drop_at i xs (omega arith)

none_times : (x : ℕ) (xs : List ℕ) → (Has xs x → ⊥) → (n : ℕ) → times x xs ≡ n → times x xs ≡ 0
none_times x xs not zero is = is
none_times x xs not (suc n) is = absurd (not (Has-from_Contains xs x (contains_from_times xs x (omega (arith, is)))))

-- the place before the one that was come to
pub before_this : (hashes table : List ℕ) (at : ℕ) → 0 < at → IsTabled (drop at hashes) table → IsTabled (drop (suc (at - 1)) hashes) table
before_this hashes table at some tabled = let next : at ≡ suc (at - 1) = omega arith in subst (λ (n : ℕ). IsTabled (drop n hashes) table) next tabled

module _ (hashes table : List ℕ) (i : ℕ) (within : i < length hashes) (before : IsTabled (drop (suc i) hashes) table) where
  -- a hash is not in a table of those after it
  pub is_new : IsDistinct nat_eq hashes → times (get_or hashes i 0 + 1) table ≡ 0
  is_new distinct =
      let hash = get_or hashes i 0 in
      let rest = drop (suc i) hashes in
      let apart : IsDistinct nat_eq (hash ∷ rest) = subst (λ (l : List ℕ). IsDistinct nat_eq l) (drop_at i hashes within) (distinct_drop i hashes distinct) in
      omega (arith, before.entries hash, none_times hash rest (head_once hash rest apart) (times hash rest) refl)

  -- a table that is at most half full has an empty place
  pub still_room : 4 ≤ length table → 2 * length hashes ≤ length table → Contains table 0
  still_room wide half = contains_from_times table 0 (omega (arith, before.vacant, length-drop (suc i) hashes))

  -- with that hash it is a table of one more
  pub one_more : (new : List ℕ) → IsProbed new → HasSame (0 ∷ new) ((get_or hashes i 0 + 1) ∷ table) → length new ≡ length table → IsTabled (drop i hashes) new
  one_more new probed more long =
      subst (λ (l : List ℕ). IsTabled l new) (sym (drop_at i hashes within)) (tabled_more (get_or hashes i 0) (drop (suc i) hashes) table new before probed more long)

-- the same hashes with another table
pub held_moved : (k : ℕ) (heap old new : List ℕ) → IsHeld k heap old → IsTabled heap new → IsPowerOfTwo (length new) → 4 ≤ length new → 2 * length heap ≤ length new → length new ≤ most_places → IsHeld k heap new
held_moved k heap old new held tabled power wide half short = record {
  least = held.least;
  most = held.most;
  within = held.within;
  items = held.items;
  distinct = held.distinct;
  order = held.order;
  power = power;
  wide = wide;
  half = half;
  short = short;
  probed = tabled.probed;
  entries = tabled.entries;
  vacant = tabled.vacant;
}
