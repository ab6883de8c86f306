-- What a walk along the table meets, if it looks at several places together.
use Rattle.std.proofs.Common.{◌≡◌, ◌≢◌, ◌⊎◌, ℕ, ◌+◌, ◌-◌, ◌*◌, ◌%◌, ◌^◌, ◌<◌, ◌≤◌, List, length, map, get_or, slice_index, Contains, ⊎_elim, cond, eqb, nat_eq, true, not, true≢false, eqb-true, eq-eqb, replicate, sym, ap, ◌∙◌, arith, w64}
use Rattle.std.specs.List.{prefix_len}
use Rattle.std.specs.Simd.Lanes.{mask_l, top, zip2, chunk}
use Rattle.std.proofs.lemmas.Bool.{cases_lt}
use Rattle.std.proofs.lemmas.Simd.{bitmask_splat, length-chunk, none_from_empty_mask, run_in_chunk_le, run_in_chunk_fails, run_in_chunk_stops}
use Rattle.std.proofs.Math.Nat.{mod-add-mod, add-mul-mod_self_right, mod-eq_of_lt}
use Rattle.sk_heap.specs.Runs.{IsRun}
use Rattle.sk_heap.specs.Table.{home, going_round, IsGap, IsFirstEmpty, IsFirstFrom, HasNone}
use Rattle.sk_heap.proofs.Round.{one_round}

-- ---- several places together

pub none_of_block : (t : List ℕ) (at x : ℕ) → at + 8 ≤ length t
    → nat_eq (mask_l (map (top 63) (zip2 (λ a b. cond (eqb a b) (2 ^ 64 - 1) 0) (chunk at 8 t) (replicate 8 x))) % 2 ^ 64) 0 ≡ true → HasNone x t at (at + 8)
none_of_block t at x within empty k above below is =
    let mask : mask_l (map (λ y. eqb y x) (chunk at 8 t)) ≡ 0 =
    sym (bitmask_splat w64 eqb (chunk at 8 t) 8 x (length-chunk at 8 t within) (omega arith)) ∙ eqb-true _ 0 empty in
    true≢false (sym (eq-eqb (get_or t k 0) x is) ∙ none_from_empty_mask (λ y. eqb y x) t at 8 0 within mask k above below)

-- the first of n places that has a number
module _ (n : ℕ) (t : List ℕ) (at x r : ℕ) (within : at + n ≤ length t) (counted : r ≡ prefix_len (λ y. not (eqb y x)) (chunk at n t)) where
  pub near_within : r ≤ n
  near_within = run_in_chunk_le (λ y. eqb y x) t at n r 0 within counted

  pub near_passed : HasNone x t at (at + r)
  near_passed k above below is = true≢false (sym (eq-eqb (get_or t k 0) x is) ∙ run_in_chunk_fails (λ y. eqb y x) t at n r 0 within counted k above below)

  pub near_stops : r < n → get_or t (at + r) 0 ≡ x
  near_stops less = eqb-true _ x (run_in_chunk_stops (λ y. eqb y x) t at n r 0 within counted less)

-- ---- going round

module _ (t : List ℕ) (n : ℕ) where
  ahead : (e : ℕ) → n % length t + e < length t → (n + e) % length t ≡ n % length t + e
  ahead e inside = sym (mod-add-mod n (length t) e) ∙ mod-eq_of_lt inside

  round : (e p : ℕ) → n % length t + e ≡ p + 1 * length t → p < length t → (n + e) % length t ≡ p
  round e p sum inside =
      sym (mod-add-mod n (length t) e) ∙ ap (λ (s : ℕ). s % length t) sum ∙ add-mul-mod_self_right p 1 (length t) ∙ mod-eq_of_lt inside

  on_ahead : (e : ℕ) → n % length t + e < length t → going_round (length t) t (n + e) ≡ slice_index t (n % length t + e)
  on_ahead e inside = ap (λ (p : ℕ). get_or t p 0) (ahead e inside)

  -- the walk ends before the end of the table
  pub found_ahead : (entry at : ℕ) → n % length t ≤ at → at < length t → HasNone 0 t (n % length t) at → HasNone entry t (n % length t) at
      → (slice_index t at ≡ 0) ⊎ (slice_index t at ≡ entry) → IsFirstFrom entry t n at
  found_ahead entry at order inside full other stops =
      let steps : ℕ = at - n % length t in
      let sum : n % length t + steps ≡ at = omega arith in
      record {
        steps = steps;
        within = omega arith;
        is = sym (ahead steps (omega arith) ∙ sum);
        stops = stops;
        full = λ e less is. full (n % length t + e) (omega arith) (omega arith) (sym (on_ahead e (omega arith)) ∙ is);
        other = λ e less is. other (n % length t + e) (omega arith) (omega arith) (sym (on_ahead e (omega arith)) ∙ is);
      }

  module _ (x at : ℕ) (behind : HasNone x t (n % length t) (length t)) (front : HasNone x t 0 at) (below : at < n % length t) (under : n % length t < length t) where
    none_round : (e : ℕ) → e < at + length t - n % length t → going_round (length t) t (n + e) ≢ x
    none_round e less is = ⊎_elim
        (λ (inside : n % length t + e < length t). behind (n % length t + e) (omega arith) inside (sym (on_ahead e inside) ∙ is))
        (λ (past : length t ≤ n % length t + e).
        let p : ℕ = n % length t + e - length t in
        front p (omega arith) (omega arith) (sym (ap (λ (q : ℕ). get_or t q 0) (round e p (omega arith) (omega arith))) ∙ is))
        (cases_lt (n % length t + e) (length t))

  -- it continues from the start
  pub found_round : (entry at : ℕ) → Contains t 0 → HasNone 0 t (n % length t) (length t) → HasNone entry t (n % length t) (length t)
      → HasNone 0 t 0 at → HasNone entry t 0 at → (at < length t → (slice_index t at ≡ 0) ⊎ (slice_index t at ≡ entry)) → IsFirstFrom entry t n at
  found_round entry at room behind behind' front front' stops =
      let under : n % length t < length t = omega (arith, room.1) in
      let zero_before : room.0 < n % length t =
      ⊎_elim (λ (less : room.0 < n % length t). less) (λ (more : n % length t ≤ room.0). absurd (behind room.0 more room.1 room.2)) (cases_lt room.0 (n % length t)) in
      let at_most : at ≤ room.0 =
      ⊎_elim (λ (less : room.0 < at). absurd (front room.0 (omega arith) less room.2)) (λ (more : at ≤ room.0). more) (cases_lt room.0 at) in
      let below : at < n % length t = omega arith in
      let steps : ℕ = at + length t - n % length t in
      record {
        steps = steps;
        within = omega arith;
        is = sym (round steps at (omega arith) (omega arith));
        stops = stops (omega arith);
        full = none_round 0 at behind front below under;
        other = none_round entry at behind' front' below under;
      }

-- ---- the run after a gap

module _ (t : List ℕ) (start end d : ℕ) (g : IsGap (length t) t start 0 1) (f : IsFirstFrom 0 t (start + 1) end) (under : d < length t) (reaches : (start + 1 + d) % length t ≡ end) where
  steps_are : d ≡ f.steps
  steps_are = one_round (length t) (start + 1) d f.steps under f.within (reaches ∙ f.is)

  pub run_is_within : d + 1 < length t
  run_is_within =
      let a = g.ahead in
      let next : start + 1 + (a.0 - 1) ≡ start + a.0 = omega (arith, a.1) in
      ⊎_elim
      (λ (less : a.0 - 1 < f.steps). absurd (f.full (a.0 - 1) less (ap (λ (p : ℕ). going_round (length t) t p) next ∙ a.3)))
      (λ (more : f.steps ≤ a.0 - 1). omega (arith, steps_are, a.1, a.2))
      (cases_lt (a.0 - 1) f.steps)

  pub run_is_full : (c : ℕ) → 1 ≤ c → c ≤ d → going_round (length t) t (start + c) ≢ 0
  run_is_full c some under_end empty =
      let before : start + 1 + (c - 1) ≡ start + c = omega arith in
      f.full (c - 1) (omega (arith, steps_are)) (ap (λ (p : ℕ). going_round (length t) t p) before ∙ empty)

  pub run_is : IsRun (length t) t start d
  run_is =
      let next : start + (d + 1) ≡ start + 1 + d = omega arith in
      record {
        within = run_is_within;
        full = run_is_full;
        end = ap (λ (p : ℕ). going_round (length t) t p) next ∙ ap (λ (p : ℕ). get_or t p 0) reaches ∙ ⊎_elim (λ is. is) (λ is. is) (f.stops);
      }

-- ---- what the first eight places show

module _ (t : List ℕ) where
  flat : (n : ℕ) → n < length t → going_round (length t) t n ≡ get_or t n 0
  flat n inside = ap (λ (p : ℕ). get_or t p 0) (mod-eq_of_lt inside)

  pub run_near : (start r : ℕ) → start + 1 + 4 ≤ length t → r < 4 → HasNone 0 t (start + 1) (start + 1 + r) → get_or t (start + 1 + r) 0 ≡ 0 → IsRun (length t) t start r
  run_near start r within less passed stops =
      let next : start + (r + 1) ≡ start + 1 + r = omega arith in
      record {
        within = omega arith;
        full = λ c some under is. passed (start + c) (omega arith) (omega arith) (sym (flat (start + c) (omega arith)) ∙ is);
        end = flat (start + (r + 1)) (omega arith) ∙ ap (λ (p : ℕ). get_or t p 0) next ∙ stops;
      }

  pub first_empty : (n hash start same empty : ℕ) → start ≡ home (length t) hash → start + n ≤ length t → empty < n → empty ≤ same
      → HasNone 0 t start (start + empty) → HasNone (hash + 1) t start (start + same) → get_or t (start + empty) 0 ≡ 0 → IsFirstEmpty hash t (start + empty)
  first_empty n hash start same empty is within less order full other stops =
      let from : (e : ℕ) → home (length t) hash + e ≡ start + e = λ e. ap (λ (h : ℕ). h + e) (sym is) in
      let there : (e : ℕ) → start + e < length t → going_round (length t) t (home (length t) hash + e) ≡ get_or t (start + e) 0 =
      λ e inside. ap (λ (n : ℕ). going_round (length t) t n) (from e) ∙ flat (start + e) inside in
      record {
        steps = empty;
        within = omega arith;
        is = sym (ap (λ (n : ℕ). n % length t) (from empty) ∙ mod-eq_of_lt (omega arith));
        empty = stops;
        passed = λ e under zero. full (start + e) (omega arith) (omega arith) (sym (there e (omega arith)) ∙ zero);
        other = λ e under found. other (start + e) (omega arith) (omega arith) (sym (there e (omega arith)) ∙ found);
      }
