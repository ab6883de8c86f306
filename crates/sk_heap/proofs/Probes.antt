-- What a search along the table finds, and one more entry.
use Rattle.std.proofs.Common.{◌≡◌, ◌≢◌, ℕ, ◌+◌, ◌-◌, ◌%◌, ◌<◌, ◌≤◌, List, length, set, get_or, Contains, ⊎_elim, sym, ap, ◌∙◌, arith}
use Rattle.std.proofs.lemmas.Bool.{cases_eq, cases_lt, cases_order}
use Rattle.std.proofs.lemmas.List.{get_or_default}
use Rattle.std.proofs.Math.Seq.{get_or-set_same, get_or-set_other}
use Rattle.sk_heap.specs.Table.{home, going_round, IsProbedOver, IsFirstEmpty}
use Rattle.sk_heap.proofs.Round.{one_round, steps_reach}

-- what stands at a place after a write there, and elsewhere
pub round_at : (len : ℕ) (t : List ℕ) (at v n : ℕ) → at < length t → n % len ≡ at → going_round len (set t at v) n ≡ v
round_at len t at v n inside same = ap (λ (p : ℕ). get_or (set t at v) p 0) same ∙ get_or-set_same t at v 0 inside

pub round_off : (len : ℕ) (t : List ℕ) (at v n : ℕ) → n % len ≢ at → going_round len (set t at v) n ≡ going_round len t n
round_off len t at v n apart = get_or-set_other t at (n % len) v 0 apart

module _ (len : ℕ) (t : List ℕ) (from : ℕ) where
  -- the steps to a place
  at_steps : (p : ℕ) → p < len → going_round len t (from + (p + len - from % len) % len) ≡ get_or t p 0
  at_steps p inside = ap (λ (n : ℕ). get_or t n 0) (steps_reach len from p inside)

  -- if no place is empty from one on, none is
  pub none_empty : ((e : ℕ) → e < len → going_round len t (from + e) ≢ 0) → (p : ℕ) → p < len → get_or t p 0 ≡ 0 → ⊥
  none_empty full p inside is =
      let under : (p + len - from % len) % len < len = omega arith in
      full ((p + len - from % len) % len) under (at_steps p inside ∙ is)

-- a hash that was not found up to an empty place stands nowhere
stands_nowhere : (len : ℕ) (t : List ℕ) (h : ℕ) → IsProbedOver len t → (steps : ℕ) → going_round len t (home len h + steps) ≡ 0 → ((e : ℕ) → e < steps → going_round len t (home len h + e) ≢ h + 1) → (p : ℕ) → p < len → get_or t p 0 ≡ h + 1 → ⊥
stands_nowhere len t h probed steps empty other p inside is =
    let n = (p + len - home len h % len) % len in
    let under : n < len = omega arith in
    let found : going_round len t (home len h + n) ≡ h + 1 = at_steps len t (home len h) p inside ∙ is in
    ⊎_elim (λ same. absurd (omega (arith, sym found ∙ ap (λ (n : ℕ). going_round len t (home len h + n)) same ∙ empty)))
    (λ apart. ⊎_elim (λ less. other n less found) (λ more. probed h n steps under found more empty) apart)
    (cases_order n steps)

-- no more places than there are have a number other than 0, since one is empty
pub steps_are_few : (t : List ℕ) (from steps : ℕ) → Contains t 0 → ((e : ℕ) → e < steps → going_round (length t) t (from + e) ≢ 0) → steps < length t
steps_are_few t from steps zero full =
    ⊎_elim (λ (less : steps < length t). less) (λ (more : length t ≤ steps). absurd (none_empty (length t) t from (λ e under. full e (omega arith)) zero.0 zero.1 zero.2)) (cases_lt steps (length t))

-- an entry more, at the first empty place
pub one_more_probed : (len : ℕ) (t : List ℕ) (hash at steps : ℕ) → len ≡ length t → IsProbedOver len t → steps < len → at ≡ (home len hash + steps) % len → ((e : ℕ) → e < steps → going_round len t (home len hash + e) ≢ 0) → IsProbedOver len (set t at (hash + 1))
one_more_probed len t hash at steps long probed within is passed h n e under found less empty =
    let inside : at < length t = omega arith in
    let off : (home len h + e) % len ≢ at = λ same. absurd (omega (arith, sym (round_at len t at (hash + 1) (home len h + e) inside same) ∙ empty)) in
    let empty' : going_round len t (home len h + e) ≡ 0 = sym (round_off len t at (hash + 1) (home len h + e) off) ∙ empty in
    ⊎_elim
    (λ same.
    let hashes : h ≡ hash = omega (arith, sym (round_at len t at (hash + 1) (home len h + n) inside same) ∙ found) in
    let meets : (home len hash + n) % len ≡ (home len hash + steps) % len = ap (λ (g : ℕ). (home len g + n) % len) (sym hashes) ∙ same ∙ is in
    let way : n ≡ steps = one_round len (home len hash) n steps under within meets in
    passed e (omega arith) (ap (λ (g : ℕ). going_round len t (home len g + e)) (sym hashes) ∙ empty'))
    (λ apart. probed h n e under (sym (round_off len t at (hash + 1) (home len h + n) apart) ∙ found) less empty')
    (cases_eq ((home len h + n) % len) at)

-- a hash with an empty place on its way is not in the table
pub is_absent : (t : List ℕ) (hash at : ℕ) → IsProbedOver (length t) t → IsFirstEmpty hash t at → Contains t (hash + 1) → ⊥
is_absent t hash at probed first there =
    stands_nowhere (length t) t hash probed (first.steps) (ap (λ (q : ℕ). get_or t q 0) (sym (first.is)) ∙ first.empty) (first.other) there.0 there.1 (get_or_default t there.0 0 (hash + 1) there.1 ∙ there.2)
