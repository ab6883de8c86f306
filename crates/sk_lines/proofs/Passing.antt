-- Lemmas on LFs that are passed over.
use Rattle.std.proofs.Common.{◌≡◌, ◌≢◌, ◌↔◌, ℕ, zero, suc, ◌+◌, ◌-◌, ◌/◌, ◌%◌, ◌^◌, ◌<◌, ◌≤◌, inr, ⊎_elim, List, [], ◌∷◌, ◌++◌, length, take, drop, slice_index, slice_range, refl, sym, ap, ◌∙◌, subst, arith, length-drop, take-add, drop-drop, get_or-drop}
use Rattle.std.specs.Int.{bit_at}
use Rattle.std.proofs.lemmas.List.{take_more}
use Rattle.std.proofs.lemmas.Bool.{cases_lt, cases_eq}
use Rattle.std.proofs.lemmas.Nat.Bits.{bit_at_lowest, bit_at-suc}
use lib.Count.{count_leading_zeros, ones, ones_step, leading_of_zero}
use native.Mathlib.Nat.{pow-suc}
use Rattle.sk_model.proofs.Lines.{a_line_alone}
use Rattle.sk_lines.specs.Cutter.{HasNoLf}
use Rattle.sk_lines.specs.Runs.{IsRun}
use Rattle.sk_lines.proofs.WholeLines.{no_lines, run_more}
use Rattle.sk_lines.proofs.Steps as steps

-- LFs were passed over from a place up to another, and the last stands before `at`
pub record HasPassed (bytes : List ℕ) (from scanned count at : ℕ) : Type 0 where
  pub ordered : from ≤ at
  pub behind : at ≤ scanned
  pub run : IsRun count (slice_range bytes from at)
  pub none : (i : ℕ) → at ≤ i → i < scanned → slice_index bytes i ≢ 10

pub none_passed : (bytes : List ℕ) (from : ℕ) → HasPassed bytes from from 0 from
none_passed bytes from =
    let same : from - from ≡ 0 = omega arith in
    record {
      ordered = omega arith;
      behind = omega arith;
      run = subst (λ (n : ℕ). IsRun 0 (take n (drop from bytes))) (sym same) no_lines;
      none = λ i past before lf. omega arith;
    }

pub pass_other : (bytes : List ℕ) (from scanned count at : ℕ) → HasPassed bytes from scanned count at → slice_index bytes scanned ≢ 10 → HasPassed bytes from (scanned + 1) count at
pass_other bytes from scanned count at p other = record {
  ordered = p.ordered;
  behind = omega (arith, p.behind);
  run = p.run;
  none = λ i past before lf.
      ⊎_elim
      (λ (early : i < scanned). p.none i past early lf)
      (λ (late : scanned ≤ i). let same : i ≡ scanned = omega arith in other (ap (slice_index bytes) (sym same) ∙ lf))
      (cases_lt i scanned);
}

-- the bytes up to an LF, after the last
up_to_lf : (bytes : List ℕ) (from at scanned : ℕ) → from ≤ at → at ≤ scanned → scanned < length bytes → slice_index bytes scanned ≡ 10
    → slice_range bytes from (scanned + 1) ≡ slice_range bytes from at ++ (slice_range bytes at scanned ++ 10 ∷ [])
up_to_lf bytes from at scanned order behind within lf =
    let size : scanned + 1 - from ≡ (at - from) + (scanned - at + 1) = omega arith in
    let start : from + (at - from) ≡ at = omega arith in
    let place : at + (scanned - at) ≡ scanned = omega arith in
    let inside : scanned - at < length (drop at bytes) = omega (arith, length-drop at bytes) in
    ap (λ (n : ℕ). take n (drop from bytes)) size ∙ take-add (at - from) (scanned - at + 1) (drop from bytes)
    ∙ ap (λ (l : List ℕ). slice_range bytes from at ++ take (scanned - at + 1) l) (drop-drop (at - from) from bytes ∙ ap (λ (n : ℕ). drop n bytes) start)
    ∙ ap (λ (l : List ℕ). slice_range bytes from at ++ l) (take_more (drop at bytes) (scanned - at) 0 inside
    ∙ ap (λ (byte : ℕ). slice_range bytes at scanned ++ byte ∷ []) (get_or-drop at bytes (scanned - at) 0 ∙ ap (slice_index bytes) place ∙ lf))

pub pass_lf : (bytes : List ℕ) (from scanned count at : ℕ) → HasPassed bytes from scanned count at → scanned < length bytes → slice_index bytes scanned ≡ 10
    → HasPassed bytes from (scanned + 1) (count + 1) (scanned + 1)
pass_lf bytes from scanned count at p within lf =
    let piece : List ℕ = slice_range bytes at scanned in
    let no_lf : HasNoLf piece = steps.no_lf_in_rest bytes at scanned p.behind (omega arith) p.none in
    record {
      ordered = omega (arith, p.ordered, p.behind);
      behind = omega arith;
      run = subst (IsRun (count + 1)) (sym (up_to_lf bytes from at scanned p.ordered p.behind within lf))
          (run_more count 1 (slice_range bytes from at) (piece ++ 10 ∷ []) p.run
          (record { whole = inr (piece, refl); count = ap length (a_line_alone piece no_lf) }));
      none = λ i past before is. omega arith;
    }

-- ---- the LFs of a block, by the bits that mark them

-- this many more bytes were passed over, whose LFs are marked
pub record PassesMarks (bytes : List ℕ) (from scanned count at k marks : ℕ) : Type 0 where
  pub end : ℕ
  pub passed : HasPassed bytes from (scanned + k) (count + ones marks) end
  pub none : marks ≡ 0 → end ≡ at
  pub some : marks ≢ 0 → (end + count_leading_zeros k marks ≡ scanned + k) × (1 ≤ end) × (slice_index bytes (end - 1) ≡ 10)

leading_step : (k marks : ℕ) → marks ≢ 0 → count_leading_zeros (suc k) marks ≡ count_leading_zeros k (marks / 2)
unfolding count_leading_zeros
leading_step k zero some = absurd (some refl)
leading_step k (suc n) some = refl

-- which bytes are LFs
abbrev AreMarked : List ℕ → ℕ → ℕ → ℕ → Type 0
AreMarked bytes scanned k marks = (j : ℕ) → (bit_at marks j ≡ 1) ↔ ((j < k) × (slice_index bytes (scanned + j) ≡ 10))

marked_on : (bytes : List ℕ) (scanned k marks : ℕ) → AreMarked bytes scanned (suc k) marks → AreMarked bytes (scanned + 1) k (marks / 2)
marked_on bytes scanned k marks marked j =
    let place : scanned + suc j ≡ scanned + 1 + j = omega arith in
    let m = marked (suc j) in (
      λ set. let t = m.0 (bit_at-suc marks j ∙ set) in (omega (arith, t.0), sym (ap (slice_index bytes) place) ∙ t.1),
      λ here. sym (bit_at-suc marks j) ∙ m.1 (omega (arith, here.0), ap (slice_index bytes) place ∙ here.1),
    )

pass_nothing : (bytes : List ℕ) (from scanned count at marks : ℕ) → marks ≡ 0 → HasPassed bytes from scanned count at → PassesMarks bytes from scanned count at 0 marks
unfolding ones
pass_nothing bytes from scanned count at marks is p =
    let place : scanned ≡ scanned + 0 = omega arith in
    let number : count ≡ count + ones marks = omega (arith, ap ones is) in
    record {
      end = at;
      passed = subst (λ (n : ℕ). HasPassed bytes from n (count + ones marks) at) place (subst (λ (n : ℕ). HasPassed bytes from scanned n at) number p);
      none = λ _. refl;
      some = λ other. absurd (other is);
    }

-- the first byte is no LF
first_other : (bytes : List ℕ) (from scanned count at k marks : ℕ) → marks % 2 ≡ 0 → PassesMarks bytes from (scanned + 1) count at k (marks / 2) → PassesMarks bytes from scanned count at (suc k) marks
first_other bytes from scanned count at k marks even rest =
    let place : scanned + 1 + k ≡ scanned + suc k = omega arith in
    let number : count + ones (marks / 2) ≡ count + ones marks = omega (arith, ones_step marks) in
    record {
      end = rest.end;
      passed = subst (λ (n : ℕ). HasPassed bytes from n (count + ones marks) rest.end) place (subst (λ (n : ℕ). HasPassed bytes from (scanned + 1 + k) n rest.end) number rest.passed);
      none = λ is. rest.none (omega arith);
      some = λ other.
          let t = rest.some (λ half. other (omega arith)) in
          (omega (arith, t.0, leading_step k marks other), t.1, t.2);
    }

-- the first byte is an LF
first_lf : (bytes : List ℕ) (from scanned count at k marks : ℕ) → marks % 2 ≡ 1 → slice_index bytes scanned ≡ 10
    → PassesMarks bytes from (scanned + 1) (count + 1) (scanned + 1) k (marks / 2) → PassesMarks bytes from scanned count at (suc k) marks
first_lf bytes from scanned count at k marks odd lf rest =
    let place : scanned + 1 + k ≡ scanned + suc k = omega arith in
    let number : count + 1 + ones (marks / 2) ≡ count + ones marks = omega (arith, ones_step marks) in
    record {
      end = rest.end;
      passed = subst (λ (n : ℕ). HasPassed bytes from n (count + ones marks) rest.end) place (subst (λ (n : ℕ). HasPassed bytes from (scanned + 1 + k) n rest.end) number rest.passed);
      none = λ is. absurd (omega arith);
      some = λ other.
          let step = leading_step k marks other in
          ⊎_elim
          (λ (half : marks / 2 ≡ 0).
          let end = rest.none half in
          let last : scanned ≡ rest.end - 1 = omega (arith, end) in
          (omega (arith, end, step, ap (count_leading_zeros k) half, leading_of_zero k), omega (arith, end), ap (slice_index bytes) (sym last) ∙ lf))
          (λ (half : marks / 2 ≢ 0). let t = rest.some half in (omega (arith, t.0, step), t.1, t.2))
          (cases_eq (marks / 2) 0);
    }

pass_marks : (k : ℕ) (bytes : List ℕ) (from scanned count at marks : ℕ) → marks < 2 ^ k → scanned + k ≤ length bytes → AreMarked bytes scanned k marks
    → HasPassed bytes from scanned count at → PassesMarks bytes from scanned count at k marks
pass_marks zero bytes from scanned count at marks small within marked p = pass_nothing bytes from scanned count at marks (omega arith) p
pass_marks (suc k) bytes from scanned count at marks small within marked p =
    let half : marks / 2 < 2 ^ k = omega (arith, pow-suc 2 k) in
    let here : scanned + 0 ≡ scanned = omega arith in
    let low = bit_at_lowest marks in
    let rest = marked_on bytes scanned k marks marked in
    ⊎_elim
    (λ (even : marks % 2 ≡ 0).
    let other : slice_index bytes scanned ≢ 10 = λ lf. let set = (marked 0).1 (omega arith, ap (slice_index bytes) here ∙ lf) in omega (arith, low, set) in
    first_other bytes from scanned count at k marks even
    (pass_marks k bytes from (scanned + 1) count at (marks / 2) half (omega arith) rest (pass_other bytes from scanned count at p other)))
    (λ (odd : marks % 2 ≢ 0).
    let is : marks % 2 ≡ 1 = omega arith in
    let lf : slice_index bytes scanned ≡ 10 = sym (ap (slice_index bytes) here) ∙ ((marked 0).0 (low ∙ is)).1 in
    first_lf bytes from scanned count at k marks is lf
    (pass_marks k bytes from (scanned + 1) (count + 1) (scanned + 1) (marks / 2) half (omega arith) rest (pass_lf bytes from scanned count at p (omega arith) lf)))
    (cases_eq (marks % 2) 0)

pub pass_block : (bytes : List ℕ) (from scanned count at marks : ℕ) → marks < 2 ^ 64 → scanned + 64 ≤ length bytes
    → ((j : ℕ) → (bit_at marks j ≡ 1) ↔ ((j < 64) × (slice_index bytes (scanned + j) ≡ 10)))
    → HasPassed bytes from scanned count at → PassesMarks bytes from scanned count at 64 marks
pass_block bytes from scanned count at marks small within marked p = pass_marks 64 bytes from scanned count at marks small within marked p
