-- Lemmas on texts of whole lines.
use Rattle.std.proofs.Common.{ℕ, ◌+◌, ◌≤◌, ◌==◌, Bool, true, false, cond, inl, inr, List, [], ◌∷◌, ◌++◌, length, refl, sym, ap, ◌∙◌, subst, arith, append_assoc, append-nil, length-append}
use Rattle.std.specs.List.{concat, slice_split, onto_first}
use Rattle.std.specs.Str.Lines.{lines_of_parts, strip_carriage_return}
use Rattle.sk_model.specs.Lines.{lines_of}
use Rattle.sk_model.proofs.Lines.{lines_of_nothing, after_whole_lines, length-strip}
use Rattle.sk_lines.specs.Cutter.{IsOfWholeLines}
use Rattle.sk_lines.specs.Runs.{IsRun}

-- ---- whole lines

pub no_lines : IsRun 0 []
no_lines = record { whole = inl refl; count = ap length lines_of_nothing }

whole_more : (front back : List ℕ) → IsOfWholeLines front → IsOfWholeLines back → IsOfWholeLines (front ++ back)
whole_more front back first (inl none) = subst IsOfWholeLines (sym (ap (λ (l : List ℕ). front ++ l) none ∙ append-nil front)) first
whole_more front back first (inr ends) = inr (front ++ ends.0, ap (λ (l : List ℕ). front ++ l) ends.1 ∙ sym (append_assoc front ends.0 (10 ∷ [])))

pub run_more : (n m : ℕ) (front back : List ℕ) → IsRun n front → IsRun m back → IsRun (n + m) (front ++ back)
run_more n m front back first then = record {
  whole = whole_more front back first.whole then.whole;
  count = omega (arith, ap length (after_whole_lines front back first.whole), length-append (lines_of front) (lines_of back), first.count, then.count);
}

-- ---- lines have no more bytes than their text

few_onto : (b : Bool) (x n : ℕ) (ps : List (List ℕ)) → length (concat ps) ≤ n → length (concat (cond b ([] ∷ ps) (onto_first x ps))) ≤ n + 1
few_onto true x n ps few = omega arith
few_onto false x n [] few = omega arith
few_onto false x n (p ∷ ps) few = omega arith

few_in_parts : (text : List ℕ) → length (concat (slice_split (λ b. b == 10) text)) ≤ length text
few_in_parts [] = omega arith
few_in_parts (x ∷ xs) = omega (arith, few_onto (x == 10) x (length xs) (slice_split (λ b. b == 10) xs) (few_in_parts xs))

few_in_last : (b : Bool) (p : List ℕ) → length (concat (cond b [] (p ∷ []))) ≤ length (concat (p ∷ []))
few_in_last true p = omega arith
few_in_last false p = omega arith

few_in_lines : (ps : List (List ℕ)) → length (concat (lines_of_parts ps)) ≤ length (concat ps)
few_in_lines [] = omega arith
few_in_lines (p ∷ []) = few_in_last (length p == 0) p
few_in_lines (p ∷ q ∷ more) = omega (
  arith,
  few_in_lines (q ∷ more),
  length-strip p,
  length-append p (concat (q ∷ more)),
  length-append (strip_carriage_return p) (concat (lines_of_parts (q ∷ more))),
)

pub bytes_are_few : (text : List ℕ) → length (concat (lines_of text)) ≤ length text
unfolding lines_of
bytes_are_few text = omega (arith, few_in_lines (slice_split (λ b. b == 10) text), few_in_parts text)
