-- Many lines of a page that are given at once.
use Rattle.std.proofs.Common.{◌≡◌, ℕ, ◌+◌, ◌-◌, ◌≤◌, List, [], ◌∷◌, ◌++◌, length, drop, slice_range, refl, sym, ap, ◌∙◌, subst, arith, length-take, length-drop}
use Rattle.std.specs.Str.Lines.{strip_carriage_return}
use Rattle.std.proofs.lemmas.List.Elements.{All-nil, All-cons, All-head}
use Rattle.sk_model.specs.Lines.{lines_of}
use Rattle.sk_model.proofs.Lines.{length-strip}
use Rattle.sk_lines.specs.Cutter.{IsOfWholeLines}
use Rattle.sk_lines.specs.Marks.{KnowsLfs}
use Rattle.sk_fill.specs.Pages.{text_from, IsPadded, AreOnTheWay}
use Rattle.sk_lines.specs.Spans.{IsLine, AreLines, IsLongLine, AreBehind, lines_at}
use Rattle.sk_lines.specs.declared.spans.Span.{Span}
use Rattle.sk_lines.proofs.Places.{known_none}
use Rattle.sk_lines.proofs.Steps.{found_line}
use Rattle.sk_fill.proofs.PageText.{whole_behind, next_is}

-- no line is longer than its text
pub no_long_line : (bytes : List ℕ) (at : ℕ) → IsLongLine bytes (length bytes) at → ⊥
no_long_line bytes at long =
    let piece : List ℕ = slice_range bytes at long.0 in
    omega (arith, long.2, (length-strip piece).1, length-take (long.0 - at) (drop at bytes), length-drop at bytes)

-- ---- lines

-- these lines lie from one place up to another
pub record Passed (bytes : List ℕ) (from at : ℕ) (spans : List Span) : Type 0 where
  pub within : at + 64 ≤ length bytes
  pub whole : IsOfWholeLines (text_from at bytes)
  pub lines : lines_of (text_from from bytes) ≡ lines_at spans bytes ++ lines_of (text_from at bytes)
  pub behind : AreBehind 0 spans bytes

line_passed : (bytes : List ℕ) (limit from end : ℕ) (span : Span) → IsPadded bytes → from + 64 ≤ length bytes → IsOfWholeLines (text_from from bytes) → IsLine bytes limit from end span → Passed bytes from (end + 1) (span ∷ [])
line_passed bytes limit from end span padded fits whole line =
    let known : KnowsLfs bytes (end + 1) (end + 1) 0 = known_none bytes (end + 1) (end + 1) (omega arith) (λ i above below. absurd (omega arith)) in
    let f = found_line bytes from (length bytes) end (end + 1) 0 fits refl padded.zeros (record { first = line.lf; known = known }) in
    let piece : List ℕ = slice_range bytes from end in
    let rest : List (List ℕ) = lines_of (text_from (end + 1) bytes) in
    record {
      within = omega (arith, f.text);
      whole = subst IsOfWholeLines (sym f.behind) (whole_behind (end - from + 1) (text_from from bytes) (omega (arith, f.lf.within)) whole);
      lines = next_is bytes from end (length (strip_carriage_return piece)) (end + 1) 0 f refl
          ∙ ap (λ (to : ℕ). slice_range bytes from to ∷ rest) (sym line.size) ∙ ap (λ (start : ℕ). slice_range bytes start span.to ∷ rest) (sym line.start);
      behind = All-cons (λ (s : Span). (0 ≤ s.from) × (s.from ≤ s.to) × (s.to ≤ length bytes)) span []
          (omega arith, omega (arith, line.start, line.size), omega (arith, line.size, (length-strip piece).1, length-take (end - from) (drop from bytes), f.text, f.from))
          (All-nil (λ (s : Span). (0 ≤ s.from) × (s.from ≤ s.to) × (s.to ≤ length bytes)));
    }

pub lines_passed : (bytes : List ℕ) (limit from at : ℕ) (spans : List Span) → IsPadded bytes → from + 64 ≤ length bytes → IsOfWholeLines (text_from from bytes) → AreLines bytes limit from spans at → Passed bytes from at spans
unfolding AreLines
lines_passed bytes limit from at [] padded fits whole lines = subst (λ (k : ℕ). Passed bytes from k []) lines (record {
  within = fits;
  whole = whole;
  lines = refl;
  behind = All-nil (λ (s : Span). (0 ≤ s.from) × (s.from ≤ s.to) × (s.to ≤ length bytes));
})
lines_passed bytes limit from at (span ∷ spans) padded fits whole (end, line, more) =
    let first = line_passed bytes limit from end span padded fits whole line in
    let later = lines_passed bytes limit (end + 1) at spans padded first.within first.whole more in
    record {
      within = later.within;
      whole = later.whole;
      lines = first.lines ∙ ap (λ (ls : List (List ℕ)). slice_range bytes span.from span.to ∷ ls) later.lines;
      behind = All-cons (λ (s : Span). (0 ≤ s.from) × (s.from ≤ s.to) × (s.to ≤ length bytes)) span spans
          (All-head (λ (s : Span). (0 ≤ s.from) × (s.from ≤ s.to) × (s.to ≤ length bytes)) span [] first.behind) later.behind;
    }

-- after them
pub way_behind : (bytes : List ℕ) (from at : ℕ) (spans : List Span) → IsPadded bytes → Passed bytes from at spans → AreOnTheWay bytes at at 0
way_behind bytes from at spans padded passed = record {
  padded = padded;
  within = passed.within;
  whole = passed.whole;
  far = omega (arith, passed.within);
  block = λ some. absurd (some refl);
  known = known_none bytes at at (omega arith) (λ i above below. absurd (omega arith));
}
