use Rattle.std.proofs.Common.{◌≢◌, ℕ, ◌+◌, ◌-◌, ◌<◌, ◌≤◌, ◌++◌, ⊎_elim, slice_index, length, take, sym, ap, ◌∙◌, subst, arith}
use Rattle.std.proofs.lemmas.Bool.{cases_lt}
use Rattle.sk_model.specs.Lines.{lines_of}
use Rattle.sk_fill.specs.Pages.{PageLinesState, text_from}
use Rattle.sk_lines.specs.Spans.{AreBehind, IsLongLine, lines_at}
use Rattle.sk_lines.proofs.Steps.{no_lf_in_rest}
use Rattle.sk_fill.proofs.PageText.{none_without_lf}
use Rattle.sk_fill.proofs.PageGroups.{Passed, no_long_line, lines_passed, way_behind}
use Rattle.sk_fill.proofs.page.PageLines.next_lines.Goals.{After-cut_group-count}
use Rattle.sk_fill.proofs.page.PageLines.next_lines.Goals as goal

passed : (c : After-cut_group-count) → Passed c.self.inside.text.now c.self.inside.at c.cut_group-count.result.1 (take c.cut_group-count.result.0 c.cut_group-count.new.spans)
passed c =
    let a = c.self.inside in
    let way = c.self.invariant in
    lines_passed a.text.now (length a.text.now) a.at c.cut_group-count.result.1 (take c.cut_group-count.result.0 c.cut_group-count.new.spans) way.padded way.within way.whole c.cut_group-count.ensures.lines

pub invariant_of-self : goal.invariant_of-self
invariant_of-self c =
    way_behind c.self.inside.text.now c.self.inside.at c.cut_group-count.result.1 (take c.cut_group-count.result.0 c.cut_group-count.new.spans) c.self.invariant.padded (passed (goal.at.invariant_of-self c).After-cut_group-count)

pub returns-clause-within : goal.returns-clause-within
returns-clause-within c =
    subst (λ (l : PageLinesState). AreBehind 0 (take c.cut_group-count.result.0 c.cut_group-count.new.spans) l.text) c.self.view_is (passed (goal.at.returns-clause-within c).After-cut_group-count).behind

pub returns-clause-lines : goal.returns-clause-lines
returns-clause-lines c =
    let spans = take c.cut_group-count.result.0 c.cut_group-count.new.spans in
    ap (λ (l : PageLinesState). l.rest) (sym c.self.view_is) ∙ (passed (goal.at.returns-clause-lines c).After-cut_group-count).lines
    ∙ ap (λ (l : PageLinesState). lines_at spans l.text ++ lines_of (text_from c.cut_group-count.result.1 c.self.inside.text.now)) c.self.view_is

-- where no end is found, no line is left
pub returns-clause-some : goal.returns-clause-some
returns-clause-some c = λ wanted left.
    let a = c.self.inside in
    let way = c.self.invariant in
    let rest : 0 < length (lines_of (text_from a.at a.text.now)) = subst (λ (l : PageLinesState). 0 < length l.rest) (sym c.self.view_is) left in
    ⊎_elim
    (λ (some : 0 < c.cut_group-count.result.0). some)
    (λ (none : c.cut_group-count.result.0 ≤ 0). absurd (⊎_elim
    (λ (long : IsLongLine a.text.now (length a.text.now) c.cut_group-count.result.1). no_long_line a.text.now c.cut_group-count.result.1 long)
    (λ (no : (i : ℕ) → a.at ≤ i → i + 64 < length a.text.now → slice_index a.text.now i ≢ 10).
    let no_lf = no_lf_in_rest a.text.now a.at (length a.text.now - 64) (omega (arith, way.within)) (omega arith) (λ i from below. no i from (omega (arith, below))) in
    omega (arith, none_without_lf (text_from a.at a.text.now) way.whole no_lf))
    (c.cut_group-count.ensures.none (omega (arith, none)) wanted)))
    (cases_lt 0 c.cut_group-count.result.0)
