use Rattle.std.proofs.Common.{ap, ◌∙◌, [], length, arith}
use Rattle.sk_model.specs.Lines.{lines_of}
use Rattle.sk_model.proofs.Lines.{lines_of_nothing}
use Rattle.sk_lines.proofs.WholeLines.{no_lines}
use Rattle.sk_fill.proofs.PageText.{page_of, text_of}
use Rattle.sk_fill.proofs.EvenPages.{unknown}
use Rattle.sk_fill.proofs.page.Page.new.Goals as goal

pub invariant_of-result : goal.invariant_of-result
invariant_of-result c =
    let none = c.new-2.ensures.items in
    (page_of _ [] _ 0 c.in_ok-new.ensures.items no_lines (λ k d below. absurd (omega (arith, ap length none))), unknown 0 _)

pub returns-clause-lines : goal.returns-clause-lines
returns-clause-lines c =
    ap lines_of (text_of _ [] c.in_ok-new.ensures.items) ∙ lines_of_nothing
