use Rattle.std.proofs.Common.{[], length, ap, ◌∙◌, arith}
use Rattle.sk_model.specs.Lines.{lines_of}
use Rattle.sk_model.proofs.Lines.{lines_of_nothing}
use Rattle.sk_lines.proofs.WholeLines.{no_lines}
use Rattle.sk_fill.proofs.PageText.{page_of, text_of}
use Rattle.sk_lines.specs.Padded.{PaddedState}
use Rattle.sk_fill.proofs.EvenPages.{unknown}
use Rattle.sk_fill.proofs.page.Page.clear.Goals as goal

pub invariant_of-self : goal.invariant_of-self
invariant_of-self c =
    let none = c.clear.ensures.items in
    (page_of _ [] _ 0 (ap (λ (p : PaddedState). p.items) c.cut.ensures) no_lines (λ k d below. absurd (omega (arith, ap length none))), unknown 0 _)

pub returns-clause-lines : goal.returns-clause-lines
returns-clause-lines c = ap lines_of (text_of _ [] (ap (λ (p : PaddedState). p.items) c.cut.ensures)) ∙ lines_of_nothing
