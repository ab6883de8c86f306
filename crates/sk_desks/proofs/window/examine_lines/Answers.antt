use Rattle.std.proofs.Common.{ℕ, List, All, get_or, take, slice_range, sym, subst, arith}
use Rattle.std.proofs.lemmas.List.{take_all}
use Rattle.std.proofs.lemmas.List.Elements.{All-push}
use Rattle.sk_lines.specs.Spans.{lines_at}
use Rattle.sk_lines.specs.declared.spans.Span.{Span}
use Rattle.sk_label.specs.declared.fault.LabelFault.{LabelFault}
use Rattle.sk_desks.specs.Gathers.{IsOfTenant, StopsWithin}
use Rattle.sk_desks.proofs.WentLaws.{stop_is}
use Rattle.sk_desks.proofs.WindowLaws.{no_bytes, lines_more, refused_among}
use Rattle.sk_desks.proofs.window.examine_lines.Goals as goal

pub returns-in_err-label-clause-stopped : goal.returns-in_err-label-clause-stopped
returns-in_err-label-clause-stopped c =
    let names = c.args.names.now in let spans = c.args.spans.now in let text = c.args.text.now in let f = c.in_err-label.field-0.0 in
    stop_is (λ (x : LabelFault). StopsWithin names (lines_at spans text) c.args.first x) f c.from_residual.result c.from_residual.ensures.1
    (refused_among text spans c.line.i no_bytes c.line-test.true names c.args.first f c.line.invariant.fine c.in_err-label.ensures.refused)

pub line-preserved : goal.line-preserved
line-preserved c =
    let names = c.args.names.now in let spans = c.args.spans.now in let text = c.args.text.now in let i = c.line.i in
    let span = get_or spans i no_bytes in
    let line : List ℕ = slice_range text span.from span.to in
    record {
      fine = subst (All (IsOfTenant names)) (sym (lines_more text spans i no_bytes c.line-test.true)) (All-push (IsOfTenant names) (lines_at (take i spans) text) line c.line.invariant.fine c.in_ok-label.ensures.fine);
    }

pub returns-clause-fine : goal.returns-clause-fine
returns-clause-fine c =
    let spans = c.args.spans.now in
    subst (λ (ss : List Span). All (IsOfTenant c.args.names.now) (lines_at ss c.args.text.now)) (take_all c.line.i spans (omega (arith, c.line-test.false))) c.line.invariant.fine
