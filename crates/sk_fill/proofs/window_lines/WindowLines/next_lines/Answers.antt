use Rattle.std.proofs.Common.{◌≤◌, length, sym, ap, ◌∙◌, arith}
use Rattle.sk_fill.proofs.Pages.{lines_apart}
use Rattle.sk_fill.proofs.window_lines.WindowLines.next_lines.Goals as goal

pub returns-clause-lines : goal.returns-clause-lines
returns-clause-lines c =
    let a = c.self.inside in
    let n = c.min-count.result in
    let few : n ≤ length a.spans.now = omega (arith, c.min-count.ensures, c.min.ensures) in
    ap (λ w. w.rest) (sym c.self.view_is)
    ∙ lines_apart a.page.rest a.spans.now c.copy_from_slice.new.self _ a.text.now n (omega (arith, c.self.invariant.0, c.if-self-gt0.false)) c.copy_from_slice.ensures.after few
