use Rattle.std.proofs.Common.{length, vec_len, ap, arith}
use Rattle.std.specs.List.{concat}
use Rattle.sk_fill.proofs.Pages.{all_bytes}
use Rattle.sk_fill.proofs.window.Window.size.Goals as goal

pub returns-clause-least : goal.returns-clause-least
returns-clause-least c =
    let inside = c.self.inside in
    let window = c.self.invariant.0 in
    let small = window.small in
    let bytes = ap (λ w. length (concat w.lines)) c.self.view_is in
    omega (arith, all_bytes inside.page inside.page_bytes inside.most inside.spans.items inside.text.items window, c.size.ensures.lines, inside.text.ok.0)
