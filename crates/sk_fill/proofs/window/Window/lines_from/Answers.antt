use Rattle.std.proofs.Common.{drop, ap, ◌∙◌}
use Rattle.sk_fill.proofs.Pages.{lines_behind}
use Rattle.sk_fill.proofs.window.Window.lines_from.Goals as goal

pub returns : goal.returns
returns c =
    c.of-2.ensures
    ∙ lines_behind c.self.inside.page c.self.inside.spans.items c.deref-3.result.now c.self.inside.text.items c.deref-2.result.now c.lines_from-2.result.rest c.len-lines.result c.args.place
    c.len-lines.ensures c.lines_from-2.ensures c.deref-3.ensures.value c.deref-2.ensures.value c.if-place-lines.false
    ∙ ap (λ w. drop c.args.place w.lines) c.self.view_is
