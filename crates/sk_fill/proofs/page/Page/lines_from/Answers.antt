use Rattle.std.proofs.Common.{List, ℕ, drop, sym, ap, ◌∙◌, subst}
use Rattle.sk_model.specs.Lines.{lines_of}
use Rattle.sk_fill.specs.Pages.{PageState, AreOnTheWay, Begins, text_in, text_from}
use Rattle.sk_fill.proofs.PageText as pages
use Rattle.sk_fill.proofs.page.Page.lines_from.Goals as goal

pub invariant_of-result : goal.invariant_of-result
invariant_of-result c =
    let a = c.self.inside in
    let at : ℕ = c.find_line-at.result in
    let begins = subst (λ (l : List ℕ). Begins (text_in l) c.args.place at) c.bytes-text.ensures c.find_line-at.ensures in
    subst (λ (l : List ℕ). AreOnTheWay l at at 0) (sym c.bytes-text.ensures)
    (pages.way_from a.buffer.items a.places.items a.count c.args.place at c.self.invariant.0 begins)

pub returns : goal.returns
returns c =
    let a = c.self.inside in
    let at : ℕ = c.find_line-at.result in
    let begins = subst (λ (l : List ℕ). Begins (text_in l) c.args.place at) c.bytes-text.ensures c.find_line-at.ensures in
    ap (λ (l : List ℕ). lines_of (text_from at l)) c.bytes-text.ensures
    ∙ pages.rest_from a.buffer.items c.args.place at c.self.invariant.0.padded begins
    ∙ ap (λ (page : PageState). drop c.args.place page.lines) c.self.view_is
