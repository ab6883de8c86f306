use Rattle.std.proofs.Common.{◌-◌, ◌+◌, ◌++◌, ◌∷◌, [], List, ℕ, length, length-take, length-append, ap, ◌∙◌, arith}
use Rattle.sk_model.specs.Lines.{lines_of}
use Rattle.sk_fill.specs.Pages.{text_in}
use Rattle.sk_fill.proofs.PageText as pages
use Rattle.sk_lines.proofs.Places as places
use Rattle.sk_fill.proofs.EvenPages.{unknown}
use Rattle.sk_fill.proofs.page.Page.push.Goals as goal

pub overflow_add-self : goal.overflow_add-self
overflow_add-self c =
    let a = c.self.inside in
    let size = places.length_padded c.append.new.buffer.items (text_in a.buffer.items) (c.args.line.now ++ 13 ∷ 10 ∷ []) c.in_ok-append.ensures.items in
    record { fits = omega (arith, pages.count_is_few a.buffer.items a.places.items a.count c.self.invariant.0, size, length-take (length a.buffer.items - 64) a.buffer.items, length-append c.args.line.now (13 ∷ 10 ∷ []), c.in_ok-append.ensures.few) }

pub invariant_of-self-2 : goal.invariant_of-self-2
invariant_of-self-2 c =
    let a = c.self.inside in
    let new : List ℕ = c.append.new.buffer.items in
    let line : List ℕ = c.args.line.now in
    let is = c.in_ok-append.ensures.items in
    (pages.page_more a.buffer.items new (line ++ 13 ∷ 10 ∷ []) a.places.items a.count 1 is c.self.invariant.0 (pages.run_of_one line c.requires), unknown (a.count + 1) (text_in new))

pub returns-clause-lines : goal.returns-clause-lines
returns-clause-lines c =
    let a = c.self.inside in
    let new : List ℕ = c.append.new.buffer.items in
    let line : List ℕ = c.args.line.now in
    let is = c.in_ok-append.ensures.items in
    pages.lines_more a.buffer.items new (line ++ 13 ∷ 10 ∷ []) a.places.items a.count is c.self.invariant.0
    ∙ ap (λ (ls : List (List ℕ)). lines_of (text_in a.buffer.items) ++ ls) (pages.one_line line c.requires)
    ∙ ap (λ page. page.lines ++ line ∷ []) (c.self.view_is ∙ c.note.ensures)
