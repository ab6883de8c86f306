use Rattle.std.proofs.Common.{◌-◌, ◌+◌, ◌++◌, [], List, ℕ, length, length-take, length-append, append-nil, sym, ap, ◌∙◌, subst, arith}
use Rattle.sk_model.specs.Lines.{lines_of}
use Rattle.sk_model.proofs.Lines.{lines_are_few}
use Rattle.sk_lines.specs.Runs.{IsRun}
use Rattle.sk_fill.specs.Pages.{text_in}
use Rattle.sk_fill.proofs.PageText as pages
use Rattle.sk_lines.proofs.Places as places
use Rattle.sk_fill.proofs.EvenPages.{unknown}
use Rattle.sk_fill.proofs.page.Page.push_run.Goals as goal

pub overflow_add-self : goal.overflow_add-self
overflow_add-self c =
    let a = c.self.inside in
    let size = places.length_padded c.append.new.buffer.items (text_in a.buffer.items) (c.args.run.now ++ []) c.in_ok-append.ensures.items in
    record { fits = omega (arith, pages.count_is_few a.buffer.items a.places.items a.count c.self.invariant.0, size, length-take (length a.buffer.items - 64) a.buffer.items, length-append c.args.run.now [], c.in_ok-append.ensures.few, lines_are_few c.args.run.now, c.requires.run.count) }

pub invariant_of-self-2 : goal.invariant_of-self-2
invariant_of-self-2 c =
    let a = c.self.inside in
    let new : List ℕ = c.append.new.buffer.items in
    let run : List ℕ = c.args.run.now in
    let is = c.in_ok-append.ensures.items in
    (pages.page_more a.buffer.items new (run ++ []) a.places.items a.count c.args.count is c.self.invariant.0 (subst (IsRun c.args.count) (sym (append-nil run)) c.requires.run), unknown (a.count + c.args.count) (text_in new))

pub returns-clause-lines : goal.returns-clause-lines
returns-clause-lines c =
    let a = c.self.inside in
    let new : List ℕ = c.append.new.buffer.items in
    let run : List ℕ = c.args.run.now in
    let is = c.in_ok-append.ensures.items in
    pages.lines_more a.buffer.items new (run ++ []) a.places.items a.count is c.self.invariant.0
    ∙ ap (λ (l : List ℕ). lines_of (text_in a.buffer.items) ++ lines_of l) (append-nil run)
    ∙ ap (λ page. page.lines ++ lines_of run) (c.self.view_is ∙ c.note.ensures)
