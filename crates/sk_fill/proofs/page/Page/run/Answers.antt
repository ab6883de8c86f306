use Rattle.std.proofs.Common.{◌-◌, ◌≤◌, ℕ, List, slice_range, sym, ap, ◌∙◌, subst}
use Rattle.sk_model.specs.Lines.{lines_of}
use Rattle.sk_lines.specs.Runs.{IsRun}
use Rattle.sk_fill.specs.Pages.{PageState, Begins, text_in}
use Rattle.sk_fill.proofs.PageRuns.{in_order, run_is, lines_are, in_text}
use Rattle.sk_fill.proofs.page.Page.run.Goals.{After-find_line-end}
use Rattle.sk_fill.proofs.page.Page.run.Goals as goal

abbrev text : After-find_line-end → List ℕ
text c = text_in c.self.inside.buffer.items

first : (c : After-find_line-end) → Begins (text c) c.args.from c.find_line-start.result
first c = subst (λ (l : List ℕ). Begins (text_in l) c.args.from c.find_line-start.result) c.bytes-text.ensures c.find_line-start.ensures

last : (c : After-find_line-end) → Begins (text c) c.args.to c.find_line-end.result
last c = subst (λ (l : List ℕ). Begins (text_in l) c.args.to c.find_line-end.result) c.bytes-text.ensures c.find_line-end.ensures

order : (c : After-find_line-end) → c.find_line-start.result ≤ c.find_line-end.result
order c = in_order (text c) c.args.from c.args.to c.find_line-start.result c.find_line-end.result (first c) (last c) c.requires.order

pub slice_bounds-result-count : goal.slice_bounds-result-count
slice_bounds-result-count c = let at = (goal.at.slice_bounds-result-count c).After-find_line-end in order at

pub returns-clause-run : goal.returns-clause-run
returns-clause-run c =
    let at = (goal.at.returns-clause-run c).After-find_line-end in let a = c.find_line-start.result in let b = c.find_line-end.result in
    subst (λ (l : List ℕ). IsRun (c.args.to - c.args.from) (slice_range l a b)) (sym c.bytes-text.ensures)
    (subst (IsRun (c.args.to - c.args.from)) (sym (in_text c.self.inside.buffer.items a b (order at) (last at).within)) (run_is (text at) c.args.from c.args.to a b (first at) (last at) (order at)))

pub returns-clause-lines : goal.returns-clause-lines
returns-clause-lines c =
    let at = (goal.at.returns-clause-lines c).After-find_line-end in let a = c.find_line-start.result in let b = c.find_line-end.result in
    ap (λ (l : List ℕ). lines_of (slice_range l a b)) c.bytes-text.ensures
    ∙ ap lines_of (in_text c.self.inside.buffer.items a b (order at) (last at).within)
    ∙ lines_are (text at) c.args.from c.args.to a b (first at) (last at) (order at) c.requires.order
    ∙ ap (λ (page : PageState). slice_range page.lines c.args.from c.args.to) c.self.view_is

pub slice_bounds-result-start : goal.slice_bounds-result-start
slice_bounds-result-start c = let at = (goal.at.slice_bounds-result-start c).After-find_line-end in order at
