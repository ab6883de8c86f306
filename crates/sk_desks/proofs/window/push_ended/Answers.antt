use Rattle.std.proofs.Common.{◌≡◌, ◌≤◌, ◌∷◌, [], ◌++◌, ℕ, List, length, sym, ap, ◌∙◌, subst, arith}
use Rattle.std.specs.Str.Lines.{strip_carriage_return}
use Rattle.std.proofs.lemmas.Result.{on_ok_weaker}
use Rattle.sk_model.specs.Lines.{lines_of}
use Rattle.sk_lines.specs.Runs.{IsRun}
use Rattle.sk_desks.proofs.ClerkLaws.{whole_line}
use Rattle.sk_desks.proofs.EvenLaws.{run_of_line, line_of_run, stays_whole}
use Rattle.sk_desks.proofs.window.push_ended.Goals.{After-as_slice}
use Rattle.sk_desks.proofs.window.push_ended.Goals as goal

run_is : (c : After-as_slice) → c.as_slice.result.now ≡ c.args.line.now ++ 10 ∷ []
run_is c = c.as_slice.ensures.value ∙ c.in_ok-push.ensures.items ∙ ap (λ (l : List ℕ). l ++ 10 ∷ []) (c.in_ok-extend_from_slice.ensures.items ∙ ap (λ (l : List ℕ). l ++ c.args.line.now) c.in_ok-run.ensures.items)

no_cr : (c : After-as_slice) → strip_carriage_return c.args.line.now ≡ c.args.line.now
no_cr c =
    let line = c.args.line.now in
    let long : length line ≤ length (strip_carriage_return line) = omega (arith, c.if-line_len-line.false, c.line_len.ensures, ap (λ (l : List ℕ). length (strip_carriage_return l)) (whole_line line)) in
    stays_whole line long

pub push_run-requires-clause-run : goal.push_run-requires-clause-run
push_run-requires-clause-run c =
    let at = (goal.at.push_run-requires-clause-run c).After-as_slice in
    subst (IsRun 1) (sym (run_is at)) (run_of_line c.args.line.now c.requires.plain (no_cr at))

pub returns-clause-lines : goal.returns-clause-lines
returns-clause-lines c =
    let at = (goal.at.returns-clause-lines c).After-as_slice in
    on_ok_weaker c.push_run.result (λ lines. lines ∙ ap (λ (l : List (List ℕ)). c.args.window.now.lines ++ l) (ap lines_of (run_is at) ∙ line_of_run c.args.line.now c.requires.plain (no_cr at))) c.push_run.ensures.lines
