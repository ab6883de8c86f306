use Rattle.std.proofs.Common.{◌≡◌, ◌-◌, ◌<◌, ◌++◌, ℕ, List, All, inl, length, take, drop, sym, ap, ◌∙◌, subst, arith}
use Rattle.sk_model.specs.Lines.{lines_of}
use Rattle.sk_lines.specs.Runs.{IsRun, run_between}
use Rattle.sk_read.specs.Reading.{Reading}
use Rattle.sk_fill.proofs.Filled.{slice_is}
use Rattle.sk_desks.specs.Gathers.{IsOfTenant}
use Rattle.sk_desks.proofs.GroupLaws.{GivesGroup, none_held, group_held, group_not_held}
use Rattle.sk_desks.proofs.gather.take_first.Goals.{After-pass_run-count}
use Rattle.sk_desks.proofs.gather.take_first.Goals as goal

abbrev run : After-pass_run-count → List ℕ
run c = run_between c.args.reader.now.cutter c.pass_run-count.new.self.cutter

abbrev group : After-pass_run-count → List (List ℕ)
group c = lines_of (run c)

gave : (c : After-pass_run-count) → GivesGroup c.args.reader.now c.pass_run-count.new.self (group c)
gave c = record { goes = c.pass_run-count.ensures.goes; most = ap (λ (r : Reading). r.most) c.pass_run-count.ensures.stays; piece = ap (λ (r : Reading). r.last) c.pass_run-count.ensures.stays; fewer = omega (arith, c.pass_run-count.ensures.progress) }

slice : (c : After-pass_run-count) (a b : List ℕ) → a ≡ c.args.reader.now.cutter.front → b ≡ c.pass_run-count.new.self.cutter.front → take (length b - length a) (drop (length a) b) ≡ run c
slice c a b p q = slice_is c.args.reader.now.cutter.front c.pass_run-count.new.self.cutter.front a b p q

are : (c : After-pass_run-count) → 0 < c.pass_run-count.result → All (IsOfTenant c.args.window.now.names) (group c)
are c some = subst (λ (l : List ℕ). All (IsOfTenant c.args.window.now.names) (lines_of l)) (sym (c.pass_run-count.ensures.all some).1) c.requires.first.fine

pub returns-then-count-eq0-clause-takes : goal.returns-then-count-eq0-clause-takes
returns-then-count-eq0-clause-takes c =
    let at = (goal.at.returns-then-count-eq0-clause-takes c).After-pass_run-count in
    none_held c.args.window.now.names c.args.window.now.lines (group at) c.args.reader.now c.pass_run-count.new.self (gave at) (c.pass_run-count.ensures.run.is.count ∙ c.if-count-eq0.true)

pub put-requires-clause-run : goal.put-requires-clause-run
put-requires-clause-run c =
    let at = (goal.at.put-requires-clause-run c).After-pass_run-count in
    subst (IsRun c.pass_run-count.result) (sym (slice at c.front-from.result.now c.front.result.now c.front-from.ensures c.front.ensures)) c.pass_run-count.ensures.run.is

pub put-requires-clause-fine : goal.put-requires-clause-fine
put-requires-clause-fine c =
    let at = (goal.at.put-requires-clause-fine c).After-pass_run-count in
    subst (λ (l : List ℕ). All (IsOfTenant c.args.window.now.names) (lines_of l)) (sym (slice at c.front-from.result.now c.front.result.now c.front-from.ensures c.front.ensures)) (are at (omega (arith, c.if-count-eq0.false)))

pub returns-in_err-put-clause-takes : goal.returns-in_err-put-clause-takes
returns-in_err-put-clause-takes c =
    let at = (goal.at.returns-in_err-put-clause-takes c).After-pass_run-count in
    group_not_held c.args.window.now.names c.args.window.now.lines (group at) c.args.reader.now c.pass_run-count.new.self (gave at) c.put.new.self.lines c.from_residual.result c.in_err-put.field-0.0 c.from_residual.ensures.1
    (inl c.in_err-put.ensures.stopped)

pub returns-clause-takes : goal.returns-clause-takes
returns-clause-takes c =
    let at = (goal.at.returns-clause-takes c).After-pass_run-count in
    let names = c.args.window.now.names in let lines = c.args.window.now.lines in
    let same = slice at c.front-from.result.now c.front.result.now c.front-from.ensures c.front.ensures in
    let added : c.put.new.self.lines ≡ lines ++ group at = c.in_ok-put.ensures.lines ∙ ap (λ (l : List ℕ). lines ++ lines_of l) same in
    group_held names lines (group at) c.args.reader.now c.pass_run-count.new.self (gave at) c.put.new.self.lines added (are at (omega (arith, c.if-count-eq0.false)))
