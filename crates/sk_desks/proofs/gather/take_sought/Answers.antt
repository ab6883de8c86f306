use Rattle.std.proofs.Common.{◌≡◌, ◌+◌, ◌-◌, ◌++◌, ℕ, List, All, length, take, drop, sym, ap, ◌∙◌, subst, arith, length-append}
use Rattle.sk_model.specs.Lines.{lines_of}
use Rattle.sk_lines.specs.Runs.{IsRun, run_between}
use Rattle.sk_read.specs.Reading.{Reading}
use Rattle.sk_fill.proofs.Filled.{read_few, read_number, slice_is}
use Rattle.sk_desks.specs.Gathers.{IsOfTenant, StopsWithin}
use Rattle.sk_desks.proofs.GroupLaws.{GivesGroup, none_held, group_held, group_not_held}
use Rattle.sk_desks.proofs.gather.take_sought.Goals.{After-next_run-count}
use Rattle.sk_desks.proofs.gather.take_sought.Goals as goal

abbrev run : After-next_run-count → List ℕ
run c = run_between c.args.reader.now.cutter c.next_run-count.new.self.cutter

abbrev group : After-next_run-count → List (List ℕ)
group c = lines_of (run c)

group_size : (c : After-next_run-count) → length (group c) ≡ c.next_run-count.result
group_size c = c.next_run-count.ensures.run.is.count

gave : (c : After-next_run-count) → GivesGroup c.args.reader.now c.next_run-count.new.self (group c)
gave c = record { goes = c.next_run-count.ensures.goes; most = ap (λ (r : Reading). r.most) c.next_run-count.ensures.stays; piece = ap (λ (r : Reading). r.last) c.next_run-count.ensures.stays; fewer = omega (arith, c.next_run-count.ensures.progress) }

pub overflow_add-first : goal.overflow_add-first
overflow_add-first c =
    let start = c.requires.started in let all = start.1 ++ c.args.window.now.lines in
    record { fits = omega (arith, c.number-first.ensures, read_number c.args.reader.now start.0 all start.2 start.3, read_few c.args.reader.now start.0 all start.2 start.3) }

pub returns-then-count-eq0-clause-takes : goal.returns-then-count-eq0-clause-takes
returns-then-count-eq0-clause-takes c =
    let at = (goal.at.returns-then-count-eq0-clause-takes c).After-next_run-count in
    none_held c.args.window.now.names c.args.window.now.lines (group at) c.args.reader.now c.next_run-count.new.self (gave at) (group_size at ∙ c.if-count-eq0.true)

slice : (c : After-next_run-count) (a b : List ℕ) → a ≡ c.args.reader.now.cutter.front → b ≡ c.next_run-count.new.self.cutter.front → take (length b - length a) (drop (length a) b) ≡ run c
slice c a b p q = slice_is c.args.reader.now.cutter.front c.next_run-count.new.self.cutter.front a b p q

pub append-requires-clause-run : goal.append-requires-clause-run
append-requires-clause-run c =
    let at = (goal.at.append-requires-clause-run c).After-next_run-count in
    subst (IsRun c.next_run-count.result) (sym (slice at c.front-from.result.now c.front.result.now c.front-from.ensures c.front.ensures)) c.next_run-count.ensures.run.is

pub append-requires-clause-number : goal.append-requires-clause-number
append-requires-clause-number c =
    let at = (goal.at.append-requires-clause-number c).After-next_run-count in
    let start = c.requires.started in let all = start.1 ++ c.args.window.now.lines in
    omega (
      arith,
      c.number-first.ensures,
      read_number c.args.reader.now start.0 all start.2 start.3,
      read_few c.next_run-count.new.self start.0 (all ++ group at) start.2 ((gave at).goes start.0 all start.2 start.3),
      length-append all (group at),
      group_size at,
    )

pub returns-in_err-append-clause-takes : goal.returns-in_err-append-clause-takes
returns-in_err-append-clause-takes c =
    let at = (goal.at.returns-in_err-append-clause-takes c).After-next_run-count in
    let names = c.args.window.now.names in let f = c.in_err-append.field-0.0 in let first : ℕ = c.number-first.result + 1 in
    let stops : StopsWithin names (group at) first f = subst (λ (l : List ℕ). StopsWithin names (lines_of l) first f) (slice at c.front-from.result.now c.front.result.now c.front-from.ensures c.front.ensures) c.in_err-append.ensures.stopped in
    group_not_held names c.args.window.now.lines (group at) c.args.reader.now c.next_run-count.new.self (gave at) c.append.new.self.lines c.from_residual.result f c.from_residual.ensures.1
    (subst (λ (n : ℕ). StopsWithin names (group at) (n + 1) f) c.number-first.ensures stops)

pub returns-clause-takes : goal.returns-clause-takes
returns-clause-takes c =
    let at = (goal.at.returns-clause-takes c).After-next_run-count in
    let names = c.args.window.now.names in let lines = c.args.window.now.lines in
    let same = slice at c.front-from.result.now c.front.result.now c.front-from.ensures c.front.ensures in
    let added : c.append.new.self.lines ≡ lines ++ group at = c.in_ok-append.ensures.lines ∙ ap (λ (l : List ℕ). lines ++ lines_of l) same in
    let are : All (IsOfTenant names) (group at) = subst (λ (l : List ℕ). All (IsOfTenant names) (lines_of l)) same c.in_ok-append.ensures.fine in
    group_held names lines (group at) c.args.reader.now c.next_run-count.new.self (gave at) c.append.new.self.lines added are
