use Rattle.std.proofs.Common.{◌≡◌, ◌+◌, ◌<◌, ◌≤◌, ◌++◌, [], ℕ, List, Option, All, Err, IfErr, length, drop, sym, ap, ◌∙◌, subst, arith, append-nil, length-append}
use Rattle.std.specs.List.{concat}
use Rattle.std.proofs.lemmas.List.{drop_at, nil_from_length}
use Rattle.sk_model.specs.Lines.{lines_of}
use Rattle.sk_lines.specs.Cutter.{IsOfWholeLines}
use Rattle.sk_lines.specs.Runs.{IsRun, run_between}
use Rattle.sk_lines.proofs.WholeLines.{bytes_are_few}
use Rattle.sk_read.specs.Items.{IsGood}
use Rattle.sk_read.specs.Reading.{HasRead}
use Rattle.sk_read.proofs.GroupLaws.{with_fault, as_many}
use Rattle.sk_fill.specs.Windows.{full_bytes}
use Rattle.sk_fill.specs.Fills.{TakesHeld, TakesSome, RefusesFrom}
use Rattle.sk_fill.proofs.Filled.{read_few, slice_is}
use Rattle.sk_fill.proofs.ManyLines.{none_taken, some_taken, no_room_some, refused_held}
use Rattle.sk_fill.proofs.held.take_run.Goals.{After-next_run-count}
use Rattle.sk_fill.proofs.held.take_run.Goals as goal

abbrev run : After-next_run-count → List ℕ
run c = run_between c.args.reader.now.cutter c.next_run-count.new.self.cutter

abbrev group : After-next_run-count → List (List ℕ)
group c = lines_of (run c)

group_size : (c : After-next_run-count) → length (group c) ≡ c.next_run-count.result
group_size c = c.next_run-count.ensures.run.is.count

few_lines : (c : After-next_run-count) → length c.args.window.now.lines + length (group c) ≤ c.args.window.now.most
few_lines c = omega (arith, group_size c, c.next_run-count.ensures.few, c.min.ensures, c.room.ensures)

few_bytes : (c : After-next_run-count) → length (concat c.args.window.now.lines) + length (concat (group c)) < full_bytes
few_bytes c =
    omega (arith, c.requires.bytes, c.requires.small, bytes_are_few (run c), ap length c.next_run-count.ensures.run.rest, length-append (run c) c.next_run-count.new.self.cutter.rest)

gave : (c : After-next_run-count) → (left : Option (List ℕ)) (given : List (List ℕ)) (taken : List ℕ) → HasRead c.args.reader.now left given taken → HasRead c.next_run-count.new.self left (given ++ group c) taken
gave c left given taken has = c.next_run-count.ensures.goes left given taken has

-- how many lines came before them
before : (c : After-next_run-count) → (left : Option (List ℕ)) (given : List (List ℕ)) (taken : List ℕ) → HasRead c.args.reader.now left (given ++ c.args.window.now.lines) taken → length (given ++ c.args.window.now.lines) ≡ c.number-before.result
before c left given taken has = as_many c.args.reader.now left (given ++ c.args.window.now.lines) taken c.number-before.result has c.number-before.ensures

pub returns-then-count-eq0-clause-none : goal.returns-then-count-eq0-clause-none
returns-then-count-eq0-clause-none c =
    let at = (goal.at.returns-then-count-eq0-clause-none c).After-next_run-count in
    let none : group at ≡ [] = nil_from_length (group at) (group_size at ∙ c.if-count-eq0.true) in
    λ _. none_taken c.args.kind c.args.window.now.most c.args.window.now.lines c.args.reader.now c.next_run-count.new.self c.requires.unfilled c.requires.good
    (λ left given taken has. subst (λ ls. HasRead c.next_run-count.new.self left ls taken) (ap (λ ls. given ++ ls) none ∙ append-nil given) (gave at left given taken has))

pub push_run-requires-clause-run : goal.push_run-requires-clause-run
push_run-requires-clause-run c =
    subst (IsRun c.next_run-count.result) (sym (slice_is c.args.reader.now.cutter.front c.next_run-count.new.self.cutter.front c.front-from.result.now c.front.result.now c.front-from.ensures c.front.ensures)) c.next_run-count.ensures.run.is

pub returns-in_err-push_run-clause-stopped : goal.returns-in_err-push_run-clause-stopped
returns-in_err-push_run-clause-stopped c =
    let at = (goal.at.returns-in_err-push_run-clause-stopped c).After-next_run-count in
    let w = c.args.window.now in
    subst (λ m. IfErr c.from_residual.result (λ why. TakesHeld c.args.kind m w.lines c.push_run.new.self.lines c.args.reader.now c.next_run-count.new.self (Err why))) (sym c.push_run.ensures.most)
    (no_room_some c.args.kind w.most w.lines (group at) c.push_run.new.self.lines c.args.reader.now c.next_run-count.new.self c.from_residual.result (omega (arith, group_size at, c.if-count-eq0.false))
    c.in_err-push_run.ensures.refused c.from_residual.ensures.1 (ap (λ r. r.most) c.next_run-count.ensures.stays) (ap (λ r. r.last) c.next_run-count.ensures.stays) c.requires.unfilled c.requires.good (gave at))

pub are_items-requires : goal.are_items-requires
are_items-requires c =
    subst IsOfWholeLines (sym (slice_is c.args.reader.now.cutter.front c.next_run-count.new.self.cutter.front c.front-from.result.now c.front.result.now c.front-from.ensures c.front.ensures)) c.next_run-count.ensures.run.is.whole

pub keep_good-requires-clause-number : goal.keep_good-requires-clause-number
keep_good-requires-clause-number c =
    let at = (goal.at.keep_good-requires-clause-number c).After-next_run-count in
    let start = c.requires.started in
    let slice = slice_is c.args.reader.now.cutter.front c.next_run-count.new.self.cutter.front c.front-from.result.now c.front.result.now c.front-from.ensures c.front.ensures in
    let lines = c.in_ok-push_run.ensures.lines ∙ ap (λ l. c.args.window.now.lines ++ lines_of l) slice in
    omega (
      arith,
      ap length lines,
      length-append c.args.window.now.lines (group at),
      c.len-first.ensures.value,
      read_few c.next_run-count.new.self start.0 _ start.2 (gave at start.0 _ start.2 start.3),
      length-append (start.1 ++ c.args.window.now.lines) (group at),
      before at start.0 start.1 start.2 start.3,
    )

pub returns-in_err-keep_good-clause-stopped : goal.returns-in_err-keep_good-clause-stopped
returns-in_err-keep_good-clause-stopped c =
    let at = (goal.at.returns-in_err-keep_good-clause-stopped c).After-next_run-count in
    let w = c.args.window.now in
    let f = c.in_err-keep_good.field-0.0 in
    let slice = slice_is c.args.reader.now.cutter.front c.next_run-count.new.self.cutter.front c.front-from.result.now c.front.result.now c.front-from.ensures c.front.ensures in
    let lines = c.in_ok-push_run.ensures.lines ∙ ap (λ l. w.lines ++ lines_of l) slice in
    let refuses = subst (λ n. RefusesFrom c.args.kind c.number-before.result f n (w.lines ++ group at) c.keep_good.new.window.lines) c.len-first.ensures.value
    (subst (λ ls. RefusesFrom c.args.kind c.number-before.result f c.len-first.result ls c.keep_good.new.window.lines) lines c.in_err-keep_good.ensures.stopped) in
    subst (λ m. IfErr c.from_residual-in_err-keep_good.result (λ why. TakesHeld c.args.kind m w.lines c.keep_good.new.window.lines c.args.reader.now c.next_run-count.new.self (Err why))) (sym (c.keep_good.ensures.most ∙ c.push_run.ensures.most))
    (with_fault (λ why. TakesHeld c.args.kind w.most w.lines c.keep_good.new.window.lines c.args.reader.now c.next_run-count.new.self (Err why)) f c.from_residual-in_err-keep_good.result c.from_residual-in_err-keep_good.ensures.1
    (refused_held c.args.kind w.most c.number-before.result w.lines (group at) c.keep_good.new.window.lines c.args.reader.now c.next_run-count.new.self f (ap (λ r. r.most) c.next_run-count.ensures.stays) (ap (λ r. r.last) c.next_run-count.ensures.stays) refuses
    (few_lines at) (few_bytes at) c.requires.good (before at) (gave at)))

pub returns-in_ok-keep_good-clause-some : goal.returns-in_ok-keep_good-clause-some
returns-in_ok-keep_good-clause-some c =
    let at = (goal.at.returns-in_ok-keep_good-clause-some c).After-next_run-count in
    let w = c.args.window.now in
    let slice = slice_is c.args.reader.now.cutter.front c.next_run-count.new.self.cutter.front c.front-from.result.now c.front.result.now c.front-from.ensures c.front.ensures in
    let lines = c.in_ok-push_run.ensures.lines ∙ ap (λ l. w.lines ++ lines_of l) slice in
    let good = subst (All (IsGood c.args.kind)) (ap (drop c.len-first.result) lines ∙ drop_at w.lines (group at) c.len-first.result (sym c.len-first.ensures.value)) c.in_ok-keep_good.ensures.good in
    λ _. subst (λ m. TakesSome c.args.kind m w.lines c.keep_good.new.window.lines c.args.reader.now c.next_run-count.new.self) (sym (c.keep_good.ensures.most ∙ c.push_run.ensures.most))
    (some_taken c.args.kind w.most w.lines (group at) c.keep_good.new.window.lines c.args.reader.now c.next_run-count.new.self (c.in_ok-keep_good.ensures.all ∙ lines) (omega (arith, group_size at, c.if-count-eq0.false))
    (few_lines at) (few_bytes at) c.requires.good good (gave at))

pub returns-else-not-are_items-clause-some : goal.returns-else-not-are_items-clause-some
returns-else-not-are_items-clause-some c =
    let at = (goal.at.returns-else-not-are_items-clause-some c).After-next_run-count in
    let w = c.args.window.now in
    let slice = slice_is c.args.reader.now.cutter.front c.next_run-count.new.self.cutter.front c.front-from.result.now c.front.result.now c.front-from.ensures c.front.ensures in
    let lines = c.in_ok-push_run.ensures.lines ∙ ap (λ l. w.lines ++ lines_of l) slice in
    let good = subst (λ l. All (IsGood c.args.kind) (lines_of l)) slice (c.are_items.ensures c.if-not-are_items.false) in
    λ _. subst (λ m. TakesSome c.args.kind m w.lines c.push_run.new.self.lines c.args.reader.now c.next_run-count.new.self) (sym c.push_run.ensures.most)
    (some_taken c.args.kind w.most w.lines (group at) c.push_run.new.self.lines c.args.reader.now c.next_run-count.new.self lines (omega (arith, group_size at, c.if-count-eq0.false))
    (few_lines at) (few_bytes at) c.requires.good good (gave at))
