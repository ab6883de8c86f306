use Rattle.std.proofs.Common.{sym, ap, subst, Bool, Ok}
use Rattle.sk_fill.specs.Fills.{TakesHeld, TakesMore}
use Rattle.sk_fill.proofs.ManyLines.{held_behind}
use Rattle.sk_fill.proofs.held.take_held.Goals as goal

pub returns-then-branch-clause-takes : goal.returns-then-branch-clause-takes
returns-then-branch-clause-takes c =
    let yes = ap (λ (b : Bool). Ok b) c.if-branch.true in
    subst (TakesHeld c.args.kind c.take_runs.new.window.most c.args.window.now.lines c.take_runs.new.window.lines c.args.reader.now c.take_runs.new.reader) yes (c.in_ok-take_runs.ensures.full yes)

pub take_lines-requires-clause-started : goal.take_lines-requires-clause-started
take_lines-requires-clause-started c =
    let start = c.requires.started in
    (start.0, start.1, start.2, (c.in_ok-take_runs.ensures.more (ap (λ (b : Bool). Ok b) c.if-branch.false)).read start.0 start.1 start.2 start.3)

pub returns-clause-takes : goal.returns-clause-takes
returns-clause-takes c =
    let more = subst (λ m. TakesMore c.args.kind m c.args.window.now.lines c.take_runs.new.window.lines c.args.reader.now c.take_runs.new.reader) (sym c.take_lines.ensures.most) (c.in_ok-take_runs.ensures.more (ap (λ (b : Bool). Ok b) c.if-branch.false)) in
    held_behind c.args.kind c.take_lines.new.window.most c.args.window.now.lines c.take_runs.new.window.lines c.take_lines.new.window.lines c.args.reader.now c.take_runs.new.reader c.take_lines.new.reader c.take_lines.result
    c.take_runs.ensures.bound more c.take_lines.ensures.takes
