use Rattle.std.proofs.Common.{refl, sym, ap, ◌∙◌, subst, arith, Bool, true, Ok, Err}
use Rattle.sk_read.proofs.GroupLaws.{with_fault}
use Rattle.sk_fill.specs.Fills.{TakesHeld, TakesMore}
use Rattle.sk_fill.proofs.ManyLines.{none_taken, taken_then, held_behind, some_more, some_full}
use Rattle.sk_fill.proofs.held.take_runs.Goals.{After-take_run}
use Rattle.sk_fill.proofs.held.take_runs.Goals as goal

pub run-init : goal.run-init
run-init c = record {
  more = none_taken c.args.kind c.args.window.now.most c.args.window.now.lines c.args.reader.now c.args.reader.now c.requires.unfilled c.requires.good (λ left given taken has. has);
  most = refl;
  remaining = omega arith;
  bound = refl;
  piece = refl;
}

pub take_run-requires-clause-started : goal.take_run-requires-clause-started
take_run-requires-clause-started c =
    let start = c.requires.started in
    (start.0, start.1, start.2, c.run.invariant.more.read start.0 start.1 start.2 start.3)

-- what was taken before, by how many lines the window takes then
before : (c : After-take_run) → TakesMore c.args.kind c.take_run.new.window.most c.args.window.now.lines c.run.window.lines c.args.reader.now c.run.reader
before c = subst (λ m. TakesMore c.args.kind m c.args.window.now.lines c.run.window.lines c.args.reader.now c.run.reader) (sym c.take_run.ensures.most) c.run.invariant.more

pub returns-in_err-take_run-clause-stopped : goal.returns-in_err-take_run-clause-stopped
returns-in_err-take_run-clause-stopped c =
    let at = (goal.at.returns-in_err-take_run-clause-stopped c).After-take_run in
    let f = c.in_err-take_run.field-0.0 in
    with_fault (λ why. TakesHeld c.args.kind c.take_run.new.window.most c.args.window.now.lines c.take_run.new.window.lines c.args.reader.now c.take_run.new.reader (Err why)) f c.from_residual.result c.from_residual.ensures.1
    (held_behind c.args.kind c.take_run.new.window.most c.args.window.now.lines c.run.window.lines c.take_run.new.window.lines c.args.reader.now c.run.reader c.take_run.new.reader (Err f) c.run.invariant.bound (before at) c.in_err-take_run.ensures.stopped)

pub returns-then-not-branch-clause-more : goal.returns-then-not-branch-clause-more
returns-then-not-branch-clause-more c =
    let at = (goal.at.returns-then-not-branch-clause-more c).After-take_run in
    λ _. taken_then c.args.kind c.take_run.new.window.most c.args.window.now.lines c.run.window.lines c.take_run.new.window.lines c.args.reader.now c.run.reader c.take_run.new.reader (before at)
    (c.in_ok-take_run.ensures.none (ap (λ (b : Bool). Ok b) c.if-not-branch.true))

pub returns-then-is_full-clause-full : goal.returns-then-is_full-clause-full
returns-then-is_full-clause-full c =
    let at = (goal.at.returns-then-is_full-clause-full c).After-take_run in
    let some = c.in_ok-take_run.ensures.some (ap (λ (b : Bool). Ok b) c.if-not-branch.false) in
    λ _. held_behind c.args.kind c.take_run.new.window.most c.args.window.now.lines c.run.window.lines c.take_run.new.window.lines c.args.reader.now c.run.reader c.take_run.new.reader (Ok true) c.run.invariant.bound (before at)
    (some_full c.args.kind c.take_run.new.window.most c.run.window.lines c.take_run.new.window.lines c.run.reader c.take_run.new.reader some (sym c.is_full.ensures ∙ c.if-is_full.true))

pub run-preserved : goal.run-preserved
run-preserved c =
    let at = (goal.at.run-preserved c).After-take_run in
    let some = c.in_ok-take_run.ensures.some (ap (λ (b : Bool). Ok b) c.if-not-branch.false) in
    record {
      more = taken_then c.args.kind c.take_run.new.window.most c.args.window.now.lines c.run.window.lines c.take_run.new.window.lines c.args.reader.now c.run.reader c.take_run.new.reader (before at)
          (some_more c.args.kind c.take_run.new.window.most c.run.window.lines c.take_run.new.window.lines c.run.reader c.take_run.new.reader some (sym c.is_full.ensures ∙ c.if-is_full.false));
      most = c.take_run.ensures.most ∙ c.run.invariant.most;
      remaining = omega (arith, c.take_run.ensures.remaining, c.run.invariant.remaining);
      bound = c.take_run.ensures.bound ∙ c.run.invariant.bound;
      piece = c.take_run.ensures.piece ∙ c.run.invariant.piece;
    }
