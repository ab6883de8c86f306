use Rattle.std.proofs.Common.{◌≡◌, ◌∙◌, Bool, true, false, Ok, Err, List, ℕ, refl, ap, subst}
use Rattle.sk_desks.specs.Gathers.{TakesHeld}
use Rattle.sk_desks.proofs.GatherLaws.{held_none, held_then, held_passed}
use Rattle.sk_desks.proofs.gather.take_runs.Goals as goal

pub run-init : goal.run-init
run-init c = record { takes = held_none c.args.window.now.names c.args.window.now.lines c.args.reader.now true; names = refl }

pub take_run-requires-clause-started : goal.take_run-requires-clause-started
take_run-requires-clause-started c =
    let start = c.requires.started in
    (start.0, start.1, start.2, c.run.invariant.takes.gives start.0 start.1 start.2 start.3)

pub returns-in_err-take_run-clause-takes : goal.returns-in_err-take_run-clause-takes
returns-in_err-take_run-clause-takes c =
    let names = c.args.window.now.names in let f = c.in_err-take_run.field-0.0 in
    let two = subst (λ (ns : List (List ℕ)). TakesHeld ns c.run.window.lines c.take_run.new.window.lines c.run.reader c.take_run.new.reader c.take_run.result) c.run.invariant.names c.take_run.ensures.takes in
    held_passed names c.args.window.now.lines c.take_run.new.window.lines c.args.reader.now c.take_run.new.reader f c.from_residual.result c.from_residual.ensures.1
    (held_then names c.args.window.now.lines c.run.window.lines c.take_run.new.window.lines c.args.reader.now c.run.reader c.take_run.new.reader (Err f) c.run.invariant.takes
    (subst (TakesHeld names c.run.window.lines c.take_run.new.window.lines c.run.reader c.take_run.new.reader) c.in_err-take_run.was two))

pub returns-then-not-branch-clause-takes : goal.returns-then-not-branch-clause-takes
returns-then-not-branch-clause-takes c =
    let names = c.args.window.now.names in
    let none : c.take_run.result ≡ Ok false = c.in_ok-take_run.was ∙ ap (λ (b : Bool). Ok b) c.if-not-branch.true in
    let two = subst (λ (ns : List (List ℕ)). TakesHeld ns c.run.window.lines c.take_run.new.window.lines c.run.reader c.take_run.new.reader c.take_run.result) c.run.invariant.names c.take_run.ensures.takes in
    held_then names c.args.window.now.lines c.run.window.lines c.take_run.new.window.lines c.args.reader.now c.run.reader c.take_run.new.reader (Ok false) c.run.invariant.takes
    (subst (TakesHeld names c.run.window.lines c.take_run.new.window.lines c.run.reader c.take_run.new.reader) none two)

pub run-preserved : goal.run-preserved
run-preserved c =
    let names = c.args.window.now.names in
    let some : c.take_run.result ≡ Ok true = c.in_ok-take_run.was ∙ ap (λ (b : Bool). Ok b) c.if-not-branch.false in
    let two = subst (λ (ns : List (List ℕ)). TakesHeld ns c.run.window.lines c.take_run.new.window.lines c.run.reader c.take_run.new.reader c.take_run.result) c.run.invariant.names c.take_run.ensures.takes in
    record {
      takes = held_then names c.args.window.now.lines c.run.window.lines c.take_run.new.window.lines c.args.reader.now c.run.reader c.take_run.new.reader (Ok true) c.run.invariant.takes
          (subst (TakesHeld names c.run.window.lines c.take_run.new.window.lines c.run.reader c.take_run.new.reader) some two);
      names = c.take_run.ensures.names ∙ c.run.invariant.names;
    }
