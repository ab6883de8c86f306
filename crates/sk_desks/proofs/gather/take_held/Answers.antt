use Rattle.std.proofs.Common.{◌≡◌, ◌∙◌, Bool, true, false, Ok, List, ℕ, ap, subst}
use Rattle.sk_desks.specs.Gathers.{TakesHeld}
use Rattle.sk_desks.proofs.GatherLaws.{held_again, held_then, held_passed}
use Rattle.sk_desks.proofs.gather.take_held.Goals as goal

pub returns-in_err-take_piece-clause-takes : goal.returns-in_err-take_piece-clause-takes
returns-in_err-take_piece-clause-takes c =
    let names = c.args.window.now.names in let f = c.in_err-take_piece.field-0.0 in
    held_passed names c.args.window.now.lines c.take_piece.new.window.lines c.args.reader.now c.take_piece.new.reader f c.from_residual.result c.from_residual.ensures.1
    (subst (TakesHeld names c.args.window.now.lines c.take_piece.new.window.lines c.args.reader.now c.take_piece.new.reader) c.in_err-take_piece.was c.take_piece.ensures.takes)

pub returns-then-branch-clause-takes : goal.returns-then-branch-clause-takes
returns-then-branch-clause-takes c =
    let full : c.take_piece.result ≡ Ok true = c.in_ok-take_piece.was ∙ ap (λ (b : Bool). Ok b) c.if-branch.true in
    subst (TakesHeld c.args.window.now.names c.args.window.now.lines c.take_piece.new.window.lines c.args.reader.now c.take_piece.new.reader) full c.take_piece.ensures.takes

pub take_runs-requires : goal.take_runs-requires
take_runs-requires c =
    let start = c.requires.started in
    let none : c.take_piece.result ≡ Ok false = c.in_ok-take_piece.was ∙ ap (λ (b : Bool). Ok b) c.if-branch.false in
    let takes = subst (TakesHeld c.args.window.now.names c.args.window.now.lines c.take_piece.new.window.lines c.args.reader.now c.take_piece.new.reader) none c.take_piece.ensures.takes in
    record { started = (start.0, start.1, start.2, takes.gives start.0 start.1 start.2 start.3) }

pub returns-clause-takes : goal.returns-clause-takes
returns-clause-takes c =
    let names = c.args.window.now.names in let lines = c.args.window.now.lines in let between = c.take_piece.new.window.lines in
    let none : c.take_piece.result ≡ Ok false = c.in_ok-take_piece.was ∙ ap (λ (b : Bool). Ok b) c.if-branch.false in
    let one = subst (TakesHeld names lines between c.args.reader.now c.take_piece.new.reader) none c.take_piece.ensures.takes in
    let two = subst (λ (ns : List (List ℕ)). TakesHeld ns between c.take_runs.new.window.lines c.take_piece.new.reader c.take_runs.new.reader c.take_runs.result) c.take_piece.ensures.names c.take_runs.ensures.takes in
    held_then names lines between c.take_runs.new.window.lines c.args.reader.now c.take_piece.new.reader c.take_runs.new.reader c.take_runs.result (held_again names lines between c.args.reader.now c.take_piece.new.reader one) two
