use Rattle.std.proofs.Common.{◌≡◌, ℕ, ◌+◌, ◌<◌, ◌++◌, List, length, take, arith}
use Rattle.sk_model.specs.Limits.{line_limit}
use Rattle.sk_lines.specs.Spans.{lines_at}
use Rattle.sk_read.specs.declared.fault.Fault.{Fault}
use Rattle.sk_read.specs.Reads.{StopsAmong}
use Rattle.sk_read.proofs.GroupLaws.{short_line, given_before, stops_at, with_fault}
use Rattle.sk_read.proofs.units.UnitTaker.take_all.Goals as goal

pub take-requires-clause-short : goal.take-requires-clause-short
take-requires-clause-short g c = short_line line_limit c.args.text.now c.args.spans.now c.unit.span-index (omega (arith, c.unit-test.true)) c.requires.short

pub returns-in_err-take-clause-stopped : goal.returns-in_err-take-clause-stopped
returns-in_err-take-clause-stopped g c =
    let text = c.args.text.now in
    let spans = c.args.spans.now in
    let i = c.unit.span-index in
    let f = c.in_err-take.field-0.0 in
    let inside : i < length spans = omega (arith, c.unit-test.true) in
    let Stops : Fault → Type 0 = λ why. (start : g.row.Self.Denot) (units : List (List ℕ)) → length units ≡ c.args.before → g.Self.UnitTaker.went start c.args.self.now units →
    StopsAmong (g.Self.UnitTaker.stopped start c.take.new.self) why units (lines_at spans text) in
    with_fault Stops f c.from_residual.result c.from_residual.ensures.1 (λ start units count went.
    let given = units ++ lines_at (take i spans) text in
    let long : length given + 1 ≡ c.unit.number + 1 = omega (arith, count, c.unit.invariant.number, given_before text spans i units inside) in
    stops_at (g.Self.UnitTaker.stopped start c.take.new.self) f units text spans i (c.unit.number + 1) inside (omega (arith, count, c.unit.invariant.number))
    (c.in_err-take.ensures.stopped start given long (c.unit.invariant.went start units count went)) c.in_err-take.ensures.fault)
