use Rattle.std.proofs.Common.{◌≡◌, ◌+◌, ◌-◌, ◌*◌, ◌/◌, length, sym, ap, ◌∙◌, arith}
use Rattle.std.proofs.Math.Nat.{mul_comm}
use Rattle.sk_lines.specs.Runs.{AreEven}
use Rattle.sk_lines.proofs.EvenRuns.{even_lines}
use Rattle.sk_desks.proofs.EvenLaws.{even_of_tenants}
use Rattle.sk_desks.proofs.even.are_even_of_tenants.Goals as goal

pub returns : goal.returns
returns c = λ all.
    let each = length c.args.run.now / c.args.count in
    let len = each - 1 in
    let size : each ≡ len + 1 = omega (arith, c.if-each-label.false) in
    let whole : each * c.args.count ≡ length c.args.run.now = omega (arith, c.if-each-count.false) in
    let bytes = sym whole ∙ mul_comm each c.args.count ∙ ap (λ n. c.args.count * n) size in
    let found = c.are_each_of_tenants.ensures all in
    let even : AreEven c.args.count len c.args.run.now = record { bytes = bytes; ends = found.0; lines = even_lines len c.args.count c.args.run.now bytes found.0 c.requires.run.count } in
    even_of_tenants c.args.names.now c.args.run.now c.args.count len c.in-Some.label c.requires.run even (omega (arith, c.if-label-eq0.false)) (omega (arith, c.if-each-label.false)) found.1
