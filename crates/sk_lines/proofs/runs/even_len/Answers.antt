use Rattle.std.proofs.Common.{◌≡◌, ◌+◌, ◌-◌, ◌*◌, ◌/◌, length, sym, ap, ◌∙◌, subst, arith}
use Rattle.std.proofs.Math.Nat.{mul_comm}
use Rattle.sk_lines.specs.Runs.{EndEach}
use Rattle.sk_lines.proofs.EvenRuns.{each_is, even_lines}
use Rattle.sk_lines.proofs.runs.even_len.Goals as goal

pub returns-then-end_each-clause-even : goal.returns-then-end_each-clause-even
returns-then-end_each-clause-even c =
    let each = length c.args.run.now / c.args.count in
    let len = each - 1 in
    let size : each ≡ len + 1 = omega (arith, c.if-each-eq0.false) in
    let all : each * c.args.count ≡ length c.args.run.now = omega (arith, c.if-each-count.false) in
    let bytes = sym all ∙ mul_comm each c.args.count ∙ ap (λ n. c.args.count * n) size in
    let ends = c.end_each.ensures.yes c.if-end_each.true in
    record { bytes = bytes; ends = ends; lines = even_lines len c.args.count c.args.run.now bytes ends c.requires.run.count }

pub returns-else-end_each-clause-none : goal.returns-else-end_each-clause-none
returns-else-end_each-clause-none c = λ len even.
    let each = each_is c.args.count len c.args.run.now c.requires.some even in
    let size : len ≡ length c.args.run.now / c.args.count - 1 = omega (arith, each) in
    c.end_each.ensures.no c.if-end_each.false (subst (λ n. EndEach c.args.count n c.args.run.now) size even.ends)
