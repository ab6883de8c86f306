use Rattle.std.proofs.Common.{◌≤◌, ℕ, List, length, subst, arith}
use Rattle.sk_desks.specs.Entries.{IsNamedAt}
use Rattle.sk_desks.proofs.EvenLaws.{so_far_none, so_far_inside, so_far_more, so_far_all}
use Rattle.sk_desks.proofs.even.are_each_of_tenants.Goals as goal

pub line-init : goal.line-init
line-init c = so_far_none c.args.names.now c.args.run.now c.args.count c.args.len c.args.label

pub bounds-run-at : goal.bounds-run-at
bounds-run-at c = so_far_inside c.args.names.now c.args.run.now c.args.count c.args.len c.args.label c.line.at c.requires.bytes c.line.invariant c.line-test.true

pub line-preserved : goal.line-preserved
line-preserved c =
    let names : List (List ℕ) = c.args.names.now in
    so_far_more names c.args.run.now c.args.count c.args.len c.args.label c.line.at c.requires.bytes c.line.invariant c.line-test.true c.if-run-at-ne-LF.false
    (subst (λ (ns : List (List ℕ)). IsNamedAt ns c.args.run.now c.line.at c.args.label) c.finder-finder.ensures.names (c.is_named.ensures c.if-not-is_named.false))

pub returns : goal.returns
returns c = λ _.
    let end : length c.args.run.now ≤ c.line.at = omega (arith, c.line-test.false) in
    let all = so_far_all c.args.names.now c.args.run.now c.args.count c.args.len c.args.label c.line.at c.requires.bytes c.line.invariant end in
    (λ i less. (all i less).0, λ i less. (all i less).1)
