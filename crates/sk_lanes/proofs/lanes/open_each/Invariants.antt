use Rattle.std.proofs.Common.{◌≡◌, ◌++◌, map}
use Rattle.sk_lanes.specs.Lanes.{AreOpen}
use Rattle.sk_lanes.proofs.lanes.open_each.Given as goal

abbrev pub invariant-open : goal.invariant-open
invariant-open g l = let k = g.T.TakesStretches in record {
  moved : map (λ x. x.taker) l.lanes.items ≡ l.yielded;
  rings : AreOpen k.keeps_at_most l.first l.lanes.items l.outlets.items;
  all : l.yielded ++ l.taker-iterator.rest.items ≡ l.fn.takers.items;
}
