use Rattle.std.proofs.Common.{◌≡◌, vec_capacity}
use Rattle.sk_quant.proofs.Halves.{IsHalving}
use Rattle.sk_quant.proofs.compaction.halve.Given as goal

abbrev pub invariant-halve : goal.invariant-halve
invariant-halve l = record {
  halving : IsHalving l.coin l.fn.items.items l.items.items l.i;
  room : vec_capacity l.items ≡ vec_capacity l.fn.items;
}
