use Rattle.std.proofs.Common.{◌≡◌, ◌≤◌, ◌-◌, ◌++◌, length, drop, vec_capacity}
use Rattle.sk_model.specs.Sketch.{rising}
use Rattle.sk_sorted.proofs.least.least_of_both.Given as goal

abbrev pub invariant-walk : goal.invariant-walk
invariant-walk l = record {
  kept : l.i ≤ length l.kept;
  piece : l.j ≤ length l.piece;
  most : length l.least.items ≤ l.k;
  room : l.k ≤ vec_capacity l.least;
  rest : rising (l.kept ++ l.piece) ≡ l.least.items ++ rising (drop l.i l.kept ++ drop l.j l.piece);
}

abbrev pub decreases-walk : goal.decreases-walk
decreases-walk l = l.k - length l.least.items
