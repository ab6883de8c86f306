use Rattle.std.proofs.Common.{◌≤◌, ◌+◌, ◌-◌, ◌++◌, length, min, vec_capacity}
use Rattle.sk_image.proofs.Walks.{IsWalked}
use Rattle.sk_image.proofs.merge.least_of_both.Given as goal

abbrev pub invariant-walk : goal.invariant-walk
invariant-walk l = record {
  walked : IsWalked l.least.items l.a l.b (l.fn.a ++ l.fn.b);
  most : length l.least.items ≤ l.k;
  room : min l.k (length l.fn.a + length l.fn.b) ≤ vec_capacity l.least;
}

abbrev pub decreases-walk : goal.decreases-walk
decreases-walk l = l.k - length l.least.items
