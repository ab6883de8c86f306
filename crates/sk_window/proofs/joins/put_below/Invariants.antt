use Rattle.std.proofs.Common.{◌≡◌, List, ℕ, ◌++◌, take}
use Rattle.sk_theta.specs.Kept.{StandsFor}
use Rattle.sk_window.specs.Joins.{below}
use Rattle.sk_window.proofs.joins.put_below.Given as goal

abbrev pub invariant-hash : goal.invariant-hash
invariant-hash l = record {
  k : l.into.k ≡ l.initial.into.k;
  stands : (items : List ℕ) → StandsFor l.initial.into items → StandsFor l.into (items ++ below l.bound (take l.hash-index l.hashes));
}
