use Rattle.std.proofs.Common.{◌≡◌, List, ℕ, ◌++◌, take}
use Rattle.sk_model.specs.Width.{AreItems}
use Rattle.sk_theta.specs.Kept.{StandsFor}
use Rattle.sk_window.specs.Joins.{all_kept, below}
use Rattle.sk_window.proofs.joins.join_below.Given as goal

abbrev pub invariant-below : goal.invariant-below
invariant-below l = record {
  k : l.into.k ≡ l.initial.into.k;
  small : AreItems (all_kept (take l.place l.sketches.items));
  stands : (items : List ℕ) → StandsFor l.initial.into items → StandsFor l.into (items ++ below l.bound (all_kept (take l.place l.sketches.items)));
}
