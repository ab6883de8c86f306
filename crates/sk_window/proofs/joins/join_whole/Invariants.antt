use Rattle.std.proofs.Common.{◌≡◌, ℕ, List, ◌++◌, take}
use Rattle.sk_theta.specs.Kept.{StandsFor}
use Rattle.sk_window.specs.Intervals.{StandForEach, all_items}
use Rattle.sk_window.proofs.joins.join_whole.Given as goal

abbrev pub invariant-sketch : goal.invariant-sketch
invariant-sketch l = (l.into.k ≡ l.initial.into.k)
    × ((lists : List (List ℕ)) (items : List ℕ) → StandForEach l.initial.into.k l.sketches.items lists → StandsFor l.initial.into items → StandsFor l.into (items ++ all_items (take l.place lists)))
