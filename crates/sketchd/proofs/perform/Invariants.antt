use Rattle.std.proofs.Common.{◌≡◌, length, All, IsSome}
use Rattle.sketchd.proofs.perform.Given as goal

abbrev pub invariant-place : goal.invariant-place
invariant-place g l = (length l.boxes.items ≡ l._place) × All IsSome l.boxes.items
