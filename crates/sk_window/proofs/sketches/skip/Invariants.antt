use Rattle.std.proofs.Common.{◌≡◌, ℕ, List, length, All}
use Rattle.sk_window.specs.Intervals.{StandForEach, with_skipped}
use Rattle.sk_window.proofs.sketches.skip.Given as goal

abbrev pub invariant-step : goal.invariant-step
invariant-step l = (length l.sketches.items ≡ length l.initial.sketches.items) × (l.sketches.capacity ≡ l.initial.sketches.capacity)
    × ((k : ℕ) → All (λ s. s.k ≡ k) l.initial.sketches.items → All (λ s. s.k ≡ k) l.sketches.items)
    × ((k : ℕ) (lists : List (List ℕ)) → StandForEach k l.initial.sketches.items lists → StandForEach k l.sketches.items (with_skipped lists l.counter))
