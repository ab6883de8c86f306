use Rattle.std.proofs.Common.{◌≡◌, ◌<◌, ◌≤◌, ◌-◌, ℕ, get_or, length, false}
use Rattle.sk_label.specs.Labels.{is_space}
use Rattle.sk_label.proofs.spaces.first_space.Given as goal

abbrev pub invariant-block : goal.invariant-block
invariant-block l = (l.at ≤ length l.line) × ((k : ℕ) → k < l.at → is_space (get_or l.line k 0) ≡ false)

abbrev pub decreases-block : goal.decreases-block
decreases-block l = length l.line - l.at
