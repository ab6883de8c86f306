use Rattle.std.proofs.Common.{◌≡◌, ◌<◌, ℕ, get_or, false}
use Rattle.sk_label.specs.Labels.{is_space}
use Rattle.sk_label.proofs.spaces.first_space_from.Given as goal

abbrev pub invariant-byte : goal.invariant-byte
invariant-byte l = (k : ℕ) → k < l.at → is_space (get_or l.line k 0) ≡ false
