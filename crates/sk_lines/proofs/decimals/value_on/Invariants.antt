use Rattle.std.proofs.Common.{◌≡◌, take}
use Rattle.sk_model.specs.Numbers.{value_of}
use Rattle.sk_lines.proofs.decimals.value_on.Given as goal

abbrev pub invariant-digit : goal.invariant-digit
invariant-digit l = record { value : l.value ≡ value_of (take l.i l.bytes) }
