use Rattle.std.proofs.Common.{◌≡◌, take}
use Rattle.sk_model.specs.Numbers.{value_of}
use Rattle.sk_decimal.proofs.words.value.Given as goal

abbrev pub invariant-digit : goal.invariant-digit
invariant-digit l = l.value ≡ value_of (take l.i l.word)
