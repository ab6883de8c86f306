use Rattle.std.proofs.Common.{◌≡◌, take}
use Rattle.std.specs.List.{list_all}
use Rattle.std.specs.Char.{is_ascii_digit}
use Rattle.sk_lines.proofs.decimals.each_is_digit.Given as goal

abbrev pub invariant-byte : goal.invariant-byte
invariant-byte l = record { digits : l.digits ≡ list_all is_ascii_digit (take l.byte-index l.bytes) }
