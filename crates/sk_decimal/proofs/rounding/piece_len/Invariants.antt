use Rattle.std.proofs.Common.{take}
use Rattle.sk_lines.specs.Cutter.{HasNoLf}
use Rattle.sk_decimal.proofs.rounding.piece_len.Given as goal

abbrev pub invariant-byte : goal.invariant-byte
invariant-byte l = HasNoLf (take l.i l.bytes)
