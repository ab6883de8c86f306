use Rattle.std.proofs.Common.{◌≡◌, ◌≤◌, take, drop}
use Rattle.sk_decimal.specs.Rounded.{last_word}
use Rattle.sk_decimal.proofs.words.word_start.Given as goal

abbrev pub invariant-byte : goal.invariant-byte
invariant-byte l = record { before : l.start ≤ l.i; word : drop l.start (take l.i l.line) ≡ last_word (take l.i l.line) }
