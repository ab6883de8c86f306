use Rattle.std.proofs.Common.{◌≡◌, ℕ, ◌++◌, map, take}
use Rattle.sk_decimal.proofs.account.Told.add.Given as goal

abbrev pub invariant-byte : goal.invariant-byte
invariant-byte l = map (λ (pair : ℕ × ℕ). pair.0) l.self-inside.bytes.items ≡ l.fn.self ++ take l.byte-index l.bytes
