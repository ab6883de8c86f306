use Rattle.std.proofs.Common.{◌≡◌, ℕ, ◌<◌, get_or}
use Rattle.sk_decimal.proofs.words.slash_place.Given as goal

abbrev pub invariant-byte : goal.invariant-byte
invariant-byte l = (k : ℕ) → k < l.i → get_or l.word k 0 ≡ 47 → ⊥
