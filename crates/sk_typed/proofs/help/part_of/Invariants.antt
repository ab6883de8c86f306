use Rattle.std.proofs.Common.{◌≡◌, ℕ, length, drop}
use denote.Shadow.{shadow}
use denote.Text.{Utf8}
use Rattle.sk_typed.proofs.help.part_of.Given as goal

abbrev pub invariant-part : goal.invariant-part
invariant-part l = shadow (Utf8 l.rest) × (from : ℕ) × (l.rest ≡ drop from l.text)

abbrev pub decreases-part : goal.decreases-part
decreases-part l = length l.rest
