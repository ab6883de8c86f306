-- The factors of the reference code.
use Rattle.std.specs.Prelude.{◌≡◌}
use Rattle.sk_model.specs.Murmur.{c1, c2}
use Rattle.sk_hash.specs.declared.Factors.{Factors}

abbrev pub AreFactors : Factors → Type 0
AreFactors factors = (factors.c1 ≡ c1) × (factors.c2 ≡ c2)
