-- Numbers as decimal digits.
use Rattle.std.proofs.Common.{◌≡◌, ℕ, ◌<◌, Bool, true, false, cond, ◌&&◌, List, Some, None, nat_lt, refl}
use Rattle.std.proofs.lemmas.Bool.{ltb-true}
use Rattle.std.specs.Option.{IfSome}
use Rattle.sk_model.specs.Numbers.{value_of, number_of}

below_by : (end v : ℕ) (a b : Bool) → nat_lt v end ≡ b → IfSome (cond (a && b) (Some v) None) (λ n. n < end)
below_by end v true true is = ltb-true v end is
below_by end v true false is = tt
below_by end v false b is = tt

-- a number below an end is below it
pub number_below : (end : ℕ) (bytes : List ℕ) → IfSome (number_of end bytes) (λ n. n < end)
unfolding number_of
number_below end bytes = below_by end (value_of bytes) _ (nat_lt (value_of bytes) end) refl
