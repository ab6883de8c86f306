-- What follows from a version.
use Rattle.std.proofs.Common.{ℕ, ◌^◌, ◌<◌, ◌≤◌, Bool, true, false, eqb, cond, arith}
use Rattle.sk_model.specs.Limits.{most_k}
use Rattle.sk_model.specs.Width.{item_end, item_digits}
use Rattle.sk_image.specs.Versions.{IsHash, end_of, digits_of, most_k_of}

pub few_digits : (version : ℕ) → digits_of version ≤ 16
unfolding digits_of
few_digits version = by (eqb version 1)
  where
    by : (is : Bool) → cond is 12 item_digits ≤ 16
    by true = omega arith
    by false = omega arith

pub most_k_within : (version : ℕ) → most_k_of version ≤ most_k
unfolding most_k_of
most_k_within version = by (eqb version 1)
  where
    by : (is : Bool) → cond is 32768 most_k ≤ most_k
    by true = omega arith
    by false = omega arith

-- the digits of a version have room for its hashes
pub digits_suffice : (version hash : ℕ) → IsHash version hash → hash < 16 ^ digits_of version
unfolding digits_of end_of
digits_suffice version hash is = omega (arith, is.1, by (eqb version 1))
  where
    by : (is : Bool) → cond is (2 ^ 48) item_end ≤ 16 ^ cond is 12 item_digits
    by true = omega arith
    by false = omega arith
