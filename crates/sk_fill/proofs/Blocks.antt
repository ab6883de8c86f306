-- Places of blocks.
use Rattle.std.proofs.Common.{◌≡◌, ℕ, ◌+◌, ◌*◌, ◌/◌, ◌<◌, ◌≤◌, ap, ◌∙◌, arith}
use Rattle.std.proofs.Math.Nat.{zero-div, mul-div_cancel, div-mul-le_self, div-le_of_le-mul, mul_comm, mul-le-mul_right}
use Rattle.std.proofs.lemmas.Nat.{le-div}
use Rattle.sk_fill.specs.Blocks.{place_of}

pub first_place : (lines n : ℕ) → place_of lines 0 n ≡ 0
first_place lines n = let none : 0 * lines ≡ 0 = omega arith in ap (λ z. z / n) none ∙ zero-div n

pub last_place : (lines n : ℕ) → 0 < n → place_of lines n n ≡ lines
last_place lines n some = ap (λ z. z / n) (mul_comm n lines) ∙ mul-div_cancel lines some

pub places_rise : (lines i n : ℕ) → 0 < n → place_of lines i n ≤ place_of lines (i + 1) n
places_rise lines i n some =
    let low : place_of lines i n * n ≤ i * lines = div-mul-le_self (i * lines) n in
    let more : i * lines ≤ (i + 1) * lines = omega arith in
    le-div (place_of lines i n) ((i + 1) * lines) n some (omega arith)

pub places_within : (lines i n : ℕ) → i ≤ n → place_of lines i n ≤ lines
places_within lines i n le = div-le_of_le-mul n (mul-le-mul_right lines le)
