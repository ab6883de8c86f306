-- The nearest whole number.
use Rattle.std.proofs.Common.{◌≡◌, ℕ, ◌+◌, ◌-◌, ◌*◌, ◌/◌, ◌<◌, ◌≤◌, ap, sym, ◌∙◌, arith}
use Rattle.std.proofs.lemmas.Nat.{div-add-mod', div-mul-add, mod_below}
use Rattle.std.proofs.Math.Nat.{mul_comm, mul-add, mul_assoc}
use Rattle.sk_decimal.specs.Decimal.{nearest}

doubled : (q d : ℕ) → 2 * q * d ≡ q * (2 * d)
doubled q d = let turned : 2 * q ≡ q * 2 = omega arith in ap (λ (k : ℕ). k * d) turned ∙ mul_assoc q 2 d

one_more : (k d : ℕ) → (k + 1) * d ≡ k * d + d
one_more k d = omega (arith, mul_comm (k + 1) d, mul-add d k 1, mul_comm k d)

pub nearest_below : (scale n d : ℕ) → 0 < d → 2 * n * scale < (2 * nearest scale n d + 1) * d
unfolding nearest
nearest_below scale n d some =
    let m = 2 * n * scale in
    let q = (m + d) / (2 * d) in
    omega (arith, div-add-mod' (m + d) (2 * d), mod_below (m + d) (2 * d) (omega arith), doubled q d, one_more (2 * q) d)

pub nearest_above : (scale n d : ℕ) → 0 < d → 2 * nearest scale n d * d ≤ 2 * n * scale + d
unfolding nearest
nearest_above scale n d some =
    let m = 2 * n * scale in
    let q = (m + d) / (2 * d) in
    omega (arith, div-add-mod' (m + d) (2 * d), doubled q d)

pub nearest_only : (scale n d q : ℕ) → 0 < d → 2 * n * scale < (2 * q + 1) * d → 2 * q * d ≤ 2 * n * scale + d → q ≡ nearest scale n d
unfolding nearest
nearest_only scale n d q some below above =
    let m = 2 * n * scale in
    let left = m + d - 2 * q * d in
    let small : left < 2 * d = omega (arith, below, above, one_more (2 * q) d) in
    let same : q * (2 * d) + left ≡ m + d = omega (arith, above, doubled q d) in
    sym (div-mul-add q (2 * d) left small) ∙ ap (λ (k : ℕ). k / (2 * d)) same
