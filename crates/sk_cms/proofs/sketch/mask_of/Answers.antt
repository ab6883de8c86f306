use Rattle.std.proofs.Common.{◌≡◌, ◌-◌, ◌^◌, ◌<◌, ◌%◌, ℕ, sym, ap, ◌∙◌, arith}
use Rattle.std.specs.Prelude.{bit_and}
use Rattle.std.proofs.lemmas.Nat.{and_mask}
use Rattle.std.proofs.Math.Nat.{mod-eq_of_lt}
use Rattle.std.proofs.Math.Pow.{pow-lt}
use Rattle.sk_cms.proofs.sketch.mask_of.Goals as goal

pub returns-then-width-k : goal.returns-then-width-k
returns-then-width-k c =
    let k = c.power.k in
    let small : 2 ^ k < 2 ^ 32 = pow-lt {i = k} {j = 32} c.power-test.true in
    let width : c.args.width ≡ 2 ^ k = c.if-width-k.true ∙ mod-eq_of_lt (omega arith) ∙ omega arith in
    let mask : c.from.result - 1 ≡ 2 ^ k - 1 = omega (arith, c.from.ensures, width) in
    λ _ number. ap (λ (m : ℕ). bit_and number m) mask ∙ and_mask number k ∙ ap (λ (w : ℕ). number % w) (sym width)
