use Rattle.std.proofs.Common.{◌≡◌, ℕ, List, ◌++◌, codes, length, take, ap, ◌∙◌, arith, length-take}
use Rattle.sk_lines.proofs.Digits as digits
use Rattle.sk_lines.proofs.decimals.put_estimate.Goals as goal

pub returns-clause-text : goal.returns-clause-text
returns-clause-text c =
    let front = c.put_text-at.ensures in
    let back = c.put_parts.ensures in
    let into : List ℕ = c.put_text-at.new.into in
    let long : length (take c.put_text-at.result into) ≡ c.put_text-at.result = omega (arith, ap length front.text, front.length) in
    digits.written_behind _ c.put_parts.new.into _ c.put_text-at.result c.put_parts.result long
    (omega (arith, ap length back.text, back.length, length-take c.put_parts.result c.put_parts.new.into))
    ∙ ap (λ (l : List ℕ). l ++ take c.put_parts.result c.put_parts.new.into) front.text
    ∙ ap (λ (l : List ℕ). codes "estimate " ++ l) back.text
