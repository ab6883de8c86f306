use Rattle.std.proofs.Common.{◌≡◌, ◌+◌, ◌*◌, ◌%◌, ℕ, get_or, ap, ◌∙◌, arith}
use Rattle.std.specs.Prelude.{slice_set}
use Rattle.sk_cms.specs.Counts.{joined}
use Rattle.sk_cms.proofs.Joined.{joined_at, joined_set, joined_set_low}
use Rattle.sk_cms.proofs.sketch.raise_at.Goals as goal

pub overflow_add-high : goal.overflow_add-high
overflow_add-high c = omega (arith, joined_at c.args.low.now c.args.high.now c.args.at c.requires.sizes, c.requires.small)

pub returns-then-next-eq0 : goal.returns-then-next-eq0
returns-then-next-eq0 c =
    let low = c.args.low.now in let high = c.args.high.now in let at = c.args.at in
    let next = (get_or low at 0 + 1) % 256 in
    let sum : next + 256 * (get_or high at 0 + 1) ≡ get_or (joined low high) at 0 + 1 = omega (arith, joined_at low high at c.requires.sizes, c.if-next-eq0.true) in
    joined_set low high at next (get_or high at 0 + 1) ∙ ap (λ (v : ℕ). slice_set (joined low high) at v) sum

pub returns-else-next-eq0 : goal.returns-else-next-eq0
returns-else-next-eq0 c =
    let low = c.args.low.now in let high = c.args.high.now in let at = c.args.at in
    let next = (get_or low at 0 + 1) % 256 in
    let sum : next + 256 * get_or high at 0 ≡ get_or (joined low high) at 0 + 1 = omega (arith, joined_at low high at c.requires.sizes, c.if-next-eq0.false) in
    joined_set_low low high at next ∙ ap (λ (v : ℕ). slice_set (joined low high) at v) sum
