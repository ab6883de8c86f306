use Rattle.std.proofs.Common.{◌≡◌, ◌+◌, ◌-◌, ◌<◌, ◌≤◌, ℕ, List, min, length, take, ⊎_elim, arith, sym, ap, ◌∙◌}
use Rattle.std.proofs.Math.Nat.{min-le_left, min-le_right, min-eq_left, min-eq_right}
use Rattle.std.proofs.lemmas.Bool.{cases_lt}
use Rattle.sk_quant.specs.Limits.{most_items}
use Rattle.sk_snap.specs.Quants.{put_all_is}
use Rattle.sk_snap.proofs.quant.put_items.Goals as goal

-- the less of two that is not the first is the second
is_second : (a b n : ℕ) → n ≡ min a b → n < a → n ≡ b
is_second a b n is less = ⊎_elim
    (λ first. absurd (omega (arith, is, min-eq_left {n = a} {m = b} (omega (arith, first)), less)))
    (λ second. is ∙ min-eq_right {n = b} {m = a} second)
    (cases_lt a b)

pub returns : goal.returns
returns c =
    let s = c.args.quant.now in
    let items = c.args.items.now in
    let n = c.min-taken.result in
    let room = most_items - c.len.result in
    c.update_all.ensures.left
    ∙ put_all_is s items n (omega (arith, c.min-taken.ensures, min-le_left (length items) room))
    (omega (arith, c.min-taken.ensures, min-le_right (length items) room, c.len.ensures.count, c.len.ensures.whole.count))
    (λ more. omega (arith, is_second (length items) room n c.min-taken.ensures more, c.len.ensures.count, c.len.ensures.whole.count))
