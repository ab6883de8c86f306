use Rattle.std.proofs.Common.{◌≡◌, ◌+◌, ◌*◌, ◌<◌, ℕ, List, [], length, arith, sym, ap, ◌∙◌}
use Rattle.sk_quant.specs.Coins.{coin_of}
use Rattle.sk_quant.specs.Held.{Held, carried}
use Rattle.sk_quant.specs.Order.{in_order}
use Rattle.sk_quant.specs.Stored.{lists_of, held_in}
use Rattle.sk_quant.proofs.Bounds.{all_with_room, all_with_compaction}
use Rattle.sk_quant.proofs.compaction.put_all.Goals as goal

-- the base is empty again, and these are the levels with the place in the coins
abbrev compacted : List (List ℕ) × ℕ → Held
compacted up = record { base = []; levels = up.0; place = up.1 }

pub returns-then-len-k-clause-held : goal.returns-then-len-k-clause-held
returns-then-len-k-clause-held c =
    let coins = coin_of c.args.coins.now.key in
    let levels = lists_of c.args.levels.now in
    let filled = rw c.unwrap.ensures at c.extend_from_slice.ensures.items in
    let long = rw c.unwrap.ensures at c.extend_from_slice.ensures.len in
    let full : length c.args.base.now.items + length c.args.items.now ≡ 2 * c.args.k = omega (arith, long, c.len.ensures, c.if-len-k.true, c.args.base.now.ok.0) in
    ap (λ (items : List ℕ). record (compacted (lists_of c.compact.new.levels, c.compact.new.coins.taken)) { base = items }) c.compact.ensures.empty
    ∙ ap (λ (up : List (List ℕ) × ℕ). compacted up) c.compact.ensures.up
    ∙ ap (λ (items : List ℕ). compacted (carried coins c.args.coins.now.taken (in_order items) levels)) filled
    ∙ sym (all_with_compaction coins c.args.k (held_in c.args.base.now c.args.levels.now c.args.coins.now) c.args.items.now c.requires.few.0 full)

pub returns-else-len-k-clause-held : goal.returns-else-len-k-clause-held
returns-else-len-k-clause-held c =
    let held = held_in c.args.base.now c.args.levels.now c.args.coins.now in
    let filled = rw c.unwrap.ensures at c.extend_from_slice.ensures.items in
    let long = rw c.unwrap.ensures at c.extend_from_slice.ensures.len in
    let room : length c.args.base.now.items + length c.args.items.now < 2 * c.args.k = omega (arith, long, c.len.ensures, c.if-len-k.false, c.args.base.now.ok.0, c.requires.few.1) in
    ap (λ (items : List ℕ). record held { base = items }) filled
    ∙ sym (all_with_room (coin_of c.args.coins.now.key) c.args.k held c.args.items.now room)
