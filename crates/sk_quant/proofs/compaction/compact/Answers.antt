use Rattle.std.proofs.Common.{ℕ, List, sym, ap, subst, ◌∙◌}
use Rattle.std.specs.List.Sorted.{IsNonDecreasing}
use Rattle.sk_quant.specs.Coins.{coin_of}
use Rattle.sk_quant.specs.Held.{carried}
use Rattle.sk_quant.specs.Stored.{lists_of}
use Rattle.sk_quant.proofs.Orders.{in_order_rises}
use Rattle.sk_quant.proofs.compaction.compact.Goals as goal

pub carry-requires-clause-rise : goal.carry-requires-clause-rise
carry-requires-clause-rise c =
    subst (λ (l : List ℕ). IsNonDecreasing l) (sym c.put_in_order.ensures.items) (in_order_rises c.args.base.now.items)

pub returns-clause-up : goal.returns-clause-up
returns-clause-up c =
    let coins = c.args.coins.now in
    c.carry.ensures.up ∙ ap (λ (l : List ℕ). carried (coin_of coins.key) coins.taken l (lists_of c.args.levels.now)) c.put_in_order.ensures.items
