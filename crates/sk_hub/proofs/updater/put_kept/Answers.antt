use Rattle.std.proofs.Common.{◌≡◌, ℕ, ◌+◌, ◌<◌, ◌≤◌, length, take, ap, get_or, arith, length-append, length-take}
use Rattle.std.specs.List.{filter}
use Rattle.sk_hub.proofs.Each.{few_filtered}
use Rattle.sk_hub.proofs.updater.put_kept.Goals as goal

pub push-requires-clause-room : goal.push-requires-clause-room
push-requires-clause-room g c =
    let keeps = g.C.Composable.keeps_of c.args.hint in let items = c.args.items.now in
    omega (arith, ap length c.item.invariant.items, length-append c.args.fill.now.items (filter keeps (take c.item.item-index items)), few_filtered keeps (take c.item.item-index items), length-take c.item.item-index items, c.item-test.true, c.requires.room, c.item.invariant.capacity)

pub overflow_add-count : goal.overflow_add-count
overflow_add-count g c =
    let keeps = g.C.Composable.keeps_of c.args.hint in let items = c.args.items.now in
    omega (arith, c.item.invariant.count, few_filtered keeps (take c.item.item-index items), length-take c.item.item-index items, c.item-test.true, c.item.auto.item-index-end)
