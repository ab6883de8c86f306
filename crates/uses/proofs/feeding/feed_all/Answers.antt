use Rattle.std.proofs.Common.{◌<◌, ◌∷◌, [], length, take, get_or, sym, subst, arith}
use Rattle.std.proofs.lemmas.List.{take_more}
use Rattle.sk_hub.specs.Calls.{Takes}
use Rattle.sk_hub.proofs.Calls.{none_refl, takes_none, takes_trans, takes_few}
use Rattle.uses.proofs.feeding.feed_all.Goals as goal

pub item-init : goal.item-init
item-init g c = let k = g.C.Composable in let u = c.args.updater.now in record {
  taken = takes_none k.keeps_of k.hint_of u u (none_refl u);
  room = omega (arith, c.requires.room);
}

pub item-preserved : goal.item-preserved
item-preserved g c =
    let k = g.C.Composable in let u = c.args.updater.now in
    let items = c.args.items.now in let i = c.item.item-index in let w = c.feed_item.new.updater in
    let within : i < length items = c.item-test.true in
    let few = takes_few k.keeps_of k.hint_of c.item.updater w (get_or items i 0 ∷ []) c.feed_item.ensures in
    record {
      taken = subst (λ l. Takes k.keeps_of k.hint_of u l w) (sym (take_more items i 0 within))
          (takes_trans k.keeps_of k.hint_of u c.item.updater w (take i items) (get_or items i 0 ∷ []) c.item.invariant.taken c.feed_item.ensures);
      room = omega (arith, c.item.invariant.room);
    }
