use Rattle.std.proofs.Common.{[], ◌∷◌, get_or, take, sym, subst, arith}
use Rattle.std.proofs.lemmas.List.{take_more}
use Rattle.sk_hub.specs.Calls.{Takes}
use Rattle.sk_hub.proofs.Calls.{none_refl, takes_none, takes_trans, takes_few}
use Rattle.sk_panes.proofs.candidates.insist_each.Goals as goal

pub item-init : goal.item-init
item-init g c = let k = g.C.Composable in record {
  taken = takes_none k.keeps_of k.hint_of c.args.u.now c.args.u.now (none_refl c.args.u.now);
  room = omega (arith, c.requires.room);
}

pub item-preserved : goal.item-preserved
item-preserved g c =
    let k = g.C.Composable in
    let items = c.args.items.now in
    let item = get_or items c.item.item-index 0 in
    let taken = c.in_ok-insist.ensures.taken in
    record {
      taken = subst (λ l. Takes k.keeps_of k.hint_of c.args.u.now l c.insist.new.u) (sym (take_more items c.item.item-index 0 c.item-test.true))
          (takes_trans k.keeps_of k.hint_of c.args.u.now c.item.u c.insist.new.u (take c.item.item-index items) (item ∷ []) c.item.invariant.taken taken);
      room = omega (arith, c.item-test.true, c.item.invariant.room, takes_few k.keeps_of k.hint_of c.item.u c.insist.new.u (item ∷ []) taken);
    }
