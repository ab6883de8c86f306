use Rattle.std.proofs.Common.{rules, ◌++◌, ◌∙◌, ap, sym, subst, refl}
use Rattle.sk_model.specs.Entries.{tagged}
use Rattle.sk_machine.specs.declared.views.View.{View}
use Rattle.sk_gate.specs.Slots.{sketching, telling}
use Rattle.sk_gate.specs.Views.{batch_of, left_in}
use Rattle.sk_gate.specs.Moves.{IsSeen, PublishesAt}
use Rattle.sk_gate.proofs.Rounds.{publishes}
use Rattle.sk_gate.proofs.Leading.{view_is, found_as, published_next}
use Rattle.sk_gate.proofs.seat.Propagator.publish.Goals as goal

pub store-requires : goal.store-requires
store-requires g c = let k = g.C.Composable in let i = c.self.invariant in let see = sketching k.is_of k.numbers k.name in let tell = telling k.tells k.told_name k.told_of in let v = c.args.self.now.view in (
  search rules,
  search rules,
  publishes k.hint_of k.packed_of see tell _ _ c.self.inside.updaters c.args.i _ _ (search rules) i.4.live (found_as see tell i.4 c.self.view_is c.args.i (λ y. left_in y.duty) c.requires.found)
      (c.packed.ensures.value _ c.requires.merged ∙ ap (λ ns. k.packed_of ns (v.seen ++ tagged c.args.i (batch_of v))) c.requires.numbers ∙ ap (λ (y : View). k.packed_of y.numbers (y.seen ++ tagged c.args.i (batch_of y))) (sym (view_is see tell i.4 c.self.view_is))),
)

pub invariant_of-self : goal.invariant_of-self
invariant_of-self g c = let k = g.C.Composable in let i = c.self.invariant in let e = c.store.ensures in let t = e.2 c.args.i in (
  search rules,
  search rules,
  search rules,
  i.3,
  (published_next (sketching k.is_of k.numbers k.name) (telling k.tells k.told_name k.told_of) i.4 c.self.view_is c.store.new.seat.me _ c.packed.result c.args.i c.requires.found c.requires.taken c.requires.lifted refl t.0 t.1).1.0,
)

pub returns-clause-told : goal.returns-clause-told
returns-clause-told g c = let k = g.C.Composable in let i = c.self.invariant in let e = c.store.ensures in let t = e.2 c.args.i in let see = sketching k.is_of k.numbers k.name in let tell = telling k.tells k.told_name k.told_of in let v = c.args.self.now.view in
    let told = (published_next see tell i.4 c.self.view_is c.store.new.seat.me c.store.new.seat.table_id c.packed.result c.args.i c.requires.found c.requires.taken c.requires.lifted e.0 t.0 t.1).0 in
    let value = c.packed.ensures.value _ c.requires.merged ∙ ap (λ ns. k.packed_of ns (v.seen ++ tagged c.args.i (batch_of v))) c.requires.numbers in
    subst (λ x. PublishesAt v x c.store.new.seat.me.0 c.args.i) value (subst (λ y. PublishesAt y c.packed.result c.store.new.seat.me.0 c.args.i) (view_is see tell i.4 c.self.view_is) told)

pub returns-clause-seat : goal.returns-clause-seat
returns-clause-seat g c = let k = g.C.Composable in let i = c.self.invariant in let e = c.store.ensures in let t = e.2 c.args.i in
    (published_next (sketching k.is_of k.numbers k.name) (telling k.tells k.told_name k.told_of) i.4 c.self.view_is c.store.new.seat.me c.store.new.seat.table_id c.packed.result c.args.i c.requires.found c.requires.taken c.requires.lifted e.0 t.0 t.1).1.1

pub returns-clause-seen : goal.returns-clause-seen
returns-clause-seen g c = let k = g.C.Composable in let i = c.self.invariant in
    subst (λ v. IsSeen v c.store.new.seat.me.0.seen) (view_is (sketching k.is_of k.numbers k.name) (telling k.tells k.told_name k.told_of) i.4 c.self.view_is) (c.store.ensures.2 c.args.i).2
