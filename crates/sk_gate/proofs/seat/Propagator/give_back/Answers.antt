use Rattle.std.proofs.Common.{rules, arith, ◌∙◌, ap, subst, refl}
use Rattle.sk_gate.specs.Slots.{sketching, telling}
use Rattle.sk_gate.specs.Moves.{GivesBackAt}
use Rattle.sk_gate.proofs.Leading.{view_is, duty_as, gives_back_at, gave_next}
use Rattle.sk_gate.proofs.seat.Propagator.give_back.Goals as goal

pub store-requires : goal.store-requires
store-requires g c = let k = g.C.Composable in let i = c.self.invariant in let see = sketching k.is_of k.numbers k.name in let tell = telling k.tells k.told_name k.told_of in let v = c.args.self.now.view in (
  search rules,
  search rules,
  gives_back_at see tell i.4 c.self.view_is k.hint_of k.packed_of _ _ c.args.i _ (search rules) c.requires.published c.requires.there (c.hint.ensures.value _ c.requires.of_it ∙ ap (λ ns. k.hint_of ns v.seen) c.requires.numbers) c.hint.ensures.lower,
)

pub invariant_of-self : goal.invariant_of-self
invariant_of-self g c = let k = g.C.Composable in let i = c.self.invariant in let see = sketching k.is_of k.numbers k.name in let tell = telling k.tells k.told_name k.told_of in
    let e = c.store.ensures in let t = e.2 c.args.i (duty_as see tell i.4 c.self.view_is _ c.requires.published) in (
      search rules,
      search rules,
      search rules,
      i.3,
      (gave_next see tell i.4 c.self.view_is c.store.new.seat.me _ c.hint.result c.args.i c.requires.published c.requires.there c.requires.lifted refl t.0 t.1).0,
    )

pub returns-clause-told : goal.returns-clause-told
returns-clause-told g c = let k = g.C.Composable in let i = c.self.invariant in let see = sketching k.is_of k.numbers k.name in let tell = telling k.tells k.told_name k.told_of in let v = c.args.self.now.view in
    let e = c.store.ensures in let t = e.2 c.args.i (duty_as see tell i.4 c.self.view_is _ c.requires.published) in
    let value = c.hint.ensures.value _ c.requires.of_it ∙ ap (λ ns. k.hint_of ns v.seen) c.requires.numbers in
    subst (λ x. GivesBackAt v x c.store.new.seat.me.0 c.args.i) value (subst (λ y. GivesBackAt y c.hint.result c.store.new.seat.me.0 c.args.i) (view_is see tell i.4 c.self.view_is) t.0)

pub returns-clause-lower : goal.returns-clause-lower
returns-clause-lower g c = let k = g.C.Composable in let v = c.args.self.now.view in
    let value = c.hint.ensures.value _ c.requires.of_it ∙ ap (λ ns. k.hint_of ns v.seen) c.requires.numbers in let least = c.hint.ensures.lower in
    λ z. omega (arith, value, z, least)

pub returns-clause-seat : goal.returns-clause-seat
returns-clause-seat g c = let k = g.C.Composable in let i = c.self.invariant in let see = sketching k.is_of k.numbers k.name in let tell = telling k.tells k.told_name k.told_of in
    let e = c.store.ensures in let t = e.2 c.args.i (duty_as see tell i.4 c.self.view_is _ c.requires.published) in
    (gave_next see tell i.4 c.self.view_is c.store.new.seat.me c.store.new.seat.table_id c.hint.result c.args.i c.requires.published c.requires.there c.requires.lifted e.0 t.0 t.1).1
