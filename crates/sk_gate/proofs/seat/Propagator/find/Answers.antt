use Rattle.std.proofs.Common.{rules, subst, refl}
use Rattle.sk_gate.specs.Slots.{sketching, telling}
use Rattle.sk_gate.specs.Moves.{FindsAt}
use Rattle.sk_gate.proofs.Rounds.{finds}
use Rattle.sk_gate.proofs.Leading.{within, view_is, found_next, unfound_next, duty_as}
use Rattle.sk_gate.proofs.seat.Propagator.find.Goals as goal

pub load-found-requires : goal.load-found-requires
load-found-requires g c = let k = g.C.Composable in let i = c.self.invariant in let see = sketching k.is_of k.numbers k.name in let tell = telling k.tells k.told_name k.told_of in (
  search rules,
  search rules,
  finds k.hint_of k.packed_of see tell _ _ c.self.inside.updaters c.args.i _ (search rules) (within see tell i.4 c.self.view_is c.args.i c.requires.within) i.3 i.4.live (duty_as see tell i.4 c.self.view_is _ c.requires.idle),
)

pub invariant_of-self : goal.invariant_of-self
invariant_of-self g c = let k = g.C.Composable in let i = c.self.invariant in let e = c.load-found.ensures in let t = e.2 c.args.i refl in let z = c.if-found-eq0.true in let p = t.2 z in (
  search rules,
  search rules,
  search rules,
  i.3,
  (found_next (sketching k.is_of k.numbers k.name) (telling k.tells k.told_name k.told_of) i.4 c.self.view_is c.load-found.new.seat.me _ _ _ p.0 c.requires.idle c.requires.lifted c.requires.within refl z (t.0.1 z) p.1 p.2).0,
)

pub invariant_of-self-else-found-eq0 : goal.invariant_of-self-else-found-eq0
invariant_of-self-else-found-eq0 g c = let k = g.C.Composable in let i = c.self.invariant in let e = c.load-found.ensures in let t = e.2 c.args.i refl in let ne = c.if-found-eq0.false in (
  search rules,
  search rules,
  search rules,
  i.3,
  (unfound_next (sketching k.is_of k.numbers k.name) (telling k.tells k.told_name k.told_of) i.4 c.self.view_is c.load-found.new.seat.me _ _ c.args.i c.requires.idle c.requires.lifted refl ne t.0 (t.1 ne)).0,
)

pub returns-then-found-eq0-clause-told : goal.returns-then-found-eq0-clause-told
returns-then-found-eq0-clause-told g c = let k = g.C.Composable in let i = c.self.invariant in let t = c.load-found.ensures.2 c.args.i refl in
    subst (λ v. FindsAt v c.load-found.result c.load-found.new.seat.me.0 c.args.i) (view_is (sketching k.is_of k.numbers k.name) (telling k.tells k.told_name k.told_of) i.4 c.self.view_is) t.0

pub returns-then-found-eq0-clause-seat : goal.returns-then-found-eq0-clause-seat
returns-then-found-eq0-clause-seat g c = let k = g.C.Composable in let i = c.self.invariant in let e = c.load-found.ensures in let t = e.2 c.args.i refl in let z = c.if-found-eq0.true in let p = t.2 z in
    (found_next (sketching k.is_of k.numbers k.name) (telling k.tells k.told_name k.told_of) i.4 c.self.view_is c.load-found.new.seat.me _ _ _ p.0 c.requires.idle c.requires.lifted c.requires.within e.0 z (t.0.1 z) p.1 p.2).1

pub returns-else-found-eq0-clause-seat : goal.returns-else-found-eq0-clause-seat
returns-else-found-eq0-clause-seat g c = let k = g.C.Composable in let i = c.self.invariant in let e = c.load-found.ensures in let t = e.2 c.args.i refl in let ne = c.if-found-eq0.false in
    (unfound_next (sketching k.is_of k.numbers k.name) (telling k.tells k.told_name k.told_of) i.4 c.self.view_is c.load-found.new.seat.me _ _ c.args.i c.requires.idle c.requires.lifted e.0 ne t.0 (t.1 ne)).1
