use Rattle.std.proofs.Common.{rules, ◌≡◌, ◌∙◌, true, [], length, ap, sym, subst}
use Rattle.sk_gate.specs.Slots.{sketching, telling}
use Rattle.sk_gate.specs.Views.{after_join}
use Rattle.sk_gate.specs.Hands.{seat_state, rested_of, Holds}
use Rattle.sk_gate.proofs.Seats.{joins_updater}
use Rattle.sk_gate.proofs.Taken.{resting, gives_up, rested_says, same_join, taken_holds}
use Rattle.sk_gate.proofs.heart.Propagator+C+OfHeart.join.Goals as goal

pub load-requires : goal.load-requires
load-requires g c = let k = g.C.Composable in let gs = sketching k.is_of k.numbers k.name in let ts = telling k.tells k.told_name k.told_of in let f = c.other.inside in let i = c.other.invariant in
    let x = resting gs ts f.updaters f.number f.front f.own f.seat.me f.seat.table_id c.args.other i.4 c.other.view_is c.requires.free c.requires.ready c.requires.unswapped c.requires.picked in
    let ready = ap (λ s. (Rattle.sk_gate.specs.Views.mine_of s.view).ready) c.other.view_is ∙ c.requires.ready in
    (search rules, search rules, gives_up k.hint_of k.packed_of gs ts _ _ f.updaters f.number f.seat.me c.args.other (search rules) i.4.live i.4.post.0 ready x)

pub join_seat-requires : goal.join_seat-requires
join_seat-requires g c = let k = g.C.Composable in let gs = sketching k.is_of k.numbers k.name in let ts = telling k.tells k.told_name k.told_of in let f = c.other.inside in let i = c.other.invariant in
    let x = resting gs ts f.updaters f.number f.front f.own f.seat.me f.seat.table_id c.args.other i.4 c.other.view_is c.requires.free c.requires.ready c.requires.unswapped c.requires.picked in
    let e = c.load.ensures.2 f.number x.parcel [] i.4.post.0 x.hand in let now = rested_says f.seat.me.0 f.number _ _ _ (ap (λ m. m.0) e) i.4.live x.free in let h = c.self.invariant.4 in (
      search rules,
      search rules,
      ap (λ m. m.1) e,
      search rules,
      joins_updater k.hint_of k.packed_of gs ts _ c.self.inside.updaters _ _ f.number _ h.live now.live h.sized h.post.0 now.post now.rested now.duty,
    )

pub invariant_of-self : goal.invariant_of-self
invariant_of-self g c = let k = g.C.Composable in let gs = sketching k.is_of k.numbers k.name in let ts = telling k.tells k.told_name k.told_of in let f = c.other.inside in let i = c.other.invariant in let s = c.self.inside in
    let x = resting gs ts f.updaters f.number f.front f.own f.seat.me f.seat.table_id c.args.other i.4 c.other.view_is c.requires.free c.requires.ready c.requires.unswapped c.requires.picked in
    let e = c.load.ensures.2 f.number x.parcel [] i.4.post.0 x.hand in let now = rested_says f.seat.me.0 f.number _ _ _ (ap (λ m. m.0) e) i.4.live x.free in
    let many : f.updaters ≡ s.updaters = search rules in let long : length c.load.new.seat.me.0.sizes ≡ s.updaters = ap length now.sizes ∙ i.4.sized ∙ many in (
      search rules,
      search rules,
      search rules,
      search rules,
      subst (Holds gs ts true s.updaters s.number s.front s.own) (sym c.join_seat.ensures.2) (taken_holds gs ts true s.updaters s.number s.front s.own s.seat.me c.load.new.seat.me.0 c.self.invariant.4 long),
    )

pub returns : goal.returns
returns g c = let k = g.C.Composable in let gs = sketching k.is_of k.numbers k.name in let ts = telling k.tells k.told_name k.told_of in let f = c.other.inside in let i = c.other.invariant in let s = c.self.inside in
    let x = resting gs ts f.updaters f.number f.front f.own f.seat.me f.seat.table_id c.args.other i.4 c.other.view_is c.requires.free c.requires.ready c.requires.unswapped c.requires.picked in
    let e = c.load.ensures.2 f.number x.parcel [] i.4.post.0 x.hand in let t = c.join_seat.ensures in
    let view = same_join s.seat.me.0 _ _ _ (seat_state f.seat.me.0 f.seat.table_id f.number f.front f.seat.me.1) c.args.other (ap (λ m. m.0) e) c.other.view_is x.shown ∙ (λ a. after_join (c.self.view_is a).view (rested_of c.args.other)) in
    record { seat = (λ a. seat_state (t.2 a).0 (t.0 a) s.number s.front (t.2 a).1) ∙ λ a. record (c.self.view_is a) { view = view a } }
