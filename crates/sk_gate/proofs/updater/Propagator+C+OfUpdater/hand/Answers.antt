use Rattle.std.proofs.Common.{rules, ◌∙◌, [], ◌++◌, append-nil, false, subst, sym}
use Rattle.sk_gate.specs.Slots.{sketching, telling}
use Rattle.sk_gate.specs.Hands.{SeatState, seat_state}
use Rattle.sk_gate.specs.Moves.{HandsAt}
use Rattle.sk_gate.proofs.Own.{hands_at, handed_after, handed_holds}
use Rattle.sk_gate.proofs.SeatState.{shown_with}
use Rattle.sk_gate.proofs.updater.Propagator+C+OfUpdater.hand.Goals as goal

pub store-requires : goal.store-requires
store-requires g c = let k = g.C.Composable in let i = c.self.invariant in
    (search rules, search rules, hands_at (sketching k.is_of k.numbers k.name) (telling k.tells k.told_name k.told_of) k.hint_of k.packed_of _ _ _ _ _ _ _ _ _ _ i.4 c.self.view_is c.requires.swapped (search rules) c.rotate.ensures.me)

pub invariant_of-self : goal.invariant_of-self
invariant_of-self g c = let k = g.C.Composable in let i = c.self.invariant in
    let t = handed_after (sketching k.is_of k.numbers k.name) (telling k.tells k.told_name k.told_of) _ _ _ _ _ _ _ _ _ i.4 c.self.view_is c.requires.swapped c.rotate.ensures.me c.store.ensures.2 in
    (search rules, search rules, search rules, search rules, handed_holds (sketching k.is_of k.numbers k.name) (telling k.tells k.told_name k.told_of) _ _ _ _ _ _ _ i.4 t.0 t.1)

pub returns-clause-told : goal.returns-clause-told
returns-clause-told g c = let k = g.C.Composable in let i = c.self.invariant in
    let t = handed_after (sketching k.is_of k.numbers k.name) (telling k.tells k.told_name k.told_of) _ _ _ _ _ _ _ _ _ i.4 c.self.view_is c.requires.swapped c.rotate.ensures.me c.store.ensures.2 in
    subst (λ (s : SeatState). HandsAt s.view c.store.new.seat.me.0 s.number c.args.self.now.own.items) c.self.view_is t.0

pub returns-clause-seat : goal.returns-clause-seat
returns-clause-seat g c = let k = g.C.Composable in let i = c.self.invariant in let f = c.self.inside in let now = c.args.self.now in
    let t = handed_after (sketching k.is_of k.numbers k.name) (telling k.tells k.told_name k.told_of) _ _ _ _ _ _ _ _ _ i.4 c.self.view_is c.requires.swapped c.rotate.ensures.me c.store.ensures.2 in
    (λ a. seat_state c.store.new.seat.me.0 ((c.store.ensures.0 ∙ c.rotate.ensures.table) a) f.number f.front c.store.new.seat.me.1)
    ∙ shown_with (sketching k.is_of k.numbers k.name) (telling k.tells k.told_name k.told_of) false f.updaters f.number f.front f.own f.seat.me f.seat.table_id now i.4 c.self.view_is c.store.new.seat.me.0 c.store.new.seat.me.1 [] (t.1 ∙ sym (append-nil (i.4.first ++ i.4.second)))
