use Rattle.std.proofs.Common.{rules, sym, subst}
use Rattle.sk_core.specs.Stored.{Stored, machine_of}
use Rattle.sk_core.specs.Inside.{stored_of}
use Rattle.sk_machine.specs.Fine.{MayYield}
use Rattle.sk_core.proofs.Propagator.{yields_stored}
use Rattle.sk_core.proofs.state.State.yield_turn.Goals as goal

pub invariant_of-self : goal.invariant_of-self
invariant_of-self c =
    let k = c.self.invariant in
    let may = subst (λ (o : Stored). MayYield c.args.seat (machine_of o)) (sym c.self.view_is) (c.may_yield.ensures.0 (search rules)) in
    record { stored = yields_stored (stored_of c.self.inside) c.args.seat k.stored may; sketch = k.sketch; room_offers = k.room_offers; room_published = k.room_published; room_in_hand = k.room_in_hand; room_tokens = k.room_tokens }
