use Rattle.std.proofs.Common.{refl, sym, ◌∙◌}
use Rattle.sk_gate.proofs.Rotated.{rotated_none, rotated_again}
use Rattle.sk_gate.proofs.seat.rotate.Goals as goal

pub turn-init : goal.turn-init
turn-init g c = (refl, refl, λ a. (c.args.seat.now.me.0, sym (rotated_none c.args.seat.now.me.1) a))

pub turn-preserved : goal.turn-preserved
turn-preserved g c = let i = c.turn.invariant in let e = c.turn-in-turn.ensures in (
  e.0 ∙ i.0,
  e.1 ∙ i.1,
  rw (e.2, i.2, rotated_again c.turn.counter c.args.seat.now.me.1) refl,
)
