use Rattle.std.proofs.Common.{◌≡◌}
use Rattle.sk_gate.specs.Hands.{rotated}
use Rattle.sk_gate.proofs.seat.rotate.Given as goal

abbrev pub invariant-turn : goal.invariant-turn
invariant-turn g l = (l.seat.table_id ≡ l.initial.seat.table_id) × (l.seat.id ≡ l.initial.seat.id) × (l.seat.me ≡ (l.initial.seat.me.0, rotated l.counter l.initial.seat.me.1))
