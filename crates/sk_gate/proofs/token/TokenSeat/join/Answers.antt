use Rattle.std.proofs.Common.{rules}
use Rattle.sk_gate.specs.Slots.{sketching, telling}
use Rattle.sk_gate.proofs.Seats.{joins_note}
use Rattle.sk_gate.proofs.token.TokenSeat.join.Goals as goal

pub join_seat-requires : goal.join_seat-requires
join_seat-requires g c = let k = g.C.Composable in let note = c.other.invariant in (
  search rules,
  search rules,
  note.hand,
  search rules,
  joins_note k.hint_of k.packed_of (sketching k.is_of k.numbers k.name) (telling k.tells k.told_name k.told_of) _ _ _ _ c.self.invariant.3.live note.live note.post note.duty,
)
