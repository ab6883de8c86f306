use Rattle.std.proofs.Common.{rules}
use Rattle.sk_gate.specs.Slots.{sketching, telling}
use Rattle.sk_gate.proofs.Seats.{copies}
use Rattle.sk_gate.proofs.token.TokenSeat.note.Goals as goal

pub split_seat-seat-requires : goal.split_seat-seat-requires
split_seat-seat-requires g c = let k = g.C.Composable in
    (search rules, search rules, copies k.hint_of k.packed_of (sketching k.is_of k.numbers k.name) (telling k.tells k.told_name k.told_of) _ _ c.self.invariant.3.live)
