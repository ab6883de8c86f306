use Rattle.std.proofs.Common.{rules, ◌-◌}
use Rattle.sk_gate.specs.Slots.{sketching, telling}
use Rattle.sk_gate.proofs.Updaters.{asks}
use Rattle.sk_gate.proofs.token.TokenSeat.ask.Goals as goal

pub load-requires : goal.load-requires
load-requires g c = let k = g.C.Composable in let slots = c.deref.result.now.shared.table_id.slots in (
  search rules,
  search rules,
  asks k.hint_of k.packed_of (sketching k.is_of k.numbers k.name) (telling k.tells k.told_name k.told_of) _ _ (slots - 1) _ (search rules) c.self.invariant.3.live,
)
