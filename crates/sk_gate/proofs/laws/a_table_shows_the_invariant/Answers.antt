use Rattle.sk_gate.specs.Slots.{sketching, telling}
use Rattle.sk_gate.proofs.Shows.{always_shown}
use Rattle.sk_gate.proofs.laws.a_table_shows_the_invariant.Goals as goal

pub returns : goal.returns
returns g c about = always_shown g.C.Composable.hint_of g.C.Composable.packed_of (sketching g.C.Composable.is_of g.C.Composable.numbers g.C.Composable.name) (telling g.C.Composable.tells g.C.Composable.told_name g.C.Composable.told_of)
