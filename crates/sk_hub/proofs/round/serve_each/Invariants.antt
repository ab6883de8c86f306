use Rattle.std.proofs.Common.{◌≡◌, ◌*◌, ◌≤◌, List}
use Rattle.sk_machine.specs.declared.views.Move.{Move}
use Rattle.sk_gate.specs.Slots.{sketching}
use Rattle.sk_hub.specs.Rounds.{ServesEach, Advances}
use Rattle.sk_hub.specs.Turns.{IsLifted}
use Rattle.sk_hub.proofs.round.serve_each.Given as goal
use Rattle.sk_model.specs.Limits.{most_size}

abbrev pub invariant-each : goal.invariant-each
invariant-each g l = let k = g.C.Composable in record {
  steps : (steps : List Move) × ServesEach l.from l.served l.count steps × Advances l.initial.seat.view steps l.seat.view;
  few : l.count ≤ most_size * l.served;
  idle : IsLifted (sketching k.is_of k.numbers k.name) l.seat l.trunk;
  stays : l.seat ≡ record l.initial.seat { view = l.seat.view };
}
