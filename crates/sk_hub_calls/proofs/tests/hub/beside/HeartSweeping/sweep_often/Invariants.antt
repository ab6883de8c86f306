use Rattle.std.proofs.Common.{◌≡◌}
use Rattle.sk_hub.specs.Rounds.{KnowsAsMuch}
use Rattle.sk_hub_calls.proofs.tests.hub.beside.HeartSweeping.sweep_often.Given as goal

abbrev pub invariant-sweep : goal.invariant-sweep
invariant-sweep g l = record {
  knows : KnowsAsMuch l.initial.self.view l.self.view;
  stays : l.self ≡ record l.initial.self { view = l.self.view };
}
