use Rattle.sk_feed.specs.Hubs.{HeartGoesOn}
use Rattle.sk_feed.proofs.beside.HeartPropagates.propagate_on.Given as goal

abbrev pub invariant-sweep : goal.invariant-sweep
invariant-sweep g l = HeartGoesOn l.initial.self l.self
