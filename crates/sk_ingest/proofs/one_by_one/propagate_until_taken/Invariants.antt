use Rattle.sk_hub.specs.Calls.{KeepsNone}
use Rattle.sk_feed.specs.Hubs.{HeartMayGoOn}
use Rattle.sk_ingest.proofs.one_by_one.propagate_until_taken.Given as goal

abbrev pub invariant-again : goal.invariant-again
invariant-again g l = record {
  none : KeepsNone l.initial.u l.u;
  heart : HeartMayGoOn l.plan.propagator l.initial.heart l.heart;
}
