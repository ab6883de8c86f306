use Rattle.std.proofs.Common.{ℕ}
use Rattle.sk_hub.specs.Updaters.{UpdaterState}
use Rattle.sk_hub.specs.Calls.{KeepsNone}
use Rattle.sk_feed.specs.Calls.{ServesAfter}
use Rattle.sk_feed.proofs.feed.help_until_served.Given as goal

abbrev pub invariant-help : goal.invariant-help
invariant-help g l = record {
  none : KeepsNone l.initial.u l.u;
  leads : (u' : UpdaterState) (times : ℕ) → ServesAfter times l.u u' → (more : ℕ) × ServesAfter more l.initial.u u';
}
