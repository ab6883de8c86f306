use Rattle.std.proofs.Common.{ℕ}
use Rattle.sk_hub.specs.Updaters.{UpdaterState}
use Rattle.sk_hub.specs.Calls.{KeepsNone}
use Rattle.sk_feed.specs.Calls.{filter_of, InsistsAfter}
use Rattle.sk_feed.proofs.feed.insist.Given as goal

abbrev pub invariant-again : goal.invariant-again
invariant-again g l = let k = g.C.Composable in record {
  none : KeepsNone l.initial.u l.u;
  leads : (u' : UpdaterState) (times : ℕ) → InsistsAfter (filter_of k.keeps_of k.early_of k.hint_of) times l.u l.item u' → (more : ℕ) × InsistsAfter (filter_of k.keeps_of k.early_of k.hint_of) more l.initial.u l.item u';
}
