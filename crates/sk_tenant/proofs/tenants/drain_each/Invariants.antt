use Rattle.std.proofs.Common.{length, get_or, vec_len}
use Rattle.sk_model.specs.Missing.{Begins}
use Rattle.sk_hub.specs.Drains.{IsDrained}
use Rattle.sk_hub.specs.Updaters.{UpdaterState}
use Rattle.sk_tenant.proofs.FromEnd.{ChangedFrom}
use Rattle.sk_tenant.proofs.tenants.drain_each.Given as goal

abbrev pub invariant-last : goal.invariant-last
invariant-last g l = record {
  left : Begins l.updaters.items l.fn.updaters.items;
  drained : ChangedFrom (λ t h h'. (u : UpdaterState) → IsDrained h (get_or l.fn.updaters.items t u) h') (length l.updaters.items) l.fn.hearts.items l.hearts.items;
}

abbrev pub decreases-last : goal.decreases-last
decreases-last g l = vec_len l.updaters
