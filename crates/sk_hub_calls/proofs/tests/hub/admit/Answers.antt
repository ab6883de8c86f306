use Rattle.std.proofs.Common.{sym, ap, ◌∙◌}
use Rattle.sk_hub_calls.proofs.tests.hub.admit.Goals as goal

pub returns-clause-updater : goal.returns-clause-updater
returns-clause-updater g c = let u = c.in-Admitted.updater in let is = c.in-Admitted.is in
    (c.admit.ensures.admitted u is).table ∙ sym (ap (λ h. h.table) (c.admit.ensures.count u is))
