use Rattle.std.proofs.Common.{ap, sym, ◌∙◌, subst, ℕ, ◌<◌}
use Rattle.sk_decimal.specs.Account.{Account, Shown, Rounder, Reports, HasSettled, HasStopped}
use Rattle.sk_decimal.proofs.Accounts.{same_account}
use Rattle.sk_decimal.proofs.rounding.Rounding.below.Goals as goal

pub returns-clause-settled : goal.returns-clause-settled
returns-clause-settled g c = λ before text reports fine.
    let inside = c.self.inside in
    let below : Shown = record { written = g.O.Sink.written inside.out; faults = g.O.Sink.faults inside.out } in
    subst (λ (a : Account). HasSettled a below) (ap (λ (r : Rounder). r.account) c.self.view_is ∙ same_account before c.args.self.now.account text reports)
    (c.self.invariant.settled (ap (λ (r : Rounder). r.faults) c.self.view_is ∙ fine))

pub returns-clause-stopped : goal.returns-clause-stopped
returns-clause-stopped g c = λ before text reports failed.
    let inside = c.self.inside in
    let below : Shown = record { written = g.O.Sink.written inside.out; faults = g.O.Sink.faults inside.out } in
    subst (λ (a : Account). HasStopped a below) (ap (λ (r : Rounder). r.account) c.self.view_is ∙ same_account before c.args.self.now.account text reports)
    (c.self.invariant.stopped (subst (λ (n : ℕ). 0 < n) (sym (ap (λ (r : Rounder). r.faults) c.self.view_is)) failed))
