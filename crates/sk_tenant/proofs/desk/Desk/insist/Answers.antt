use Rattle.std.proofs.Common.{◌≡◌, false, ◌<◌, length, sym, subst}
use Rattle.sk_tenant.specs.Calls.{Insists}
use Rattle.sk_tenant.proofs.Owed.{insist_exactly}
use Rattle.sk_tenant.proofs.Done.{desk_after, done_now, over_now}
use Rattle.sk_tenant.proofs.desk.Desk.insist.Goals as goal

pub invariant_of-self : goal.invariant_of-self
invariant_of-self g c =
    let place : c.args.t < length c.self.inside.updaters.items = subst (λ d. c.args.t < length d.updaters) (sym c.self.view_is) c.requires.place in
    desk_after (record { names = c.self.inside.names; number = c.self.inside.number; quota = c.self.inside.quota; updaters = c.self.inside.updaters.items })
    c.args.t c.index_mut.result.now c.insist_with.new.updater (Insists c.args.item c.insist_with.result) c.self.invariant place c.index_mut.ensures.value c.insist_with.ensures

pub returns-clause-done : goal.returns-clause-done
returns-clause-done g c =
    done_now c.args.self.now _ c.args.t c.index_mut.result.now c.insist_with.new.updater (Insists c.args.item c.insist_with.result) c.self.view_is c.requires.place c.index_mut.ensures.value c.insist_with.ensures

pub returns-clause-over : goal.returns-clause-over
returns-clause-over g c =
    over_now (c.insist_with.result ≡ false) c.args.self.now _ c.args.t c.index_mut.result.now c.self.view_is c.index_mut.ensures.value
    (insist_exactly c.self.inside.quota c.index_mut.result.now c.insist_with.new.updater c.args.item c.insist_with.result c.insist_with.ensures)
