use Rattle.std.proofs.Common.{◌≡◌, ◌<◌, length, sym, subst}
use Rattle.sk_tenant.specs.declared.answers.Add.TheVariants.{Over}
use Rattle.sk_tenant.specs.Calls.{Adds}
use Rattle.sk_tenant.proofs.Owed.{over_exactly}
use Rattle.sk_tenant.proofs.Done.{desk_after, done_now, over_now}
use Rattle.sk_tenant.proofs.desk.Desk.add.Goals as goal

pub invariant_of-self : goal.invariant_of-self
invariant_of-self c =
    let place : c.args.t < length c.self.inside.updaters.items = subst (λ d. c.args.t < length d.updaters) (sym c.self.view_is) c.requires.place in
    desk_after (record { names = c.self.inside.names; number = c.self.inside.number; quota = c.self.inside.quota; updaters = c.self.inside.updaters.items })
    c.args.t c.index_mut.result.now c.add_to.new.updater (Adds c.args.item c.add_to.result) c.self.invariant place c.index_mut.ensures.value c.add_to.ensures

pub returns-clause-done : goal.returns-clause-done
returns-clause-done c =
    done_now c.args.self.now _ c.args.t c.index_mut.result.now c.add_to.new.updater (Adds c.args.item c.add_to.result) c.self.view_is c.requires.place c.index_mut.ensures.value c.add_to.ensures

pub returns-clause-over : goal.returns-clause-over
returns-clause-over c =
    over_now (c.add_to.result ≡ Over) c.args.self.now _ c.args.t c.index_mut.result.now c.self.view_is c.index_mut.ensures.value
    (over_exactly c.self.inside.quota c.index_mut.result.now c.add_to.new.updater c.args.item c.add_to.result c.add_to.ensures)
