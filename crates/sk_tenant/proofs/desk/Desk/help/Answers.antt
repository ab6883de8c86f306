use Rattle.std.proofs.Common.{◌<◌, length, sym, subst}
use Rattle.sk_tenant.specs.Calls.{Helps}
use Rattle.sk_tenant.proofs.Done.{desk_after, done_now}
use Rattle.sk_tenant.proofs.desk.Desk.help.Goals as goal

pub invariant_of-self : goal.invariant_of-self
invariant_of-self g c =
    let place : c.args.t < length c.self.inside.updaters.items = subst (λ d. c.args.t < length d.updaters) (sym c.self.view_is) c.requires.place in
    desk_after (record { names = c.self.inside.names; number = c.self.inside.number; quota = c.self.inside.quota; updaters = c.self.inside.updaters.items })
    c.args.t c.index_mut.result.now c.help_with.new.updater (Helps c.help_with.result) c.self.invariant place c.index_mut.ensures.value c.help_with.ensures

pub returns : goal.returns
returns g c = record {
  done = done_now c.args.self.now _ c.args.t c.index_mut.result.now c.help_with.new.updater (Helps c.help_with.result) c.self.view_is c.requires.place c.index_mut.ensures.value c.help_with.ensures;
}
