use Rattle.std.proofs.Common.{true, ◌<◌, length, sym, subst}
use Rattle.sk_tenant.specs.Calls.{Insists}
use Rattle.sk_tenant.specs.Desks.{DeskState, IsDone}
use Rattle.sk_tenant.proofs.Done.{done_same, filtered_now}
use Rattle.sk_tenant.proofs.desk.Desk.filters.Goals as goal

pub returns-clause-done : goal.returns-clause-done
returns-clause-done c = λ is.
    let inside : DeskState = record { names = c.self.inside.names; number = c.self.inside.number; quota = c.self.inside.quota; updaters = c.self.inside.updaters.items } in
    let place : c.args.t < length inside.updaters = subst (λ (d : DeskState). c.args.t < length d.updaters) (sym c.self.view_is) c.requires.place in
    subst (λ (d : DeskState). IsDone d c.args.t (Insists c.args.item true) d) c.self.view_is
    (done_same inside c.args.t c.index.result.now (Insists c.args.item true) place c.index.ensures (c.does_filter.ensures.owes is))

pub returns-clause-exact : goal.returns-clause-exact
returns-clause-exact c =
    filtered_now c.args.self.now _ c.args.t c.index.result.now c.args.item (c.does_filter.result) c.self.view_is c.index.ensures c.does_filter.ensures.exact
