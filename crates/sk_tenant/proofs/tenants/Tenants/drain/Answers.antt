use Rattle.std.proofs.Common.{◌≢◌, refl, sym, subst, ◌∙◌}
use Rattle.sk_tenant.specs.Desks.{DeskState}
use Rattle.sk_tenant.specs.Hosts.{TenantsState, IsDeskOf, DrainsDesk, HasTakenInDesk}
use Rattle.sk_tenant.proofs.Standing.{hubs_stay, drained_desk, other_desk, desk_of_same}
use Rattle.sk_tenant.proofs.tenants.Tenants.drain.Goals as goal

pub invariant_of-self : goal.invariant_of-self
invariant_of-self g c =
    let hosts : TenantsState = record { names = c.self.inside.names; k = c.self.inside.k; n = c.self.inside.n; hearts = c.self.inside.hearts.items } in
    let hosts' : TenantsState = record { names = c.self.inside.names; k = c.self.inside.k; n = c.self.inside.n; hearts = c.drain_each.new.hearts.items } in
    let d : DeskState = record { names = c.desk.inside.names; number = c.desk.inside.number; quota = c.desk.inside.quota; updaters = c.desk.inside.updaters.items } in
    let all : DrainsDesk hosts d hosts' = record { stays = refl; tenants = c.drain_each.ensures.count; drains = c.drain_each.ensures.drains } in
    let its : IsDeskOf hosts d = subst (IsDeskOf hosts) (sym c.desk.view_is) (subst (λ x. IsDeskOf x c.args.desk) (sym c.self.view_is) c.requires.desk) in (
      record {
        few = c.self.invariant.0.few;
        different = c.self.invariant.0.different;
        tenants = c.drain_each.ensures.count ∙ c.self.invariant.0.tenants;
        hubs = hubs_stay hosts hosts' d its all c.self.invariant.0.hubs;
      },
      c.self.invariant.1,
    )

pub returns-clause-drains : goal.returns-clause-drains
returns-clause-drains g c =
    let hosts : TenantsState = record { names = c.self.inside.names; k = c.self.inside.k; n = c.self.inside.n; hearts = c.self.inside.hearts.items } in
    let hosts' : TenantsState = record { names = c.self.inside.names; k = c.self.inside.k; n = c.self.inside.n; hearts = c.drain_each.new.hearts.items } in
    let d : DeskState = record { names = c.desk.inside.names; number = c.desk.inside.number; quota = c.desk.inside.quota; updaters = c.desk.inside.updaters.items } in
    let all : DrainsDesk hosts d hosts' = record { stays = refl; tenants = c.drain_each.ensures.count; drains = c.drain_each.ensures.drains } in
    subst (λ x. DrainsDesk c.args.self.now x hosts') c.desk.view_is (subst (λ x. DrainsDesk x d hosts') c.self.view_is all)

pub returns-clause-taken_in : goal.returns-clause-taken_in
returns-clause-taken_in g c =
    let hosts : TenantsState = record { names = c.self.inside.names; k = c.self.inside.k; n = c.self.inside.n; hearts = c.self.inside.hearts.items } in
    let hosts' : TenantsState = record { names = c.self.inside.names; k = c.self.inside.k; n = c.self.inside.n; hearts = c.drain_each.new.hearts.items } in
    let d : DeskState = record { names = c.desk.inside.names; number = c.desk.inside.number; quota = c.desk.inside.quota; updaters = c.desk.inside.updaters.items } in
    let all : DrainsDesk hosts d hosts' = record { stays = refl; tenants = c.drain_each.ensures.count; drains = c.drain_each.ensures.drains } in
    let its : IsDeskOf hosts d = subst (IsDeskOf hosts) (sym c.desk.view_is) (subst (λ x. IsDeskOf x c.args.desk) (sym c.self.view_is) c.requires.desk) in
    subst (HasTakenInDesk hosts') c.desk.view_is (drained_desk hosts hosts' d its all c.desk.invariant.numbers)

pub returns-clause-others : goal.returns-clause-others
returns-clause-others g c = λ e other taken.
    let hosts : TenantsState = record { names = c.self.inside.names; k = c.self.inside.k; n = c.self.inside.n; hearts = c.self.inside.hearts.items } in
    let hosts' : TenantsState = record { names = c.self.inside.names; k = c.self.inside.k; n = c.self.inside.n; hearts = c.drain_each.new.hearts.items } in
    let d : DeskState = record { names = c.desk.inside.names; number = c.desk.inside.number; quota = c.desk.inside.quota; updaters = c.desk.inside.updaters.items } in
    let all : DrainsDesk hosts d hosts' = record { stays = refl; tenants = c.drain_each.ensures.count; drains = c.drain_each.ensures.drains } in
    let its : IsDeskOf hosts d = subst (IsDeskOf hosts) (sym c.desk.view_is) (subst (λ x. IsDeskOf x c.args.desk) (sym c.self.view_is) c.requires.desk) in
    other_desk hosts hosts' d its all c.desk.invariant.numbers e (subst (λ x. e.number ≢ x.number) (sym c.desk.view_is) other) (subst (λ x. HasTakenInDesk x e) (sym c.self.view_is) taken)

pub returns-clause-desks : goal.returns-clause-desks
returns-clause-desks g c = λ e of.
    let hosts : TenantsState = record { names = c.self.inside.names; k = c.self.inside.k; n = c.self.inside.n; hearts = c.self.inside.hearts.items } in
    let hosts' : TenantsState = record { names = c.self.inside.names; k = c.self.inside.k; n = c.self.inside.n; hearts = c.drain_each.new.hearts.items } in
    let d : DeskState = record { names = c.desk.inside.names; number = c.desk.inside.number; quota = c.desk.inside.quota; updaters = c.desk.inside.updaters.items } in
    let all : DrainsDesk hosts d hosts' = record { stays = refl; tenants = c.drain_each.ensures.count; drains = c.drain_each.ensures.drains } in
    let its : IsDeskOf hosts d = subst (IsDeskOf hosts) (sym c.desk.view_is) (subst (λ x. IsDeskOf x c.args.desk) (sym c.self.view_is) c.requires.desk) in
    desk_of_same hosts hosts' d its all e (subst (λ x. IsDeskOf x e) (sym c.self.view_is) of)
