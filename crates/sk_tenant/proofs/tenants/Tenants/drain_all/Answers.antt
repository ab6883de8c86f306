use Rattle.std.proofs.Common.{◌≡◌, length, replicate, refl, sym, ap, subst, ◌∙◌, All}
use Rattle.std.proofs.lemmas.List.{length-replicate}
use Rattle.sk_tenant.specs.Rooms.{empty_room, lists_in}
use Rattle.sk_tenant.specs.Hosts.{TenantsState, IsDeskOf, DrainsDesks}
use Rattle.sk_tenant.proofs.AllDesks.{lists_of, drains_desks, taken_in_each, hubs_after}
use Rattle.sk_tenant.proofs.Rooms.{empty_again}
use Rattle.sk_tenant.proofs.tenants.Tenants.drain_all.Goals as goal

pub deal_desks-requires : goal.deal_desks-requires
deal_desks-requires g c =
    let inside = c.self.inside in let rooms = inside.rooms.items in
    let count : length rooms ≡ length inside.names = ap length c.self.invariant.1 ∙ length-replicate (length inside.names) (empty_room inside.n) in
    let desks : length c.args.desks.items ≡ inside.n = c.requires.all ∙ ap (λ x. x.n) (sym c.self.view_is) in record {
      tenants = λ i d within. (c.requires.desks i d within).tenants ∙ ap (λ x. length x.hearts) (sym c.self.view_is) ∙ c.self.invariant.0.tenants ∙ sym count;
      empty = c.self.invariant.1 ∙ ap (λ t. replicate t (empty_room inside.n)) (sym count) ∙ ap (λ n. replicate (length rooms) (empty_room n)) (sym desks);
    }

pub drain_hubs-requires-after_bounds : goal.drain_hubs-requires-after_bounds
drain_hubs-requires-after_bounds g c κs inside =
    let desks = c.args.desks.items in let tenants = length c.self.inside.rooms.items in let lists = lists_in c.deal_desks.new.rooms.items in
    let hosts : TenantsState = record { names = c.self.inside.names; k = c.self.inside.k; n = c.self.inside.n; hearts = c.self.inside.hearts.items } in
    let of : All (IsDeskOf hosts) desks = subst (λ x. All (IsDeskOf x) desks) (sym c.self.view_is) c.requires.desks in
    let same : tenants ≡ length hosts.hearts = ap length c.self.invariant.1 ∙ length-replicate (length hosts.names) (empty_room hosts.n) ∙ sym c.self.invariant.0.tenants in
    let count : length desks ≡ hosts.n = c.requires.all ∙ ap (λ x. x.n) (sym c.self.view_is) in
    lists_of hosts desks tenants lists same c.deal_desks.ensures.lists c.deal_desks.ensures.desks of c.requires.numbers c.self.invariant.0.hubs count

pub invariant_of-self : goal.invariant_of-self
invariant_of-self g c =
    let desks = c.args.desks.items in let tenants = length c.self.inside.rooms.items in let lists = lists_in c.deal_desks.new.rooms.items in
    let hosts : TenantsState = record { names = c.self.inside.names; k = c.self.inside.k; n = c.self.inside.n; hearts = c.self.inside.hearts.items } in
    let hosts' : TenantsState = record { names = c.self.inside.names; k = c.self.inside.k; n = c.self.inside.n; hearts = c.drain_hubs.new.hearts.items } in
    let of : All (IsDeskOf hosts) desks = subst (λ x. All (IsDeskOf x) desks) (sym c.self.view_is) c.requires.desks in
    let same : tenants ≡ length hosts.hearts = ap length c.self.invariant.1 ∙ length-replicate (length hosts.names) (empty_room hosts.n) ∙ sym c.self.invariant.0.tenants in (
      record {
        few = c.self.invariant.0.few;
        different = c.self.invariant.0.different;
        tenants = c.drain_hubs.ensures.drains.count ∙ c.self.invariant.0.tenants;
        hubs = hubs_after hosts desks tenants lists same c.deal_desks.ensures.lists c.deal_desks.ensures.desks of c.requires.numbers hosts' refl c.drain_hubs.ensures.drains c.self.invariant.0.hubs;
      },
      c.drain_hubs.ensures.empty ∙ empty_again (length hosts.names) hosts.n c.self.inside.rooms.items c.deal_desks.new.rooms.items c.self.invariant.1 c.deal_desks.ensures.most,
    )

pub returns-clause-drains : goal.returns-clause-drains
returns-clause-drains g c =
    let desks = c.args.desks.items in let tenants = length c.self.inside.rooms.items in let lists = lists_in c.deal_desks.new.rooms.items in
    let hosts : TenantsState = record { names = c.self.inside.names; k = c.self.inside.k; n = c.self.inside.n; hearts = c.self.inside.hearts.items } in
    let hosts' : TenantsState = record { names = c.self.inside.names; k = c.self.inside.k; n = c.self.inside.n; hearts = c.drain_hubs.new.hearts.items } in
    let of : All (IsDeskOf hosts) desks = subst (λ x. All (IsDeskOf x) desks) (sym c.self.view_is) c.requires.desks in
    let same : tenants ≡ length hosts.hearts = ap length c.self.invariant.1 ∙ length-replicate (length hosts.names) (empty_room hosts.n) ∙ sym c.self.invariant.0.tenants in
    subst (λ x. DrainsDesks x desks hosts') c.self.view_is
    (drains_desks hosts desks tenants lists same c.deal_desks.ensures.lists c.deal_desks.ensures.desks of c.requires.numbers hosts' refl c.drain_hubs.ensures.drains)

pub returns-clause-taken_in : goal.returns-clause-taken_in
returns-clause-taken_in g c =
    let desks = c.args.desks.items in let tenants = length c.self.inside.rooms.items in let lists = lists_in c.deal_desks.new.rooms.items in
    let hosts : TenantsState = record { names = c.self.inside.names; k = c.self.inside.k; n = c.self.inside.n; hearts = c.self.inside.hearts.items } in
    let hosts' : TenantsState = record { names = c.self.inside.names; k = c.self.inside.k; n = c.self.inside.n; hearts = c.drain_hubs.new.hearts.items } in
    let of : All (IsDeskOf hosts) desks = subst (λ x. All (IsDeskOf x) desks) (sym c.self.view_is) c.requires.desks in
    let same : tenants ≡ length hosts.hearts = ap length c.self.invariant.1 ∙ length-replicate (length hosts.names) (empty_room hosts.n) ∙ sym c.self.invariant.0.tenants in
    taken_in_each hosts desks tenants lists same c.deal_desks.ensures.lists c.deal_desks.ensures.desks of c.requires.numbers hosts' refl c.drain_hubs.ensures.drains
