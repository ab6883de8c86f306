use Rattle.std.proofs.Common.{◌≡◌, ◌<◌, ◌++◌, ◌∷◌, [], length, replicate, refl, sym, ap, ◌∙◌, arith, append_assoc, length-append}
use Rattle.std.proofs.lemmas.List.{length-map}
use Rattle.std.proofs.lemmas.List.Elements.{All-nil, All-push}
use Rattle.sk_tenant.specs.Rooms.{lists_in}
use Rattle.sk_tenant.specs.Drainings.{HasAllTenants}
use Rattle.sk_tenant.proofs.AllDesks.{next_member, none_dealt, one_dealt}
use Rattle.sk_tenant.proofs.Rooms.{lists_at_first, sizes_at_first, have_place}
use Rattle.sk_tenant.proofs.draining.deal_desks.Goals as goal

pub desk-init : goal.desk-init
desk-init c =
    let rooms = c.args.rooms.now.items in record {
      all = c.into_iter-desk-iterator.ensures.into_iter_gives.0;
      by = none_dealt (length rooms) (lists_in rooms) (lists_at_first (length rooms) (length c.args.desks.items) rooms c.requires.empty);
      sizes = refl;
      each = All-nil (HasAllTenants (length rooms));
    }

pub deal-requires : goal.deal-requires
deal-requires c =
    let i = c.desk.invariant in let d = c.in-Some.desk in let rooms = c.desk.rooms.items in let old = c.args.rooms.now.items in
    let all = ap (λ l. c.desk.yielded ++ l) (sym c.in-Some.ensures.steps.0) ∙ i.all in
    let count : length rooms ≡ length old = sym (length-map rooms (λ room. room.items)) ∙ i.by.count in
    let fewer : length c.desk.yielded < length c.args.desks.items = omega (arith, ap length all, length-append c.desk.yielded (d ∷ c.next.new.self.rest.items)) in record {
      count = ap length c.into_updaters.ensures.updaters ∙ next_member (λ x. length x.updaters ≡ length old) c.args.desks.items c.desk.yielded c.next.new.self.rest.items d all c.requires.tenants ∙ sym count;
      room = have_place rooms (length c.desk.yielded) (length c.args.desks.items) i.by.full
          (i.sizes ∙ sizes_at_first (length old) (length c.args.desks.items) old c.requires.empty ∙ ap (λ n. replicate n (length c.args.desks.items)) (sym count)) fewer;
    }

pub desk-preserved : goal.desk-preserved
desk-preserved c =
    let i = c.desk.invariant in let d = c.in-Some.desk in let tenants = length c.args.rooms.now.items in
    let all = ap (λ l. c.desk.yielded ++ l) (sym c.in-Some.ensures.steps.0) ∙ i.all in
    let count : length d.updaters ≡ tenants = next_member (λ x. length x.updaters ≡ tenants) c.args.desks.items c.desk.yielded c.next.new.self.rest.items d all c.requires.tenants in record {
      all = append_assoc c.desk.yielded (d ∷ []) c.next.new.self.rest.items ∙ all;
      by = one_dealt tenants c.desk.yielded d c.into_updaters.result.items (lists_in c.desk.rooms.items) (lists_in c.deal.new.rooms.items) c.into_updaters.ensures.updaters i.by c.deal.ensures.dealt;
      sizes = c.deal.ensures.most ∙ i.sizes;
      each = All-push (HasAllTenants tenants) c.desk.yielded d i.each (record { count = count; numbers = c.into_updaters.ensures.numbers });
    }
