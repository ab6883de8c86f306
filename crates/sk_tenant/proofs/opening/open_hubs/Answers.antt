use Rattle.std.proofs.Common.{◌≡◌, length, replicate, sym, ap, subst, ◌∙◌, arith}
use Rattle.std.proofs.lemmas.List.{length-map}
use Rattle.sk_tenant.specs.Rooms.{empty_room, lists_in}
use Rattle.sk_tenant.specs.Openings.{AreNewHubs}
use Rattle.sk_tenant.proofs.Dealt.{no_hubs, hubs_then}
use Rattle.sk_tenant.proofs.Rooms.{lists_at_first, sizes_at_first, have_place}
use Rattle.sk_tenant.proofs.opening.open_hubs.Goals as goal

pub tenant-init : goal.tenant-init
tenant-init c =
    let shape = c.args.shape.now in let rooms = c.in_ok-rooms.rooms.items in
    let are : rooms ≡ replicate shape.n (empty_room c.args.count) = c.in_ok-rooms.ensures ∙ ap (λ n. replicate n (empty_room c.args.count)) c.n.ensures.value in record {
      hubs = subst (λ hearts. AreNewHubs shape 0 hearts (lists_in rooms)) (sym c.in_ok-hearts.ensures.items) (no_hubs shape (lists_in rooms) (lists_at_first shape.n c.args.count rooms are));
      sizes = sizes_at_first shape.n c.args.count rooms are;
    }

pub open_hub-requires : goal.open_hub-requires
open_hub-requires c =
    let i = c.tenant.invariant in let rooms = c.tenant.rooms.items in
    let count : length rooms ≡ c.args.shape.now.n = sym (length-map rooms (λ room. room.items)) ∙ i.hubs.desks in record {
      count = count;
      room = have_place rooms c.tenant.counter c.args.count i.hubs.full (i.sizes ∙ ap (λ n. replicate n c.args.count) (sym count)) (omega (arith, c.tenant-test.true));
    }

pub tenant-preserved : goal.tenant-preserved
tenant-preserved c = record {
  hubs = hubs_then c.args.shape.now c.tenant.counter c.tenant.hearts.items c.push.new.self.items c.in_ok-open_hub.field-0 (lists_in c.tenant.rooms.items) (lists_in c.open_hub.new.rooms.items)
      c.in_ok-push.ensures.items c.tenant.invariant.hubs c.in_ok-open_hub.ensures.deals;
  sizes = c.in_ok-open_hub.ensures.most ∙ c.tenant.invariant.sizes;
}
