use Rattle.std.proofs.Common.{◌≡◌, ℕ, ◌+◌, ◌-◌, ◌<◌, List, [], length, get_or, subst, sym, ap, ◌∙◌, arith}
use Rattle.std.proofs.lemmas.List.{get_or_default, get_or-map, length-map}
use Rattle.sk_hub.specs.Updaters.{UpdaterState}
use Rattle.sk_hub.specs.Hearts.{HeartState}
use Rattle.sk_feed.specs.Drained.{DrainsAll}
use Rattle.sk_tenant.specs.Rooms.{RoomState, empty_room, lists_in}
use Rattle.sk_tenant.specs.Drainings.{AreAllOf}
use Rattle.sk_tenant.proofs.FromEnd.{one_changed}
use Rattle.sk_tenant.proofs.Rooms.{emptied_each}
use Rattle.sk_tenant.proofs.draining.drain_rooms.Goals as goal

pub drain_into-requires : goal.drain_into-requires
drain_into-requires g c =
    let i = c.last.invariant in let n = c.last.left in let r = c.last.left - 1 in
    let old = c.args.hearts.now in let first = c.args.rooms.now in let rooms = c.last.rooms in
    let heart = c.index-hearts-left.result in let room = c.index-rooms-left.result in
    let below : r < n = omega (arith, c.last-test.true) in
    let within : r < length old = omega (arith, i.within, below) in
    let inside : r < length first = omega (arith, within, c.requires.count, length-map first (λ x. x.items)) in record {
      all = subst (λ h. AreAllOf h (get_or rooms r room).items) (sym (i.drained.before r heart below))
          (subst (AreAllOf (get_or old r heart)) (get_or-map (λ x. x.items) first r room [] inside ∙ ap (λ x. x.items) (sym (i.rooms.before r room below))) (c.requires.each r heart [] within));
    }

pub last-preserved : goal.last-preserved
last-preserved g c =
    let i = c.last.invariant in let n = c.last.left in let r = c.last.left - 1 in
    let old = c.args.hearts.now in let mid = c.last.hearts in let first = c.args.rooms.now in let rooms = c.last.rooms in
    let heart = c.index-hearts-left.result in let room = c.index-rooms-left.result in let heart' = c.drain_into.new.heart in
    let next : n ≡ r + 1 = omega (arith, c.last-test.true) in
    let below : r < n = omega (arith, c.last-test.true) in
    let within : r < length old = omega (arith, i.within, below) in
    let inside : r < length first = omega (arith, within, c.requires.count, length-map first (λ x. x.items)) in
    let here : (d : HeartState) → get_or mid r heart ≡ get_or old r d = λ d. i.drained.before r heart below ∙ get_or_default old r heart d within in
    let there : (d : RoomState) → get_or rooms r room ≡ get_or first r d = λ d. i.rooms.before r room below ∙ get_or_default first r room d inside in
    let list : (us : List UpdaterState) → (get_or rooms r room).items ≡ get_or (lists_in first) r us = λ us.
    ap (λ x. x.items) (there room) ∙ sym (get_or-map (λ x. x.items) first r room us inside) in
    let R : ℕ → HeartState → HeartState → Type 0 = λ t h h'. (us : List UpdaterState) → DrainsAll h (get_or (lists_in first) t us) h' in
    let this : (d : HeartState) → R r (get_or old r d) heart' = λ d us.
    subst (λ l. DrainsAll (get_or old r d) l heart') (list us) (subst (λ h. DrainsAll h (get_or rooms r room).items heart') (here d) c.drain_into.ensures.drains) in
    let Emptied : ℕ → RoomState → RoomState → Type 0 = λ t before after. after ≡ empty_room before.most in record {
      within = omega (arith, within);
      drained = one_changed R r n old mid heart' next within i.drained this;
      rooms = one_changed Emptied r n first rooms c.drain_into.new.self next inside i.rooms (λ d. c.drain_into.ensures.empty ∙ ap (λ x. empty_room x.most) (there d));
    }

pub returns-clause-drains : goal.returns-clause-drains
returns-clause-drains g c = record {
  count = c.last.invariant.drained.count;
  drains = λ t h l within. c.last.invariant.drained.after t h (omega (arith, c.last-test.false)) within l;
}

pub returns-clause-empty : goal.returns-clause-empty
returns-clause-empty g c =
    let i = c.last.invariant in
    emptied_each c.args.rooms.now c.last.rooms (record { count = i.rooms.count; before = λ t d less. absurd (omega (arith, less)); after = λ t d later within. i.rooms.after t d (omega (arith, c.last-test.false)) within })
