use Rattle.std.proofs.Common.{◌≡◌, ◌+◌, ◌*◌, ◌<◌, ◌≤◌, ℕ, List, length, flat_map, All, sym, ap, subst, ◌∙◌, arith}
use Rattle.std.specs.Vec.{with_items}
use Rattle.sk_cms.specs.Counts.{Counts, shown_by, IsWholeCounts}
use Rattle.sk_cms.specs.Limits.{most_counted}
use Rattle.sk_cms.specs.Places.{places_of}
use Rattle.sk_cms.specs.Tallies.{put_all}
use Rattle.sk_cms.proofs.Joined.{length-joined}
use Rattle.sk_cms.proofs.Placing.{all_places_below, shown_all, whole_all}
use Rattle.sk_cms.proofs.Updates.{came_back}
use Rattle.sk_cms.proofs.sketch.CountMin.update_at.Goals as goal

pub raise_each-requires-clause-within : goal.raise_each-requires-clause-within
raise_each-requires-clause-within c =
    let inside = c.self.inside in
    let found = c.args.found.now in
    let whole = c.self.invariant.whole in
    let low = c.deref_mut.result.now in
    let fits : found.rows * found.width ≤ length low = omega (
      arith,
      ap (λ (r : ℕ). r * found.width) c.if-found-self.false,
      ap (λ (w : ℕ). inside.rows * w) c.if-found-self-2.false,
      whole.size,
      length-joined inside.low.items inside.high.items c.self.invariant.sizes,
      ap length c.deref_mut.ensures.value,
    ) in
    let some : 1 ≤ found.width = omega (arith, c.if-found-self-2.false, whole.shape.some_width) in
    subst (λ (l : List ℕ). All (λ at. at < length low) l) (sym (c.as_slice.ensures.value ∙ c.requires.found))
    (all_places_below found.rows found.width (length low) c.args.items.now some fits)

-- the count has room for all
room : (c : goal.After-self-3-1) → c.self.inside.count + length c.args.items.now ≤ most_counted
room c = omega (arith, c.if-self-more.false, c.self.invariant.whole.count)

-- what the fields show after it
after_is : (c : goal.After-self-3-1)
    → shown_by c.self.inside.rows c.self.inside.width (c.self.inside.count + length c.args.items.now) (with_items c.self.inside.low c.raise_each.new.low).items (with_items c.self.inside.high c.raise_each.new.high).items
    ≡ put_all (shown_by c.self.inside.rows c.self.inside.width c.self.inside.count c.self.inside.low.items c.self.inside.high.items) c.args.items.now
after_is c =
    let inside = c.self.inside in
    let found = c.args.found.now in
    let items = c.args.items.now in
    let places : c.as_slice.result.now ≡ flat_map (places_of inside.rows inside.width) items =
    c.as_slice.ensures.value
    ∙ c.requires.found
    ∙ ap (λ (r : ℕ). flat_map (places_of r found.width) items) c.if-found-self.false
    ∙ ap (λ (w : ℕ). flat_map (places_of inside.rows w) items) c.if-found-self-2.false in
    shown_all inside.rows inside.width inside.count items inside.low inside.high c.deref_mut.result.now c.deref_mut-2.result.now c.raise_each.new.low c.raise_each.new.high c.as_slice.result.now
    c.deref_mut.ensures.value c.deref_mut-2.ensures.value c.raise_each.auto.low c.raise_each.auto.high places (room c) c.raise_each.ensures.cells

pub invariant_of-self : goal.invariant_of-self
invariant_of-self c =
    let inside = c.self.inside in
    let low = came_back inside.low c.deref_mut.result.now c.raise_each.new.low c.deref_mut.ensures.value c.raise_each.auto.low in
    let high = came_back inside.high c.deref_mut-2.result.now c.raise_each.new.high c.deref_mut-2.ensures.value c.raise_each.auto.high in
    record {
      masks = c.self.invariant.masks;
      whole = subst (λ (s : Counts). IsWholeCounts s) (sym (after_is c)) (whole_all (shown_by inside.rows inside.width inside.count inside.low.items inside.high.items) c.args.items.now c.self.invariant.whole (room c));
      sizes = omega (arith, ap length low, ap length high, c.raise_each.auto.low, c.raise_each.auto.high, ap length c.deref_mut.ensures.value, ap length c.deref_mut-2.ensures.value, c.self.invariant.sizes);
    }

pub returns-clause-put : goal.returns-clause-put
returns-clause-put c = λ is. after_is c ∙ ap (λ (s : Counts). put_all s c.args.items.now) c.self.view_is
