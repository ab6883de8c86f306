use Rattle.std.proofs.Common.{◌≡◌, ◌+◌, ◌*◌, ◌<◌, ◌≤◌, ℕ, List, ◌++◌, length, flat_map, All, refl, sym, ap, subst, ◌∙◌, arith}
use Rattle.std.specs.Vec.{with_items}
use Rattle.sk_cms.specs.Counts.{Counts, joined, shown_by, IsCountOf, IsWholeCounts}
use Rattle.sk_cms.specs.Limits.{most_counted}
use Rattle.sk_cms.specs.Places.{places_of, raised_once}
use Rattle.sk_cms.specs.Tallies.{put_all, put_all_is_of}
use Rattle.sk_cms.proofs.Joined.{length-joined}
use Rattle.sk_cms.proofs.Placing.{shown_all, whole_all}
use Rattle.sk_cms.proofs.Updates.{came_back}
use Rattle.sk_cms.proofs.sketch.CountMin.update_all.Goals as goal

pub raise_all-requires-clause-low : goal.raise_all-requires-clause-low
raise_all-requires-clause-low c =
    let inside = c.self.inside in
    omega (
      arith,
      ap length c.deref_mut.ensures.value,
      length-joined inside.low.items inside.high.items c.self.invariant.sizes,
      c.self.invariant.whole.size,
      ap (λ (w : ℕ). inside.rows * w) c.from.ensures,
    )

pub raise_all-requires-clause-high : goal.raise_all-requires-clause-high
raise_all-requires-clause-high c =
    let inside = c.self.inside in
    omega (
      arith,
      ap length c.deref_mut-2.ensures.value,
      c.self.invariant.sizes,
      length-joined inside.low.items inside.high.items c.self.invariant.sizes,
      c.self.invariant.whole.size,
      ap (λ (w : ℕ). inside.rows * w) c.from.ensures,
    )

pub raise_all-requires-clause-small : goal.raise_all-requires-clause-small
raise_all-requires-clause-small c =
    let inside = c.self.inside in
    let is : joined c.deref_mut.result.now c.deref_mut-2.result.now ≡ joined inside.low.items inside.high.items =
    ap (λ (l : List ℕ). joined l c.deref_mut-2.result.now) c.deref_mut.ensures.value ∙ ap (λ (h : List ℕ). joined inside.low.items h) c.deref_mut-2.ensures.value in
    let small : All (λ cell. cell ≤ inside.count) (joined c.deref_mut.result.now c.deref_mut-2.result.now) = subst (All (λ cell. cell ≤ inside.count)) (sym is) c.self.invariant.whole.small in
    λ k d within. omega (arith, small k d within, c.self.invariant.whole.count)

-- the count has room for all
room : (c : goal.After-self-3-1) → c.self.inside.count + length c.args.items.now ≤ most_counted
room c = omega (arith, c.requires, ap (λ (s : Counts). s.count) c.self.view_is)

-- what the fields show after it
after_is : (c : goal.After-self-3-1)
    → shown_by c.self.inside.rows c.self.inside.width (c.self.inside.count + length c.args.items.now) (with_items c.self.inside.low c.raise_all.new.low).items (with_items c.self.inside.high c.raise_all.new.high).items
    ≡ put_all (shown_by c.self.inside.rows c.self.inside.width c.self.inside.count c.self.inside.low.items c.self.inside.high.items) c.args.items.now
after_is c =
    let inside = c.self.inside in
    let items = c.args.items.now in
    shown_all inside.rows inside.width inside.count items inside.low inside.high c.deref_mut.result.now c.deref_mut-2.result.now c.raise_all.new.low c.raise_all.new.high (flat_map (places_of inside.rows c.from.result) items)
    c.deref_mut.ensures.value c.deref_mut-2.ensures.value c.raise_all.auto.low c.raise_all.auto.high (ap (λ (w : ℕ). flat_map (places_of inside.rows w) items) c.from.ensures) (room c) c.raise_all.ensures.cells

pub invariant_of-self : goal.invariant_of-self
invariant_of-self c =
    let inside = c.self.inside in
    let low = came_back inside.low c.deref_mut.result.now c.raise_all.new.low c.deref_mut.ensures.value c.raise_all.auto.low in
    let high = came_back inside.high c.deref_mut-2.result.now c.raise_all.new.high c.deref_mut-2.ensures.value c.raise_all.auto.high in
    record {
      masks = c.self.invariant.masks;
      whole = subst (λ (s : Counts). IsWholeCounts s) (sym (after_is c)) (whole_all (shown_by inside.rows inside.width inside.count inside.low.items inside.high.items) c.args.items.now c.self.invariant.whole (room c));
      sizes = omega (arith, ap length low, ap length high, c.raise_all.auto.low, c.raise_all.auto.high, ap length c.deref_mut.ensures.value, ap length c.deref_mut-2.ensures.value, c.self.invariant.sizes);
    }

-- and so of the sketch
left_is : (c : goal.After-self-3-1)
    → shown_by c.self.inside.rows c.self.inside.width (c.self.inside.count + length c.args.items.now) (with_items c.self.inside.low c.raise_all.new.low).items (with_items c.self.inside.high c.raise_all.new.high).items
    ≡ put_all c.args.self.now c.args.items.now
left_is c = after_is c ∙ ap (λ (s : Counts). put_all s c.args.items.now) c.self.view_is

pub returns-clause-left : goal.returns-clause-left
returns-clause-left c = left_is c

pub returns-clause-list : goal.returns-clause-list
returns-clause-list c = λ before is.
    subst (λ (s : Counts). IsCountOf s (before ++ c.args.items.now)) (sym (left_is c)) (put_all_is_of c.args.self.now before c.args.items.now (omega (arith, is.count, c.requires)) is)
