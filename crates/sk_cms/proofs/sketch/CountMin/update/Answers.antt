use Rattle.std.proofs.Common.{◌≡◌, ◌<◌, ◌+◌, ◌*◌, ℕ, [], ◌∷◌, ◌++◌, length, sym, ap, subst, ◌∙◌, arith}
use Rattle.std.specs.Vec.{with_items}
use Rattle.sk_cms.specs.Counting.{counted_is_of, whole_counted}
use Rattle.sk_cms.specs.Counts.{Counts, counted, shown_by, IsCountOf, IsWholeCounts}
use Rattle.sk_cms.specs.Limits.{most_counted}
use Rattle.sk_cms.proofs.Joined.{length-joined}
use Rattle.sk_cms.proofs.Updates.{came_back, shown_counted}
use Rattle.sk_cms.proofs.sketch.CountMin.update.Goals as goal

pub raise-requires-clause-low : goal.raise-requires-clause-low
raise-requires-clause-low c =
    let inside = c.self.inside in
    omega (
      arith,
      ap length c.deref_mut.ensures.value,
      length-joined inside.low.items inside.high.items c.self.invariant.sizes,
      c.self.invariant.whole.size,
      ap (λ (w : ℕ). inside.rows * w) c.from.ensures,
    )

pub raise-requires-clause-high : goal.raise-requires-clause-high
raise-requires-clause-high c =
    let inside = c.self.inside in
    omega (
      arith,
      ap length c.deref_mut-2.ensures.value,
      c.self.invariant.sizes,
      length-joined inside.low.items inside.high.items c.self.invariant.sizes,
      c.self.invariant.whole.size,
      ap (λ (w : ℕ). inside.rows * w) c.from.ensures,
    )

-- what the fields show after it
after_is : (c : goal.After-self-3-1)
    → shown_by c.self.inside.rows c.self.inside.width (c.self.inside.count + 1) (with_items c.self.inside.low c.raise.new.low).items (with_items c.self.inside.high c.raise.new.high).items
    ≡ counted (shown_by c.self.inside.rows c.self.inside.width c.self.inside.count c.self.inside.low.items c.self.inside.high.items) c.args.x
after_is c =
    let inside = c.self.inside in
    shown_counted inside.rows inside.width c.from.result inside.count c.args.x inside.low inside.high c.deref_mut.result.now c.deref_mut-2.result.now c.raise.new.low c.raise.new.high
    c.deref_mut.ensures.value c.deref_mut-2.ensures.value c.from.ensures c.raise.auto.low c.raise.auto.high c.raise.ensures.cells

pub invariant_of-self : goal.invariant_of-self
invariant_of-self c =
    let inside = c.self.inside in
    let few : inside.count < most_counted = omega (arith, c.requires, ap (λ (s : Counts). s.count) c.self.view_is) in
    let low = came_back inside.low c.deref_mut.result.now c.raise.new.low c.deref_mut.ensures.value c.raise.auto.low in
    let high = came_back inside.high c.deref_mut-2.result.now c.raise.new.high c.deref_mut-2.ensures.value c.raise.auto.high in
    record {
      masks = c.self.invariant.masks;
      whole = subst (λ (s : Counts). IsWholeCounts s) (sym (after_is c)) (whole_counted (shown_by inside.rows inside.width inside.count inside.low.items inside.high.items) c.args.x c.self.invariant.whole few);
      sizes = omega (arith, ap length low, ap length high, c.raise.auto.low, c.raise.auto.high, ap length c.deref_mut.ensures.value, ap length c.deref_mut-2.ensures.value, c.self.invariant.sizes);
    }

pub returns-clause-left : goal.returns-clause-left
returns-clause-left c = after_is c ∙ ap (λ (s : Counts). counted s c.args.x) c.self.view_is

pub returns-clause-list : goal.returns-clause-list
returns-clause-list c =
    λ items is. subst (λ (s : Counts). IsCountOf s (items ++ c.args.x ∷ [])) (sym (after_is c ∙ ap (λ (s : Counts). counted s c.args.x) c.self.view_is)) (counted_is_of c.args.self.now c.args.x items is)
