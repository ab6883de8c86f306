use Rattle.std.proofs.Common.{◌≡◌, ◌+◌, ◌-◌, ◌*◌, ◌<◌, ◌≤◌, ℕ, List, Vec, Global, length, take, All, vec_capacity, arith, sym, ap, subst, ◌∙◌}
use Rattle.std.specs.Vec.{with_items}
use Rattle.std.proofs.Math.Nat.{min-le_left}
use Rattle.std.proofs.lemmas.List.{length-map, length-take-le}
use Rattle.sk_quant.specs.Limits.{coin_end, level_count}
use Rattle.sk_quant.specs.Quantiles.{Quantiles, updated_all}
use Rattle.sk_quant.specs.Stored.{shown_by, CanCarry}
use Rattle.sk_quant.proofs.Errors.{compactions_are_few}
use Rattle.sk_quant.proofs.Sketches.{levels_of_whole, items_back, shown_updated_all, stored_updated_all}
use Rattle.sk_quant.proofs.sketch.Quant.fill.Goals as goal

pub put_all-requires-clause-levels : goal.put_all-requires-clause-levels
put_all-requires-clause-levels c =
    let inside = c.self.inside in
    let whole = c.self.invariant.whole in
    let coins : inside.coins.taken + length inside.levels.items < coin_end = omega (arith, length-map inside.levels.items (λ level. level.items), whole.filled.number, whole.filled.place, compactions_are_few inside.count inside.k level_count whole.count) in
    subst (λ (ls : List (Vec ℕ Global)). CanCarry inside.k ls inside.coins) (sym c.deref_mut.ensures.value)
    (record { short = levels_of_whole (shown_by inside.k inside.count inside.base inside.levels inside.coins) whole; rooms = c.self.invariant.level_rooms; coins_left = coins })

-- as many items as were taken
many : (c : goal.After-self-2-1) → length (take c.min-taken.result c.args.items.now) ≡ c.min-taken.result
many c =
    let room = 2 * c.self.inside.k - c.len.result in
    length-take-le c.min-taken.result c.args.items.now (omega (arith, c.min-taken.ensures, min-le_left (length c.args.items.now) room))

-- what the fields show after it
shown : (c : goal.After-self-2-1) → shown_by c.self.inside.k (c.self.inside.count + c.min-taken.result) c.put_all.new.base (with_items c.self.inside.levels c.put_all.new.levels) c.put_all.new.coins
    ≡ updated_all (shown_by c.self.inside.k c.self.inside.count c.self.inside.base c.self.inside.levels c.self.inside.coins) (take c.min-taken.result c.args.items.now)
shown c =
    let inside = c.self.inside in
    shown_updated_all inside.k inside.count c.min-taken.result (take c.min-taken.result c.args.items.now) inside.base c.put_all.new.base inside.levels c.deref_mut.result.now c.put_all.new.levels inside.coins c.put_all.new.coins
    (many c) c.deref_mut.ensures.value c.put_all.auto.levels c.put_all.ensures.key c.put_all.ensures.held

pub invariant_of-self : goal.invariant_of-self
invariant_of-self c =
    let inside = c.self.inside in
    let back = items_back inside.levels c.deref_mut.result.now c.put_all.new.levels c.deref_mut.ensures.value c.put_all.auto.levels in
    let room = 2 * inside.k - c.len.result in
    stored_updated_all inside.k inside.count c.min-taken.result (take c.min-taken.result c.args.items.now) inside.base c.put_all.new.base inside.levels (with_items inside.levels c.put_all.new.levels) inside.coins c.put_all.new.coins
    (many c) (shown c) c.self.invariant
    (omega (arith, ap (λ (s : Quantiles). s.count) c.self.view_is, c.requires.room, c.min-taken.ensures, min-le_left (length c.args.items.now) room)) c.put_all.ensures.room
    (subst (λ (ls : List (Vec ℕ Global)). All (λ level. inside.k ≤ vec_capacity level) ls) (sym back) c.put_all.ensures.rooms)

pub returns-clause-left : goal.returns-clause-left
returns-clause-left c =
    shown c ∙ ap (λ (s : Quantiles). updated_all s (take c.min-taken.result c.args.items.now)) c.self.view_is
