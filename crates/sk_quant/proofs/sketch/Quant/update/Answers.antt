use Rattle.std.proofs.Common.{◌+◌, ◌<◌, ◌≤◌, ℕ, List, Vec, Global, length, All, vec_capacity, arith, sym, ap, subst, ◌∙◌}
use Rattle.std.specs.Vec.{with_items}
use Rattle.std.proofs.lemmas.List.{length-map}
use Rattle.sk_quant.specs.Limits.{coin_end, level_count}
use Rattle.sk_quant.specs.Quantiles.{Quantiles, updated}
use Rattle.sk_quant.specs.Stored.{shown_by, CanCarry}
use Rattle.sk_quant.proofs.Errors.{compactions_are_few}
use Rattle.sk_quant.proofs.Sketches.{levels_of_whole, items_back, shown_updated, stored_updated, list_of_updated}
use Rattle.sk_quant.proofs.sketch.Quant.update.Goals as goal

pub put-requires-clause-levels : goal.put-requires-clause-levels
put-requires-clause-levels c =
    let inside = c.self.inside in
    let whole = c.self.invariant.whole in
    let coins : inside.coins.taken + length inside.levels.items < coin_end = omega (arith, length-map inside.levels.items (λ level. level.items), whole.filled.number, whole.filled.place, compactions_are_few inside.count inside.k level_count whole.count) in
    subst (λ (ls : List (Vec ℕ Global)). CanCarry inside.k ls inside.coins) (sym c.deref_mut.ensures.value)
    (record { short = levels_of_whole (shown_by inside.k inside.count inside.base inside.levels inside.coins) whole; rooms = c.self.invariant.level_rooms; coins_left = coins })

pub invariant_of-self : goal.invariant_of-self
invariant_of-self c =
    let inside = c.self.inside in
    let back = items_back inside.levels c.deref_mut.result.now c.put.new.levels c.deref_mut.ensures.value c.put.auto.levels in
    stored_updated inside.k inside.count c.args.x inside.base c.put.new.base inside.levels (with_items inside.levels c.put.new.levels) inside.coins c.put.new.coins
    (shown_updated inside.k inside.count c.args.x inside.base c.put.new.base inside.levels c.deref_mut.result.now c.put.new.levels inside.coins c.put.new.coins c.deref_mut.ensures.value c.put.auto.levels c.put.ensures.key c.put.ensures.held)
    c.self.invariant (omega (arith, ap (λ (s : Quantiles). s.count) c.self.view_is, c.requires)) c.put.ensures.room
    (subst (λ (ls : List (Vec ℕ Global)). All (λ level. inside.k ≤ vec_capacity level) ls) (sym back) c.put.ensures.rooms)

pub returns-clause-list : goal.returns-clause-list
returns-clause-list c =
    let inside = c.self.inside in
    list_of_updated c.args.self.now (shown_by inside.k (inside.count + 1) c.put.new.base (with_items inside.levels c.put.new.levels) c.put.new.coins) c.args.x
    (shown_updated inside.k inside.count c.args.x inside.base c.put.new.base inside.levels c.deref_mut.result.now c.put.new.levels inside.coins c.put.new.coins c.deref_mut.ensures.value c.put.auto.levels c.put.ensures.key c.put.ensures.held
    ∙ ap (λ (s : Quantiles). updated s c.args.x) c.self.view_is)
