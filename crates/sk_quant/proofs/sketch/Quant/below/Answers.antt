use Rattle.std.proofs.Common.{◌≡◌, ◌+◌, ◌*◌, ◌≤◌, ℕ, List, Vec, Global, length, All, arith, sym, ap, subst, ◌∙◌}
use Rattle.std.specs.Int.{abs_diff}
use Rattle.std.specs.List.Sorted.{IsNonDecreasing}
use Rattle.sk_quant.specs.Held.{layers_of}
use Rattle.sk_quant.specs.Quantiles.{Quantiles, IsWholeQuantiles}
use Rattle.sk_quant.specs.Ranks.{rank_of, weighted_rank, weight_of, rank_error}
use Rattle.sk_quant.specs.Stored.{lists_of, shown_by}
use Rattle.sk_quant.proofs.Bounds.{weighted_rank-cons, weighted_rank-le, weight_of-cons}
use Rattle.sk_quant.proofs.Sketches.{levels_rise, weight_of_whole, ranked_is, rank_is_near}
use Rattle.sk_quant.proofs.sketch.Quant.below.Goals as goal

pub rank_in_levels-requires-clause-rise : goal.rank_in_levels-requires-clause-rise
rank_in_levels-requires-clause-rise c =
    let inside = c.self.inside in
    subst (λ (ls : List (Vec ℕ Global)). All (λ (l : List ℕ). IsNonDecreasing l) (lists_of ls)) (sym c.deref-2.ensures.value)
    (levels_rise (shown_by inside.k inside.count inside.base inside.levels inside.coins) c.self.invariant.whole)

pub rank_in_levels-requires-clause-light : goal.rank_in_levels-requires-clause-light
rank_in_levels-requires-clause-light c =
    let inside = c.self.inside in
    let all = weight_of_whole (shown_by inside.k inside.count inside.base inside.levels inside.coins) c.self.invariant.whole in
    let parts = weight_of-cons inside.base.items (lists_of inside.levels.items) in
    omega (arith, all, parts, c.self.invariant.whole.count, ap (λ (ls : List (Vec ℕ Global)). weight_of (lists_of ls)) c.deref-2.ensures.value)

held_rank : (c : goal.After-rank_in_levels) → c.rank.result + 2 * c.rank_in_levels.result ≡ weighted_rank c.args.x (layers_of c.args.self.now.held)
held_rank c =
    let inside = c.self.inside in
    let parts = weighted_rank-cons c.args.x inside.base.items (lists_of inside.levels.items) in
    omega (
      arith,
      parts,
      c.rank.ensures,
      c.rank_in_levels.ensures,
      ap (λ (l : List ℕ). rank_of c.args.x l) c.deref.ensures.value,
      ap (λ (ls : List (Vec ℕ Global)). weighted_rank c.args.x (lists_of ls)) c.deref-2.ensures.value,
      ap (λ (s : Quantiles). weighted_rank c.args.x (layers_of s.held)) c.self.view_is,
    )

whole : (c : goal.After-rank_in_levels) → IsWholeQuantiles c.args.self.now
whole c = subst (λ (s : Quantiles). IsWholeQuantiles s) c.self.view_is c.self.invariant.whole

fits : (c : goal.After-rank_in_levels) → c.rank.result + 2 * c.rank_in_levels.result ≤ c.args.self.now.count
fits c =
    omega (arith, held_rank c, weighted_rank-le c.args.x (layers_of c.args.self.now.held), weight_of_whole c.args.self.now (whole c))

pub overflow_mul-result : goal.overflow_mul-result
overflow_mul-result c = omega (arith, fits c, (whole c).count)

pub overflow_add-result : goal.overflow_add-result
overflow_add-result c = omega (arith, fits c, (whole c).count)

pub returns-clause-held : goal.returns-clause-held
returns-clause-held c = held_rank c

pub returns-clause-value : goal.returns-clause-value
returns-clause-value c = λ items is. held_rank c ∙ ranked_is c.args.self.now c.args.x items is

pub returns-clause-near : goal.returns-clause-near
returns-clause-near c =
    λ items is. subst (λ (n : ℕ). abs_diff n (rank_of c.args.x items) ≤ rank_error (length items) c.args.self.now.k) (sym (held_rank c))
    (rank_is_near c.args.self.now c.args.x items (whole c) is)
