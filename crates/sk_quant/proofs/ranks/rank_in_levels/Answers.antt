use Rattle.std.proofs.Common.{◌-◌, ℕ, List, [], length, arith, sym, subst, ◌∙◌}
use Rattle.std.proofs.lemmas.List.{length-map}
use Rattle.std.specs.List.Sorted.{IsNonDecreasing}
use Rattle.sk_quant.specs.Stored.{lists_of}
use Rattle.sk_quant.proofs.Levels.{level_read, one_level_more, no_level, rank_of_some_levels}
use Rattle.sk_quant.proofs.ranks.rank_in_levels.Goals as goal

pub levels-init : goal.levels-init
levels-init c =
    no_level c.args.x (length c.args.levels.now) (lists_of c.args.levels.now) (omega (arith, length-map c.args.levels.now (λ level. level.items)))

pub overflow_mul-below : goal.overflow_mul-below
overflow_mul-below c = omega (arith, c.levels.invariant, rank_of_some_levels c.args.x c.levels.l (lists_of c.args.levels.now), c.requires.light)

pub rank_among_rising-requires : goal.rank_among_rising-requires
rank_among_rising-requires c =
    let levels = c.args.levels.now in
    let read = level_read levels (c.levels.l - 1) c.index-levels-l.result (omega arith) c.index-levels-l.is ∙ sym c.deref.ensures.value in
    subst (λ (items : List ℕ). IsNonDecreasing items) read (c.requires.rise (c.levels.l - 1) [] (omega (arith, length-map levels (λ level. level.items))))

pub overflow_add-below : goal.overflow_add-below
overflow_add-below c =
    let levels = c.args.levels.now in
    let read = level_read levels (c.levels.l - 1) c.index-levels-l.result (omega arith) c.index-levels-l.is ∙ sym c.deref.ensures.value in
    let more = one_level_more c.args.x c.levels.l c.deref.result.now (lists_of levels) (omega arith) (omega (arith, length-map levels (λ level. level.items))) read in
    omega (arith, c.levels.invariant, more, c.rank_among_rising.ensures, rank_of_some_levels c.args.x (c.levels.l - 1) (lists_of levels), c.requires.light)

pub levels-preserved : goal.levels-preserved
levels-preserved c =
    let levels = c.args.levels.now in
    let read = level_read levels (c.levels.l - 1) c.index-levels-l.result (omega arith) c.index-levels-l.is ∙ sym c.deref.ensures.value in
    let more = one_level_more c.args.x c.levels.l c.deref.result.now (lists_of levels) (omega arith) (omega (arith, length-map levels (λ level. level.items))) read in
    omega (arith, c.levels.invariant, more, c.rank_among_rising.ensures)
