use Rattle.std.proofs.Common.{ℕ, List, slice_index, ap, ◌∙◌, arith}
use Rattle.sk_read.specs.Wide.{pairs}
use Rattle.sk_read.proofs.Pairs as joins
use Rattle.sk_read.proofs.wide.value_of_lanes.Goals as goal

pub overflow_mul-result-2 : goal.overflow_mul-result-2
overflow_mul-result-2 c = omega (arith, c.from.ensures, c.from-2.ensures, c.fours.ensures.small 0, c.fours.ensures.small 1)

pub overflow_add-result-3 : goal.overflow_add-result-3
overflow_add-result-3 c =
    omega (arith, c.from.ensures, c.from-2.ensures, c.from-3.ensures, c.from-4.ensures, c.fours.ensures.small 0, c.fours.ensures.small 1, c.fours.ensures.small 2, c.fours.ensures.small 3)

pub returns : goal.returns
returns c =
    let is = c.fours.ensures.value ∙ ap (pairs 100) c.twos.ensures.value in
    let lane = λ (k : ℕ). ap (λ (l : List ℕ). slice_index l k) is in
    omega (arith, c.from.ensures, c.from-2.ensures, c.from-3.ensures, c.from-4.ensures, lane 0, lane 1, lane 2, lane 3, joins.joined_by_fours c.args.lanes c.fits-lanes.0)
