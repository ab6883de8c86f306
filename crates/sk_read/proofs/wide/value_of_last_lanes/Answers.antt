use Rattle.std.proofs.Common.{ℕ, List, slice_index, ap, ◌∙◌, arith}
use Rattle.sk_read.specs.Wide.{pairs}
use Rattle.sk_read.proofs.Lanes as lanes
use Rattle.sk_read.proofs.Pairs as joins
use Rattle.sk_read.proofs.wide.value_of_last_lanes.Goals as goal

pub returns : goal.returns
returns c =
    let is = c.fours.ensures.value ∙ ap (pairs 100) c.twos.ensures.value in
    let last = ap (λ (l : List ℕ). slice_index l 3) is in
    omega (
      arith,
      c.from.ensures,
      last,
      joins.joined_by_fours c.args.lanes c.fits-lanes.0,
      lanes.joined_by_last c.args.lanes c.fits-lanes.0 c.requires.few,
      c.requires.digits 13,
      c.requires.digits 14,
      c.requires.digits 15,
    )
