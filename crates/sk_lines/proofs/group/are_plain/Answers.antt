use Rattle.std.proofs.Common.{◌<◌, ◌≤◌, ⊎_elim, arith}
use Rattle.std.proofs.lemmas.Bool.{cases_lt}
use Rattle.sk_lines.proofs.group.are_plain.Goals as goal

pub block-init : goal.block-init
block-init c = record { past = omega arith; plain = λ i above below within. absurd (omega (arith, above, below)) }

pub block-preserved : goal.block-preserved
block-preserved c = record {
  past = omega (arith, c.block.invariant.past);
  plain = λ i above below within. ⊎_elim
      (λ (earlier : i < c.block.at). c.block.invariant.plain i above earlier within)
      (λ (here : c.block.at ≤ i). c.is_plain_block.ensures c.if-not-is_plain_block.false i (omega (arith, here, c.min-place.ensures)) (omega (arith, below, within, c.min-place.ensures)))
      (cases_lt i c.block.at);
}

pub returns : goal.returns
returns c = λ is i above below. c.block.invariant.plain i above (omega (arith, below, c.block-test.false)) below
