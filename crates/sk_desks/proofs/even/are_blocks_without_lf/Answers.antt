use Rattle.std.proofs.Common.{◌-◌, ◌<◌, ◌≤◌, ⊎_elim, arith}
use Rattle.std.proofs.lemmas.Bool.{cases_lt}
use Rattle.sk_desks.proofs.EvenLaws.{none_marked}
use Rattle.sk_desks.proofs.even.are_blocks_without_lf.Goals as goal

pub block-init : goal.block-init
block-init c = record { past = omega arith; plain = λ i above below within. absurd (omega (arith, above, below)) }

pub block-preserved : goal.block-preserved
block-preserved c = record {
  past = omega (arith, c.block.invariant.past);
  plain = λ i above below within. ⊎_elim
      (λ (earlier : i < c.block.at). c.block.invariant.plain i above earlier within)
      (λ (here : c.block.at ≤ i). λ lf. none_marked c.lfs_of.result (i - c.min.result) c.if-lfs_of-ne0.false ((c.lfs_of.ensures i (omega (arith, here, c.min.ensures)) (omega (arith, below, within, c.min.ensures))).1 lf))
      (cases_lt i c.block.at);
}

pub returns : goal.returns
returns c = λ is i above below. c.block.invariant.plain i above (omega (arith, below, c.block-test.false)) below
