use Rattle.std.proofs.Common.{◌∙◌, arith, length-drop, length-take}
use Rattle.sk_io.proofs.Pieces.{written_more}
use Rattle.sk_base_calls.proofs.tests.streams.handed_on.Goals as goal

pub write-preserved : goal.write-preserved
write-preserved g c =
    let within = simp (length-take, length-drop) at c.in_ok-at.ensures.bound in
    let grew = written_more _ _ _ c.args.bytes.now c.write.at c.in_ok-at.field-0 c.write.invariant.1 c.in_ok-at.ensures.writer in
    (omega arith, grew, (λ _. c.in_ok-at.ensures.through), c.in_ok-at.ensures.cause.steady ∙ c.write.invariant.3)
