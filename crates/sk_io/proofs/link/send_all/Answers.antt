use Rattle.std.proofs.Common.{◌∙◌, arith, length-drop, length-take}
use Rattle.sk_io.proofs.Links.{sent_more}
use Rattle.sk_io.proofs.link.send_all.Goals as goal

pub send-preserved : goal.send-preserved
send-preserved g c =
    let within = simp (length-take, length-drop) at c.in_ok-at.ensures.bound in
    record {
      within = omega arith;
      sent = sent_more _ _ _ c.args.bytes.now c.send.at c.in_ok-at.field-0 c.send.invariant.sent c.in_ok-at.ensures.bytes;
      steady = c.in_ok-at.ensures.cause.steady ∙ c.send.invariant.steady;
    }
