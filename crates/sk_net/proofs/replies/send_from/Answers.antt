use Rattle.std.proofs.Common.{arith, ap, length, length-drop, length-take}
use Rattle.sk_net.proofs.Sending.{sent_more}
use Rattle.sk_net.proofs.replies.send_from.Goals as goal

pub send-preserved : goal.send-preserved
send-preserved g c =
    let within = simp (length-take, length-drop) at c.in_ok-place.ensures.bound in
    record {
      within = omega arith;
      none = λ all. absurd (omega (arith, length-drop c.args.place.now c.args.bytes.now, ap length all, (c.send.invariant.none all).1, c.send-test.true));
      sent = sent_more _ _ _ _ c.args.bytes.now c.send.place c.in_ok-place.field-0 c.send.invariant.sent c.in_ok-place.ensures.bytes;
    }
