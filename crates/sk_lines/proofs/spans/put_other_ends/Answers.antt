use Rattle.std.proofs.Common.{arith}
use Rattle.sk_lines.proofs.Ends.{none_known}
use Rattle.sk_lines.proofs.spans.put_other_ends.Goals as goal

pub returns-else-count-lt-GROUP-clause-holds : goal.returns-else-count-lt-GROUP-clause-holds
returns-else-count-lt-GROUP-clause-holds c = λ bytes from holds. let h = c.mark.invariant.holds bytes from holds in ((h.0, h.1), λ less. absurd (omega (arith, c.if-count-lt-GROUP.false)))

pub returns-after-mark-clause-holds : goal.returns-after-mark-clause-holds
returns-after-mark-clause-holds c = λ bytes from holds. let h = c.mark.invariant.holds bytes from holds in ((h.0, h.1), λ _. none_known bytes from _ _ _ c.mark-test.false h)

pub mark-preserved : goal.mark-preserved
mark-preserved c = record {
  few = omega (arith, c.put_end.ensures.one c.mark-test.true);
  holds = λ bytes from holds. c.put_end.ensures.holds bytes from (c.mark.invariant.holds bytes from holds);
}
