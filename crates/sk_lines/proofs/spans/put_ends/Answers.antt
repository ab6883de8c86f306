use Rattle.sk_lines.proofs.Ends.{none_known}
use Rattle.sk_lines.proofs.spans.put_ends.Goals as goal

pub returns-then-marks-eq0-clause-holds : goal.returns-then-marks-eq0-clause-holds
returns-then-marks-eq0-clause-holds c = λ bytes from holds.
    let h = c.put_end-count-4.ensures.holds bytes from (c.put_end-count-3.ensures.holds bytes from (c.put_end-count-2.ensures.holds bytes from (c.put_end-count.ensures.holds bytes from holds))) in
    ((h.0, h.1), λ _. none_known bytes from _ _ _ c.if-marks-eq0.true h)

pub returns-clause-holds : goal.returns-clause-holds
returns-clause-holds c = λ bytes from holds.
    c.put_other_ends.ensures.holds bytes from (c.put_end-count-4.ensures.holds bytes from (c.put_end-count-3.ensures.holds bytes from (c.put_end-count-2.ensures.holds bytes from (c.put_end-count.ensures.holds bytes from holds))))
