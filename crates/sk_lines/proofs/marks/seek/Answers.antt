use Rattle.std.proofs.Common.{subst}
use Rattle.sk_lines.specs.Marks.{KnowsLfs}
use Rattle.sk_lines.proofs.marks.seek.Goals as goal

pub returns-clause-known : goal.returns-clause-known
returns-clause-known c = λ at known.
    c.search.ensures.known at (subst (KnowsLfs c.args.bytes.now at c.args.scanned) c.if-marks-ne0.false known)
