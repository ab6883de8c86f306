use Rattle.std.proofs.Common.{arith}
use Rattle.sk_lines.proofs.Passing.{pass_lf}
use Rattle.sk_lines.proofs.runs.skip_bytes.Goals as goal

pub byte-preserved-then-byte-eq-LF : goal.byte-preserved-then-byte-eq-LF
byte-preserved-then-byte-eq-LF c = record {
  few = omega arith;
  passed = pass_lf c.args.bytes.now c.args.from c.byte.scanned c.byte.count c.byte.at c.byte.invariant.passed (omega arith) c.if-byte-eq-LF.true;
  text = omega arith;
  within = omega arith;
}
