use Rattle.std.proofs.Common.{◌+◌, subst, arith}
use Rattle.sk_lines.specs.Marks.{KnowsLfs}
use Rattle.sk_lines.proofs.Places as places
use Rattle.sk_lines.proofs.marks.search.Goals as goal

pub returns-then-marks-ne0-clause-known : goal.returns-then-marks-ne0-clause-known
returns-then-marks-ne0-clause-known c = λ at known.
    places.known_more c.args.bytes.now at c.search.scanned c.lfs_of_block-marks.result (c.search.invariant.known at known) c.lfs_of_block-marks.ensures

pub search-preserved : goal.search-preserved
search-preserved c = record {
  known = λ at known.
      subst (KnowsLfs c.args.bytes.now at (c.search.scanned + 64)) c.if-marks-ne0.false
      (places.known_more c.args.bytes.now at c.search.scanned c.lfs_of_block-marks.result (c.search.invariant.known at known) c.lfs_of_block-marks.ensures);
  bound = omega arith;
}
