use Rattle.std.proofs.Common.{◌+◌, min, arith}
use Rattle.sk_lines.proofs.Even.{none_between, more_between, fewer_between}
use Rattle.sk_lines.proofs.group.are_plain_between.Goals as goal

pub block-init : goal.block-init
block-init c = record {
  past = omega arith;
  plain = fewer_between c.args.bytes.now c.args.at c.args.len 16 16 (min 16 c.args.len) (omega arith) (none_between c.args.bytes.now c.args.at c.args.len 16);
}

pub block-preserved : goal.block-preserved
block-preserved c = record {
  past = omega (arith, c.block.invariant.past);
  plain = fewer_between c.args.bytes.now c.args.at c.args.len 16 (c.min-place.result + 16) (min (c.block.done + 16) c.args.len) (omega (arith, c.min-place.ensures))
      (more_between c.args.bytes.now c.args.at c.args.len 16 (min c.block.done c.args.len) c.min-place.result (c.min-place.result + 16) (omega (arith, c.min-place.ensures, c.block-test.true))
      c.block.invariant.plain (c.are_plain_blocks.ensures c.if-not-are_plain_blocks.false));
}

pub returns : goal.returns
returns c = λ is. fewer_between c.args.bytes.now c.args.at c.args.len 16 (min c.block.done c.args.len) c.args.len (omega (arith, c.block-test.false)) c.block.invariant.plain
