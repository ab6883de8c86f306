use Rattle.std.proofs.Common.{◌+◌, refl, arith}
use Rattle.sk_lines.proofs.Even.{even_then}
use Rattle.sk_lines.proofs.group.cut_even_lines.Goals as goal

pub line-init : goal.line-init
line-init c = record {
  size = c.cut_fours-count.array_long;
  few = omega (arith, c.cut_fours-count.ensures.few, c.min-room.ensures);
  most = omega (arith, c.cut_fours-count.ensures.few, c.min-room.ensures);
  within = c.cut_fours-count.ensures.within;
  lines = c.cut_fours-count.ensures.lines c.args.limit c.requires.short;
}

pub line-preserved : goal.line-preserved
line-preserved c =
    let within = c.is_plain_line.ensures.within c.if-is_plain_line.true in
    record {
      size = c.put_line-at.array_long;
      few = omega (arith, c.line-test.true, c.min-room.ensures);
      most = omega (arith, c.line-test.true, c.min-room.ensures);
      within = omega (arith, within, c.put_line-at.ensures.after);
      lines = even_then c.args.bytes.now c.args.limit c.args.from c.line.at c.args.len c.line.count (c.line.count + 1) c.put_line-at.result c.line.spans c.put_line-at.new.spans
          c.line.invariant.lines (omega (arith, c.line.invariant.size, c.line-test.true, c.min-room.ensures)) (omega (arith, within)) c.requires.short (c.is_plain_line.ensures.plain c.if-is_plain_line.true)
          c.put_line-at.ensures.span c.put_line-at.ensures.after refl;
    }
