use Rattle.std.proofs.Common.{◌+◌, ◌≤◌, length, arith}
use Rattle.sk_read.specs.Delimiters.{IsDelimiter}
use Rattle.sk_read.proofs.DelimiterLaws.{nowhere_yet, nowhere_more, first_of_mask, first_behind, first_delimiter}
use Rattle.sk_read.proofs.records.seek.seek_delimiter.Goals as goal

pub wide-init : goal.wide-init
wide-init c = nowhere_yet IsDelimiter c.args.text.now c.args.from c.requires

pub wide-preserved : goal.wide-preserved
wide-preserved c =
    let fits : c.wide.at + 16 ≤ length c.args.text.now = omega (arith, c.wide-test.true) in
    nowhere_more 16 IsDelimiter c.args.text.now c.args.from c.wide.at c.wide_delimiters-marks.result fits c.wide.invariant c.wide_delimiters-marks.ensures c.if-marks-ne0.false

pub returns-then-marks-ne0 : goal.returns-then-marks-ne0
returns-then-marks-ne0 c =
    let fits : c.wide.at + 16 ≤ length c.args.text.now = omega (arith, c.wide-test.true) in
    let mark = c.lowest_mark.ensures in
    first_of_mask 16 IsDelimiter c.args.text.now c.args.from c.wide.at c.wide_delimiters-marks.result c.lowest_mark.result fits c.wide.invariant c.wide_delimiters-marks.ensures mark.set mark.below

pub returns : goal.returns
returns c = first_behind IsDelimiter c.args.text.now c.args.from c.wide.at c.last_delimiter.result c.wide.invariant (first_delimiter c.args.text.now c.wide.at c.last_delimiter.result c.last_delimiter.ensures)
