use Rattle.std.proofs.Common.{◌+◌, ◌≤◌, length, arith}
use Rattle.sk_read.specs.Delimiters.{IsQuote}
use Rattle.sk_read.proofs.DelimiterLaws.{nowhere_yet, nowhere_more, first_of_mask, first_behind}
use Rattle.sk_read.proofs.records.seek.seek_quote.Goals as goal

pub wide-init : goal.wide-init
wide-init c = nowhere_yet IsQuote c.args.text.now c.args.from c.requires

pub wide-preserved : goal.wide-preserved
wide-preserved c =
    let fits : c.wide.at + 16 ≤ length c.args.text.now = omega (arith, c.wide-test.true) in
    nowhere_more 16 IsQuote c.args.text.now c.args.from c.wide.at c.wide_marks-marks.result fits c.wide.invariant c.wide_marks-marks.ensures c.if-marks-ne0.false

pub returns-then-marks-ne0 : goal.returns-then-marks-ne0
returns-then-marks-ne0 c =
    let fits : c.wide.at + 16 ≤ length c.args.text.now = omega (arith, c.wide-test.true) in
    let mark = c.lowest_mark.ensures in
    first_of_mask 16 IsQuote c.args.text.now c.args.from c.wide.at c.wide_marks-marks.result c.lowest_mark.result fits c.wide.invariant c.wide_marks-marks.ensures mark.set mark.below

pub returns : goal.returns
returns c = first_behind IsQuote c.args.text.now c.args.from c.wide.at c.last_quote.result c.wide.invariant c.last_quote.ensures
