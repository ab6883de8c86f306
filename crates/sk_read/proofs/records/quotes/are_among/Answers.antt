use Rattle.std.proofs.Common.{eqb-true}
use Rattle.sk_read.proofs.Quotes.{common_mark}
use Rattle.sk_read.proofs.records.quotes.are_among.Goals as goal

pub returns : goal.returns
returns c is k below one other = common_mark c.args.one c.args.other c.args.all k c.ranges.all.fits below (eqb-true _ 0 is) one other
