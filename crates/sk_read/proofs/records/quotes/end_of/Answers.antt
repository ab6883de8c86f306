use Rattle.std.proofs.Common.{arith}
use Rattle.sk_read.proofs.Quotes.{end_is}
use Rattle.sk_read.proofs.records.quotes.end_of.Goals as goal

pub returns-clause-set : goal.returns-clause-set
returns-clause-set c some = (end_is c.args.marks _ c.ranges.marks.fits (omega arith)).0 some

pub returns-clause-above : goal.returns-clause-above
returns-clause-above c k past = (end_is c.args.marks _ c.ranges.marks.fits (omega arith)).1 k past
