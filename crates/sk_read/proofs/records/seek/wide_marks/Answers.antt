use Rattle.std.proofs.Common.{arith}
use Rattle.sk_read.proofs.DelimiterLaws.{bytes_of_lanes}
use Rattle.sk_read.proofs.records.seek.wide_marks.Goals as goal

pub returns : goal.returns
returns c = bytes_of_lanes 16 c.args.bytes.now c.args.at c.args.byte (omega arith) c.requires.within c.requires.some c.ranges.byte.fits
