use Rattle.sk_read.proofs.DelimiterLaws.{bytes_of_block}
use Rattle.sk_read.proofs.records.delimiters.marks_of_block.Goals as goal

pub returns : goal.returns
returns c = bytes_of_block c.args.bytes.now c.args.at c.args.byte c.requires.within c.requires.some c.ranges.byte.fits
