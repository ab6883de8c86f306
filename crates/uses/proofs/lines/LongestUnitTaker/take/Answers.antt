use Rattle.std.proofs.Common.{arith}
use Rattle.uses.proofs.Lengths.{longest_more}
use Rattle.uses.proofs.lines.LongestUnitTaker.take.Goals as goal

pub returns-clause-went : goal.returns-clause-went
returns-clause-went c = λ start lines number so_far. let more = longest_more lines c.args.line.now in omega arith
