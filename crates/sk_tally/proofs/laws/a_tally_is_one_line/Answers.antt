use Rattle.sk_tally.proofs.Totals.{one_line}
use Rattle.sk_tally.proofs.laws.a_tally_is_one_line.Goals as goal

pub returns : goal.returns
returns c = one_line
