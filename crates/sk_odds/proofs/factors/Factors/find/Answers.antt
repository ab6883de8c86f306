use Rattle.sk_odds.proofs.Headline.{found_missed}
use Rattle.sk_odds.proofs.factors.Factors.find.Goals as goal

pub returns-clause-missed : goal.returns-clause-missed
returns-clause-missed c n within =
    found_missed c.largest_low.result c.smallest_high.result c.args.d c.args.k n c.requires.some c.largest_low.ensures c.smallest_high.ensures within
