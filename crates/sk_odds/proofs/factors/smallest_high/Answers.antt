use Rattle.std.proofs.Common.{arith}
use Rattle.sk_odds.proofs.Products.{largest_is_high}
use Rattle.sk_odds.proofs.factors.smallest_high.Goals as goal

pub bisect-init : goal.bisect-init
bisect-init c = (omega arith, omega arith, largest_is_high c.args.k c.args.d c.requires.few c.requires.rare)
