use Rattle.sk_read.proofs.Lanes as lanes
use Rattle.sk_read.proofs.wide.are_digits.Goals as goal

pub returns : goal.returns
returns c = lanes.are_small c.args.lanes c.fits-lanes.0 c.fits-lanes.1
