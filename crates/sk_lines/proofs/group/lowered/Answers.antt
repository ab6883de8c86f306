use Rattle.sk_lines.proofs.Even.{lesser}
use Rattle.sk_lines.proofs.group.lowered.Goals as goal

pub returns : goal.returns
returns c = lesser c.args.lanes c.args.bytes.now c.args.at c.fits-lanes.0 c.requires
