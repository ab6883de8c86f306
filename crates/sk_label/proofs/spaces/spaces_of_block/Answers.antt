use Rattle.sk_label.proofs.SpaceMarks as marks
use Rattle.sk_label.proofs.spaces.spaces_of_block.Goals as goal

pub returns : goal.returns
returns c k = marks.spaces_of_block c.args.line.now c.args.at k c.requires
