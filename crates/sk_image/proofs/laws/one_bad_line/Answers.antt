use Rattle.sk_image.proofs.Texts.{one_bad_line}
use Rattle.sk_image.proofs.laws.one_bad_line.Goals as goal

pub returns : goal.returns
returns c = one_bad_line
