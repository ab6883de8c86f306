use Rattle.sk_image.proofs.Texts.{without_last}
use Rattle.sk_image.proofs.laws.the_last_line_is_missed.Goals as goal

pub returns : goal.returns
returns c = without_last
