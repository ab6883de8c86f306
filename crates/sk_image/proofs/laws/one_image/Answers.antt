use Rattle.sk_image.proofs.Texts.{same_text}
use Rattle.sk_image.proofs.laws.one_image.Goals as goal

pub returns : goal.returns
returns c = same_text
