use Rattle.sk_image.proofs.Unions as unions
use Rattle.sk_image.proofs.laws.an_image_estimates.Goals as goal

pub returns : goal.returns
returns c = unions.kept_estimates
