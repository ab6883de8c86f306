use Rattle.std.proofs.Common.{refl}
use Rattle.std.specs.Fmt.{digits}
use Rattle.sk_image.specs.Images.{first_line, last_line, lines_of_image, joined}
use Rattle.sk_lines.specs.Hashes.{hex}
use Rattle.sk_image.specs.Versions.{digits_of}
use Rattle.sk_image.proofs.laws.worked.worked_texts.Goals as goal

pub returns : goal.returns
unfolding digits digits_of hex first_line last_line lines_of_image joined
returns c = record { two = refl; none = refl; greatest = refl; two_of_1 = refl; greatest_of_1 = refl }
