use Rattle.std.proofs.Common.{◌≡◌, ℕ, List, length, ap, subst, arith}
use Rattle.sk_image.specs.Images.{lines_of_image}
use Rattle.sk_image.specs.Inside.{Holds}
use Rattle.sk_image.specs.declared.part.Part.{Part}
use Rattle.sk_image.proofs.Grammar.{number_of_lines}
use Rattle.sk_image.proofs.part.Part.next_line.Goals as goal

pub returns-in-Whole : goal.returns-in-Whole
returns-in-Whole c = λ lines holds.
    let image = c.in-Whole.image in
    let are : lines ≡ lines_of_image image.version image.k image.seed image.hashes.items = subst (λ (p : Part). Holds p lines) c.in-Whole.is holds in
    omega (arith, ap (λ (l : List (List ℕ)). length l) are, number_of_lines image.version image.k image.seed image.hashes.items, c.len-in-Whole.ensures, image.hashes.ok.0)
