use Rattle.std.proofs.Common.{◌≡◌, ◌∷◌, map, take}
use Rattle.sk_image.specs.Images.{first_line, hash_text, joined}
use Rattle.sk_image.proofs.writer.text.Given as goal

abbrev pub invariant-hash : goal.invariant-hash
invariant-hash l =
    l.text.items ≡ joined (first_line l.image.version l.image.k l.image.seed ∷ map (hash_text l.image.version) (take l.hash-index l.image.hashes.items))
