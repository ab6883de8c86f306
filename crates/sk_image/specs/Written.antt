-- What is written of an image.
use Rattle.std.specs.Prelude.{ℕ, List}
use Rattle.sk_image.specs.Images.{text_of}
use Rattle.sk_image.specs.declared.image.Image.{Image}

-- its text
abbrev pub image_text : Image → List ℕ
image_text image = text_of image.version image.k image.seed image.hashes.items
