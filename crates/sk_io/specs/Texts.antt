-- Bytes as a text.
use Rattle.std.specs.Prelude.{◌≡◌, ℕ, List, []}
use Rattle.std.specs.Str.{IsUtf8}

-- the text that these bytes are, and the empty one if they are no text
pub record IsTextOf (bytes text : List ℕ) : Type 0 where
  pub same : IsUtf8 bytes → text ≡ bytes
  pub none : ¬ (IsUtf8 bytes) → text ≡ []
