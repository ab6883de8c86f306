-- What was written of a text at a write that failed.
use Rattle.std.specs.Prelude.{ℕ, ◌<◌, ◌≤◌, List, length, take, Option}
use Rattle.std.specs.Io.KnownBytes.{Appends}
use Rattle.sk_model.specs.Missing.{Begins}

-- known bytes grew by a part of these from their start: all of the text that was due before, and not all
pub record AppendsPartAfter (before : List ℕ) (old new : Option (List ℕ)) (bytes : List ℕ) : Type 0 where
  pub size : ℕ
  pub begins : Begins before bytes
  pub least : length before ≤ size
  pub most : size < length bytes
  pub written : Appends old new (take size bytes)
