-- Replies that wait to be sent.
use Rattle.std.specs.Prelude.{◌≡◌, ℕ, List, []}

-- the bytes that wait, and how many more may wait with them
pub record Waiting : Type 0 where
  pub bytes : List ℕ
  pub room : ℕ

-- nothing waits
abbrev pub IsUnused : Waiting → Type 0
IsUnused w = w.bytes ≡ []
