-- How a rounding sink keeps the piece after the last LF.
use Rattle.std.specs.Prelude.{◌≡◌, ◌<◌, ℕ, ◌-◌, Bool, nat_lt, nat_le, if◌then◌else◌, List, [], length, take}
use Rattle.sk_lines.specs.Cutter.{HasNoLf}
use Rattle.sk_decimal.specs.Rounded.{Passage, passage, longest_line}
use Rattle.sk_decimal.specs.Account.{Account, Shown, HasSettled, HasStopped}

-- a piece is held as long as it may still be rounded; a longer one has passed
pub record IsHeld (piece held : List ℕ) (passes : Bool) : Type 0 where
  pub line : held ≡ (if nat_le (length piece) longest_line then piece else [])
  pub passing : passes ≡ nat_lt longest_line (length piece)

-- some bytes of which at most the last is LF
pub record IsPiece (bytes : List ℕ) : Type 0 where
  pub some : 0 < length bytes
  pub plain : HasNoLf (take (length bytes - 1) bytes)

-- what holds at each moment
pub record IsSound (a : Account) (line : List ℕ) (passes : Bool) (faults : ℕ) (below : Shown) : Type 0 where
  pub held : faults ≡ 0 → IsHeld (passage a.digits a.text).piece line passes
  pub settled : faults ≡ 0 → HasSettled a below
  pub stopped : 0 < faults → HasStopped a below
