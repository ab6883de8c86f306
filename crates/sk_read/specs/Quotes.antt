-- Places between quotes, by the bits that mark them.
use Rattle.std.specs.Prelude.{◌≡◌, ◌≢◌, ℕ}
use Rattle.csv.specs.Machine.{step}
use Rattle.csv.specs.Reading.{default_config}
use Rattle.csv.specs.declared.parser.State.{State}
use Rattle.csv.specs.declared.parser.State.TheVariants as st
use Rattle.sk_read.specs.Scan.{settled}
use Rattle.sk_read.specs.declared.records.scan.ScanState.{ScanState}
use Rattle.sk_read.specs.declared.records.scan.ScanState.TheVariants as scan

-- 1 at a place between quotes
abbrev pub inside_bit : ScanState → ℕ
inside_bit scan.InQuotes = 1
inside_bit _ = 0

-- the state after a byte, if a bit says whether it is between quotes then, and quotes begin only where a field does
pub record PlaceAfter (inside byte : ℕ) (state : State) : Type 0 where
  pub quoted : inside ≡ 1 → state ≡ st.InQuoted
  pub closed : inside ≡ 0 → byte ≡ 34 → state ≡ st.AfterQuote
  pub plain : inside ≡ 0 → byte ≢ 34 → state ≡ settled (step default_config st.InField byte).0
