-- What a rounding sink reports.
use Rattle.std.specs.Prelude.{◌≡◌, ◌<◌, ℕ, suc, List, [], ◌∷◌, ◌++◌, length, Option, None, Some, Result, OnOk, OnErr}
use Rattle.std.specs.Io.KnownBytes.{Appends}
use Rattle.sk_model.specs.Causes.{Rose, HasCause, AppendsPart}
use Rattle.sk_decimal.specs.Rounded.{rounded, settled}

-- what a sink shows: the bytes that were written, if they are known, and its count of faults
pub record Shown : Type 0 where
  pub written : Option (List ℕ)
  pub faults : ℕ

-- how many digits stand after a point, what the sink below showed at the start, and the text since then
pub record Account : Type 0 where
  pub digits : ℕ
  pub start : Shown
  pub text : List ℕ

-- known bytes with their number before them
abbrev pub counted_bytes : Option (List ℕ) → List ℕ
counted_bytes None = 0 ∷ []
counted_bytes (Some bytes) = suc (length bytes) ∷ bytes

-- an account as one list, which grows as its text does: so a caller that knows it by its growth alone still knows what
-- it began with
unfoldable pub report : Account → List ℕ
report a = (a.digits ∷ a.start.faults ∷ counted_bytes a.start.written) ++ a.text

-- this account has become that one by a text
abbrev pub Reports : Account → Account → List ℕ → Type 0
Reports before now text = Appends (Some (report before)) (Some (report now)) text

-- an account with more text
abbrev pub with_text : Account → List ℕ → Account
with_text a text = record a { text = a.text ++ text }

-- the sink below got all that is sure, and has not failed
pub record HasSettled (a : Account) (below : Shown) : Type 0 where
  pub bytes : Appends a.start.written below.written (settled a.digits a.text)
  pub faults : below.faults ≡ a.start.faults

-- the sink below failed once: it got a part of what the text and some bytes after it are rounded to, and not all
pub record HasStopped (a : Account) (below : Shown) : Type 0 where
  pub bytes : (more : List ℕ) × AppendsPart a.start.written below.written (rounded a.digits (a.text ++ more))
  pub faults : Rose a.start.faults below.faults

-- at the end the sink below got all, or it failed
pub record IsFinished {T E : Type 0} (a : Account) (below : Shown) (result : Result T E) : Type 0 where
  pub ok : OnOk result (Appends a.start.written below.written (rounded a.digits a.text))
  pub err : OnErr result ((more : List ℕ) × AppendsPart a.start.written below.written (rounded a.digits (a.text ++ more)))
  pub cause : HasCause a.start.faults below.faults result

-- a rounding sink: its account, its own count of faults, and what the sink below shows
pub record Rounder : Type 0 where
  pub account : Account
  pub faults : ℕ
  pub below : Shown
