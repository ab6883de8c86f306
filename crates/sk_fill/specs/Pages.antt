-- What contracts see of a page of lines.
use Rattle.std.specs.Prelude.{◌≡◌, ◌≢◌, ℕ, ◌+◌, ◌-◌, ◌*◌, ◌≤◌, List, All, length, take, drop, slice_index}
use Rattle.sk_fill.specs.declared.page.Place.{Place}
use Rattle.sk_lines.specs.Cutter.{IsOfWholeLines}
use Rattle.sk_lines.specs.Marks.{KnowsLfs}
use Rattle.sk_lines.specs.Runs.{IsRun, EndEach}

pub record PageState : Type 0 where
  pub lines : List (List ℕ)
  -- how many bytes they have, with what ended them
  pub size : ℕ

-- lines of a page, on the way through them
pub record PageLinesState : Type 0 where
  -- the text in which they lie
  pub text : List ℕ
  -- those to come
  pub rest : List (List ℕ)

-- ---- how they are kept

-- the text that lies from a place on in bytes, before their last 64
abbrev pub text_from : ℕ → List ℕ → List ℕ
text_from at bytes = take (length bytes - 64 - at) (drop at bytes)

abbrev pub text_in : List ℕ → List ℕ
text_in bytes = take (length bytes - 64) bytes

-- a block of zeros lies after the text
pub record IsPadded (bytes : List ℕ) : Type 0 where
  pub long : 64 ≤ length bytes
  pub zeros : (i : ℕ) → length bytes ≤ i + 64 → slice_index bytes i ≡ 0

-- the line of this number, counted from 0, begins here
pub record Begins (text : List ℕ) (line at : ℕ) : Type 0 where
  pub within : at ≤ length text
  pub before : IsRun line (take at text)

-- unless the number is 0, each of a text's lines has as many bytes, with what ended it
pub record IsEven (each count : ℕ) (text : List ℕ) : Type 0 where
  pub bytes : each ≢ 0 → length text ≡ count * each
  pub ends : each ≢ 0 → EndEach count (each - 1) text

-- what a page keeps
pub record IsPage (bytes : List ℕ) (places : List Place) (count : ℕ) : Type 0 where
  pub padded : IsPadded bytes
  pub run : IsRun count (text_in bytes)
  pub noted : All (λ place. Begins (text_in bytes) place.line place.at) places

-- what lines of a page keep on the way
pub record AreOnTheWay (bytes : List ℕ) (at scanned marks : ℕ) : Type 0 where
  pub padded : IsPadded bytes
  pub within : at + 64 ≤ length bytes
  pub whole : IsOfWholeLines (text_from at bytes)
  pub far : scanned ≤ length bytes
  pub block : marks ≢ 0 → 64 ≤ scanned
  pub known : KnowsLfs bytes at scanned marks
