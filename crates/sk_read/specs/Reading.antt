-- What contracts see of a reader of a source's lines.
use Rattle.std.specs.Prelude.{◌≡◌, ℕ, ◌+◌, ◌-◌, ◌<◌, ◌≤◌, Bool, true, false, List, [], ◌∷◌, ◌++◌, length, Option, Result, Ok, Err}
use Rattle.std.specs.Str.Lines.{strip_carriage_return}
use Rattle.sk_model.specs.Lines.{lines_of, open_lines_of, AreWithin, IsFirstLong}
use Rattle.sk_lines.specs.Cutter.{Cutter, Follows, end_bytes, is_long, counted}
use Rattle.std.specs.Io.KnownBytes.{IsAtEnd}
use Rattle.sk_model.specs.Missing.{Begins}
use Rattle.sk_model.specs.Limits.{line_limit, source_limit}
use Rattle.sk_read.specs.declared.reader.LineFault.{LineFault}
use Rattle.sk_read.specs.declared.reader.LineFault.TheVariants as stop
use Rattle.sk_read.specs.declared.units.Units.TheVariants.{Lines}
use Rattle.sk_read.specs.Items.{complete_lines_of}
use Rattle.sk_read.specs.Reads.{piece_limit, IsSettled, IsInTime}

-- the lines that were cut, how many bytes were taken of the source, how many the last read gave and how many may be
-- taken, and whether the source was read to its end
pub record Reading : Type 0 where
  pub cutter : Cutter
  pub taken : ℕ
  pub last : ℕ
  pub most : ℕ
  pub ended : Bool

-- how many bytes may still be given as lines
abbrev pub remaining_of : Reading → ℕ
remaining_of r = length r.cutter.rest + (r.most - r.taken)

-- of the bytes taken, exactly these lines were given
pub record HasGiven (r : Reading) (given : List (List ℕ)) (taken : List ℕ) : Type 0 where
  pub follows : r.ended ≡ false → Follows r.cutter given taken
  pub whole : r.ended ≡ true → lines_of taken ≡ given
  pub within : AreWithin r.cutter.limit given
  pub going : is_long r.cutter.last ≡ false
  pub number : r.cutter.number ≡ counted (length given)
  pub size : r.ended ≡ true → r.taken < r.most
  pub count : length taken ≡ r.taken

-- a piece of the source was fed
pub record Feeds (old new : Reading) (more : List ℕ) : Type 0 where
  pub follows : (given : List (List ℕ)) (taken : List ℕ) → HasGiven old given taken → HasGiven new given (taken ++ more)
  pub remaining : remaining_of new ≡ remaining_of old
  pub limit : new.cutter.limit ≡ old.cutter.limit
  pub most : new.most ≡ old.most
  pub ended : new.ended ≡ old.ended
  pub last : new.last ≡ length more
  pub size : length more ≤ piece_limit
  pub bound : new.taken ≤ new.most

-- one more line was given, of the bytes taken
abbrev pub GivesLine : Reading → Reading → Type 0
GivesLine old new = (given : List (List ℕ)) (taken : List ℕ) → HasGiven old given taken → HasGiven new (given ++ new.cutter.line ∷ []) taken

-- all complete lines of the bytes taken were given, and the last piece is not too long so far
pub record Stands (r : Reading) (given : List (List ℕ)) (taken : List ℕ) : Type 0 where
  pub follows : HasGiven r given taken
  pub lines : open_lines_of taken ≡ given ++ strip_carriage_return r.cutter.rest ∷ []
  pub within : AreWithin r.cutter.limit (open_lines_of taken)

-- after these lines the first comes that is too long
pub record ComesLong (limit : ℕ) (given lines : List (List ℕ)) : Type 0 where
  pub begins : Begins given lines
  pub first : IsFirstLong limit (length given) lines

-- the next line is too long, whatever follows the bytes taken
abbrev pub IsLongNext : Reading → ℕ → Type 0
IsLongNext r n = (given : List (List ℕ)) (taken : List ℕ) → HasGiven r given taken →
    (n ≡ length given + 1) × ((rest : List ℕ) → ComesLong r.cutter.limit given (lines_of (taken ++ rest)))

-- the last line is too long
abbrev pub IsLongLast : Reading → ℕ → Type 0
IsLongLast r n = (given : List (List ℕ)) (taken : List ℕ) → HasGiven r given taken →
    (n ≡ length given + 1) × ComesLong r.cutter.limit given (lines_of taken)

-- of a source that has this left these bytes were taken, and exactly these lines of them given
pub record HasRead (r : Reading) (left : Option (List ℕ)) (given : List (List ℕ)) (taken : List ℕ) : Type 0 where
  pub has : HasGiven r given taken
  pub end : r.ended ≡ true → IsAtEnd left
  pub limit : r.cutter.limit ≡ line_limit
  pub bound : r.taken ≤ r.most
  pub few : r.most ≤ source_limit
  pub in_time : IsInTime r.last Lines given taken

-- a line was given of the bytes held: it lies where those given before it end
pub record MovesOn (old new : Cutter) : Type 0 where
  pub front : new.front ≡ old.front ++ (new.line ++ end_bytes new.ending)
  pub rest : old.rest ≡ new.line ++ end_bytes new.ending ++ new.rest

-- no line is too long so far in these bytes, and the lines that LF ended in them are these
abbrev pub HaveEnded : List (List ℕ) → List ℕ → Type 0
HaveEnded given taken = (complete_lines_of taken ≡ given) × AreWithin line_limit (open_lines_of taken)

-- how a call of `next` went, where these lines were given before it, and these bytes taken after it
abbrev pub Goes : Reading → Option (List ℕ) → List (List ℕ) → List ℕ → Result Bool LineFault → Type 0
Goes r left given taken (Ok true) = HasRead r left (given ++ r.cutter.line ∷ []) taken × IsInTime r.last Lines given taken
Goes r left given taken (Ok false) = HasRead r left given taken × (r.ended ≡ true)
Goes r left given taken (Err stop.ReadFault) = HaveEnded given taken × (length taken < r.most)
Goes r left given taken (Err stop.TooMuch) = HaveEnded given taken × (length taken ≡ r.most)
Goes r left given taken (Err (stop.LongLine n)) = (n ≡ length given + 1) × (length taken ≤ r.most) × IsInTime r.last Lines given taken
    × IsSettled (λ text. Begins given (lines_of text) × IsFirstLong line_limit (length given) (lines_of text)) left taken

-- of the bytes taken no complete line is left to give
abbrev pub HoldsNone : Reading → List (List ℕ) → List ℕ → Type 0
HoldsNone r given taken = r.ended ≡ false → HaveEnded given taken

-- how a call of `next_held` went
abbrev pub GoesHeld : Reading → Option (List ℕ) → List (List ℕ) → List ℕ → Result Bool LineFault → Type 0
GoesHeld r left given taken (Ok true) = HasRead r left (given ++ r.cutter.line ∷ []) taken
GoesHeld r left given taken (Ok false) = HasRead r left given taken × HoldsNone r given taken
GoesHeld r left given taken (Err why) = Goes r left given taken (Err why)

-- more lines of the bytes taken were given, and of these this is known
abbrev pub GivesMore : Reading → Option (List ℕ) → List (List ℕ) → List ℕ → (List (List ℕ) → Type 0) → Type 0
GivesMore r left given taken Known = (more : List (List ℕ)) × HasRead r left (given ++ more) taken × Known more
