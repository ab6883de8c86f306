-- What contracts see of a reader of lines.
use Rattle.std.specs.Prelude.{◌≡◌, ◌≢◌, ℕ, ◌+◌, ◌-◌, ◌^◌, ◌<◌, ◌≤◌, min, ◌⊎◌, Bool, true, false, List, [], ◌∷◌, ◌++◌, All, length, take, drop, Option, Result, Ok, Err}
use Rattle.std.specs.Io.KnownBytes.{Consumes, IsAtEnd, Keeps}
use Rattle.std.specs.Str.Lines.{strip_carriage_return}
use Rattle.sk_model.specs.Lines.{lines_of, open_lines_of, AreWithin, IsFirstLong}
use Rattle.sk_lines.specs.declared.cutter.Ending.{Ending}
use Rattle.sk_lines.specs.declared.cutter.Ending.TheVariants.{Lf, CrLf, Nothing}
use Rattle.sk_lines.specs.declared.cutter.Next.{Next}
use Rattle.sk_lines.specs.declared.cutter.Next.TheVariants.{Line, More, Long}

pub record Cutter : Type 0 where
  -- the most bytes of a line
  pub limit : ℕ
  -- the bytes of the lines given since the last piece was fed, with what ended them
  pub front : List ℕ
  -- the bytes fed that no line given has
  pub rest : List ℕ
  -- how many lines were given
  pub number : ℕ
  -- the last line given, and how it ended
  pub line : List ℕ
  pub ending : Ending
  -- what the last call gave
  pub last : Next
  -- whether it may be fed: since the last piece a `next` gave More, or there was no piece
  pub hungry : Bool
  -- whether `end` was called
  pub ended : Bool

-- a count as a `u64` shows it: it stands still at the type's end
abbrev pub counted : ℕ → ℕ
counted n = min n (2 ^ 64 - 1)

-- the bytes that ended a line
abbrev pub end_bytes : Ending → List ℕ
end_bytes Lf = 10 ∷ []
end_bytes CrLf = 13 ∷ 10 ∷ []
end_bytes Nothing = []

abbrev pub is_long : Next → Bool
is_long Line = false
is_long More = false
is_long (Long n) = true

-- a text that has no LF
abbrev pub HasNoLf : List ℕ → Type 0
HasNoLf bytes = All (λ byte. byte ≢ 10) bytes

-- the first LF of a text stands at this place
pub record HasLfAt (text : List ℕ) (place : ℕ) : Type 0 where
  pub piece : HasNoLf (take place text)
  pub within : place < length text
  pub split : text ≡ take place text ++ 10 ∷ drop (place + 1) text

-- a text of whole lines: it is empty or ends by LF
abbrev pub IsOfWholeLines : List ℕ → Type 0
IsOfWholeLines text = (text ≡ []) ⊎ ((front : List ℕ) × (text ≡ front ++ 10 ∷ []))

-- of a text that was fed, exactly these lines were given, none of them too long
pub record Follows (c : Cutter) (given : List (List ℕ)) (text : List ℕ) : Type 0 where
  pub front : List ℕ
  pub joined : text ≡ front ++ c.rest
  pub whole : IsOfWholeLines front
  pub lines : lines_of front ≡ given
  pub count : c.number ≡ counted (length given)
  pub within : AreWithin c.limit given

-- a piece of the text was taken, maybe of no bytes
pub record TakesPiece (old new : Cutter) (piece : List ℕ) : Type 0 where
  pub follows : (given : List (List ℕ)) (text : List ℕ) → Follows old given text → Follows new given (text ++ piece)
  pub front : new.front ≡ []
  pub rest : new.rest ≡ old.rest ++ piece
  pub number : new.number ≡ old.number
  pub ending : new.ending ≡ old.ending
  pub last : new.last ≡ Next.More
  pub limit : new.limit ≡ old.limit
  pub ended : new.ended ≡ false

-- these bytes were read of a source, none only at its end: where the read failed there are none
abbrev pub IsRead : {E : Type 0} → Option (List ℕ) → Option (List ℕ) → Result ℕ E → List ℕ → Type 0
IsRead old new (Ok n) more = (length more ≡ n) × Consumes old new more × (n ≡ 0 → IsAtEnd new)
IsRead old new (Err why) more = (more ≡ []) × Keeps old new

-- the next line was given
pub record GivesLine (old new : Cutter) : Type 0 where
  pub follows : (given : List (List ℕ)) (text : List ℕ) → Follows old given text → Follows new (given ++ new.line ∷ []) text
  pub number : new.number ≡ counted (old.number + 1)
  pub bytes : old.rest ≡ new.line ++ end_bytes new.ending ++ new.rest
  pub front : new.front ≡ old.front ++ (new.line ++ end_bytes new.ending)
  pub ending : new.ending ≢ Ending.Nothing
  pub plain : HasNoLf new.line
  pub shorter : length new.rest < length old.rest

-- all complete lines of a text are given, and its last piece is no line that is too long
pub record Waits (new : Cutter) (given : List (List ℕ)) (text : List ℕ) : Type 0 where
  pub follows : Follows new given text
  pub lines : open_lines_of text ≡ given ++ strip_carriage_return new.rest ∷ []
  pub within : AreWithin new.limit (open_lines_of text)

-- line n is the first that is too long, and comes after the lines given
pub record IsLongAfter (limit n : ℕ) (given lines : List (List ℕ)) : Type 0 where
  pub number : n ≡ counted (length given + 1)
  pub first : IsFirstLong limit (length given) lines

-- a last piece was given as a line
pub record GivesLast (old new : Cutter) : Type 0 where
  pub lines : (given : List (List ℕ)) (text : List ℕ) → Follows old given text → lines_of text ≡ given ++ new.line ∷ []
  pub within : (given : List (List ℕ)) (text : List ℕ) → Follows old given text → AreWithin old.limit (lines_of text)
  pub number : new.number ≡ counted (old.number + 1)
  pub bytes : old.rest ≡ new.line
  pub plain : HasNoLf new.line
  pub ending : new.ending ≡ Ending.Nothing

-- what holds at each moment
pub record IsSound (c : Cutter) : Type 0 where
  -- a reader that may be fed holds one piece without LF, which is not too long so far
  pub piece : c.hungry ≡ true → HasNoLf c.rest
  pub fits : c.hungry ≡ true → length (strip_carriage_return c.rest) ≤ c.limit
  -- what is reported as too long is so
  pub number : (n : ℕ) → c.last ≡ Next.Long n → n ≡ counted (c.number + 1)
  pub open_long : (n : ℕ) → c.last ≡ Next.Long n → c.ended ≡ false → IsFirstLong c.limit 0 (open_lines_of c.rest)
  pub ended_long : (n : ℕ) → c.last ≡ Next.Long n → c.ended ≡ true → IsFirstLong c.limit 0 (lines_of c.rest)
  -- nothing is left after the end
  pub ended : c.ended ≡ true → is_long c.last ≡ false → c.rest ≡ []
