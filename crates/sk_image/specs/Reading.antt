-- Texts that are read as images, and the line at which a text is none.
use Rattle.std.specs.Prelude.{◌≡◌, ℕ, ◌+◌, ◌≤◌, List, [], ◌∷◌, ◌++◌, length, Option}
use Rattle.std.specs.Io.KnownBytes.{Consumes}
use Rattle.sk_model.specs.Missing.{Begins}
use Rattle.sk_lines.specs.Cutter.{HasNoLf}
use Rattle.sk_image.specs.Images.{IsImage, lines_of_image, joined, text_of}

-- no line of an image has more bytes
abbrev pub most_line : ℕ
most_line = 64

-- one read is asked for at most this many bytes
abbrev pub most_piece : ℕ
most_piece = 8192

-- the text of some image
pub record IsImageText (text : List ℕ) : Type 0 where
  pub version : ℕ
  pub k : ℕ
  pub seed : ℕ
  pub hashes : List ℕ
  pub whole : IsImage version k seed hashes
  pub is : text ≡ text_of version k seed hashes

-- some image begins with these lines
pub record BeginAnImage (lines : List (List ℕ)) : Type 0 where
  pub version : ℕ
  pub k : ℕ
  pub seed : ℕ
  pub hashes : List ℕ
  pub whole : IsImage version k seed hashes
  pub begins : Begins lines (lines_of_image version k seed hashes)

-- a text is no image's, and line n, counted from 1, is the first that is not as its place requires: no
-- image begins with the lines up to it, or it is a piece that LF does not end, or it is missing
pub record IsBadAt (n : ℕ) (text : List ℕ) : Type 0 where
  pub lines : List (List ℕ)
  pub rest : List ℕ
  pub split : text ≡ joined lines ++ rest
  pub number : n ≡ length lines + 1
  pub before : BeginAnImage lines
  pub next : (line more : List ℕ) → rest ≡ line ++ 10 ∷ more → ¬ BeginAnImage (lines ++ line ∷ [])
  pub none : ¬ IsImageText text

-- of a text that may continue, each line that LF ended is as its place requires, and its last piece is not
-- too long for a line
pub record IsGoodSoFar (text : List ℕ) : Type 0 where
  pub lines : List (List ℕ)
  pub piece : List ℕ
  pub split : text ≡ joined lines ++ piece
  pub before : BeginAnImage lines
  pub no_lf : HasNoLf piece
  pub within : length piece ≤ most_line

-- at most `most` bytes were taken, and those before the last read, or all, are good so far
pub record TakesInTime (old new : Option (List ℕ)) (most : ℕ) : Type 0 where
  pub front : List ℕ
  pub piece : List ℕ
  pub taken : Consumes old new (front ++ piece)
  pub good : IsGoodSoFar front
  pub short : length piece ≤ most_piece
  pub within : length (front ++ piece) ≤ most
