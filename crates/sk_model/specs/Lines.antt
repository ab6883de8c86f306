-- Lines of a text, and the items that they stand for. LF ends a line, a CR directly before it is
-- dropped, and a last piece without LF is a line if it is not empty.
use Rattle.std.specs.Prelude.{ℕ, ◌≤◌, ◌<◌, nat_lt, List, [], ◌∷◌, ◌++◌, length, take, map, filter, All, slice_index_or}
use Rattle.std.specs.Str.Lines.{lines}
use Rattle.sk_model.specs.Sketch.{estimate_of}

-- the lines of a whole text
unfoldable pub lines_of : List ℕ → List (List ℕ)
lines_of bytes = lines bytes

-- the lines of a text that may continue, its last piece ended here: whatever follows, no line before that
-- piece changes, and that one gets no shorter
abbrev pub open_lines_of : List ℕ → List (List ℕ)
open_lines_of bytes = lines_of (bytes ++ 10 ∷ [])

-- no line has more than this many bytes
abbrev pub AreWithin : ℕ → List (List ℕ) → Type 0
AreWithin limit lines = All (λ line. length line ≤ limit) lines

-- line n, counted from 0, is the first with more than this many bytes
abbrev pub IsFirstLong : ℕ → ℕ → List (List ℕ) → Type 0
IsFirstLong limit n lines = (n < length lines) × AreWithin limit (take n lines) × (limit < length (slice_index_or lines n []))

-- the lines that are items: those that are not empty
unfoldable pub filled : List (List ℕ) → List (List ℕ)
filled lines = filter (λ line. nat_lt 0 (length line)) lines

-- the items of lines, by what makes a line an item
unfoldable pub items_of : (List ℕ → ℕ) → List (List ℕ) → List ℕ
items_of item lines = map item (filled lines)

-- what one thread answers over all lines
abbrev pub sequential_estimate : ℕ → (List ℕ → ℕ) → List (List ℕ) → ℕ × ℕ
sequential_estimate k item lines = estimate_of k (items_of item lines)
