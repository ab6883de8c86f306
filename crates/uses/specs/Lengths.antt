-- How long lines are.
use Rattle.std.specs.Prelude.{ℕ, max, List, [], ◌∷◌, length}

-- how many bytes the longest line has, 0 where there is none
abbrev pub longest_of : List (List ℕ) → ℕ
longest_of [] = 0
longest_of (line ∷ lines) = max (length line) (longest_of lines)
