-- One line more at the end.
use Rattle.std.proofs.Common.{◌≡◌, ℕ, max, List, [], ◌∷◌, ◌++◌, length, arith}
use Rattle.uses.specs.Lengths.{longest_of}

pub longest_more : (lines : List (List ℕ)) (line : List ℕ) → longest_of (lines ++ line ∷ []) ≡ max (longest_of lines) (length line)
longest_more [] line = omega arith
longest_more (first ∷ lines) line = let e = longest_more lines line in omega arith
