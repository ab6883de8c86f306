-- Places as the bits of a number.
use Rattle.std.specs.Prelude.{ℕ, ◌+◌, ◌*◌, if◌then◌else◌, Bool, List, [], ◌∷◌}

-- a mask has this many places
abbrev pub most_places : ℕ
most_places = 64

-- the sum of 2 ^ i over the places i that have true
unfoldable pub mask_of : List Bool → ℕ
mask_of [] = 0
mask_of (flag ∷ flags) = (if flag then 1 else 0) + 2 * mask_of flags
