-- Two rising lists, walked together.
use Rattle.std.specs.Prelude.{ℕ, ◌==◌, if◌then◌else◌, min, List, [], ◌∷◌, Option, None, Some}

-- the lesser of two numbers, if there is any
abbrev pub lesser : Option ℕ → Option ℕ → Option ℕ
lesser None b = b
lesser (Some a) None = Some a
lesser (Some a) (Some b) = Some (min a b)

-- a list without its first member, if that is this one
abbrev pub without_first : ℕ → List ℕ → List ℕ
without_first first [] = []
without_first first (x ∷ xs) = if x == first then xs else x ∷ xs
