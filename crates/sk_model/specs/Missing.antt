-- How many of the last members of one list another lacks.
use Rattle.std.specs.Prelude.{◌≡◌, ℕ, ◌-◌, nat_lt, if◌then◌else◌, List, ◌++◌, length, take}

-- ys begins with xs
abbrev pub Begins : {A : Type 0} → List A → List A → Type 0
Begins {A} xs ys = (rest : List A) × (ys ≡ xs ++ rest)

-- xs without its last r members is a prefix of ys
abbrev pub LacksAtMost : {A : Type 0} → List A → List A → ℕ → Type 0
LacksAtMost xs ys r = Begins (take (length xs - r) xs) ys

-- the longer of two lists; the first where they are of one length
abbrev pub longer : {A : Type 0} → List A → List A → List A
longer xs ys = if nat_lt (length xs) (length ys) then ys else xs
