-- What it means that windows were taken, whatever takes them.
use Rattle.std.specs.Prelude.{ℕ, List, ◌++◌}

-- whatever was taken before, these windows were taken after it
abbrev pub TakesOn : {T : Type 0} → (T → T → List (List (List ℕ)) → Type 0) → T → List (List (List ℕ)) → T → Type 0
TakesOn {T} took t windows t' = (start : T) (before : List (List (List ℕ))) → took start t before → took start t' (before ++ windows)
