-- What a source stands on, and how many bytes its last read gave.
use Rattle.std.specs.Prelude.{◌≡◌, ℕ, List, [], Option, None, Result, MatchResult}

-- plain data that no read changes: the ghost names of the borrows that the source holds, the counts
-- of faults next to its own, the files of the shelf below it by name and the names that were opened there,
-- and of the link below it all bytes that come and those that were written, if these are known
pub record Base : Type 0 where
  pub borrows : List ℕ
  pub counts : List ℕ
  pub files : Option (List (List ℕ × List ℕ))
  pub opened : Option (List (List ℕ))
  pub sides : Option (List ℕ × List ℕ)

-- what a source stands on that holds no borrow
abbrev pub nothing : Base
nothing = record { borrows = []; counts = []; files = None; opened = None; sides = None }

-- a read that did not fail is now the last one, and its length is known
abbrev pub LastRead : {E : Type 0} → ℕ → ℕ → Result ℕ E → Type 0
LastRead old new result = MatchResult result (λ n. new ≡ n) (λ _. new ≡ old)
