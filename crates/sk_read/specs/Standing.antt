-- What a taker of units stands on.
use Rattle.std.specs.Prelude.{ℕ, List, Option}
use Rattle.sk_read.specs.declared.kind.Kind.{Kind}

-- plain data that no take changes: how it makes units items, the ghost names of the borrows that it
-- holds, and the numbers that what it borrows was made with
pub record Standing : Type 0 where
  pub kind : Option Kind
  pub borrows : List ℕ
  pub numbers : List ℕ
