-- What it means that the rank of a number in a source was told.
use Rattle.std.specs.Prelude.{ℕ, ◌≤◌, List, length, Option}
use Rattle.std.specs.Int.{abs_diff}
use Rattle.std.specs.Io.KnownBytes.{Appends, Consumes, IsAtEnd}
use Rattle.sk_quant.specs.Ranks.{rank_of, rank_error}
use Rattle.sk_read.specs.Items.{items_by}
use Rattle.sk_read.specs.Units.{units_by, units_of}
use Rattle.sk_read.specs.declared.kind.Kind.TheVariants.{Raw}
use Rattle.sk_rank.specs.Texts.{told_line}

-- the items of the numbers that the lines of a text spell: number n is item n + 1
abbrev pub items_of_text : List ℕ → List ℕ
items_of_text text = items_by Raw (units_of (units_by 0) text)

-- a source was read to its end, and what was written is how many numbers it has, how many of their items are below
-- this one, which is off by at most the error, and that error
pub record TellsRank (at k : ℕ) (left left' w w' : Option (List ℕ)) : Type 0 where
  pub text : List ℕ
  pub consumed : Consumes left left' text
  pub end : IsAtEnd left'
  pub below : ℕ
  pub near : abs_diff below (rank_of at (items_of_text text)) ≤ rank_error (length (items_of_text text)) k
  pub written : Appends w w' (told_line (length (items_of_text text)) below (rank_error (length (items_of_text text)) k))
