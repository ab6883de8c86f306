-- Texts that were written whole.
use Rattle.std.proofs.Common.{ℕ, List, length, Option, sym, subst, arith}
use Rattle.std.proofs.lemmas.List.{take_all}
use Rattle.std.specs.Io.KnownBytes.{Appends}
use Rattle.sk_model.specs.Causes.{AppendsFront}

-- a text that was written whole is a front of itself
pub front_of_all : (a b : Option (List ℕ)) (xs : List ℕ) → Appends a b xs → AppendsFront a b xs
front_of_all a b xs whole = (length xs, omega arith, subst (Appends a b) (sym (take_all (length xs) xs (omega arith))) whole)
