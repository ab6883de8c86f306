use Rattle.std.proofs.Common.{◌≡◌, ◌≤◌, ◌++◌, ℕ, List, Option}
use Rattle.sk_read.specs.Reading.{HasRead, GivesMore, remaining_of}
use Rattle.sk_read.proofs.lines.give_held.Given as goal

abbrev pub invariant-group : goal.invariant-group
invariant-group g l = record {
  gave : (start : _) (left : Option (List ℕ)) (given : List (List ℕ)) (taken : List ℕ) → HasRead l.initial.reader left given taken → g.T.UnitTaker.went start l.initial.taker given →
      GivesMore l.reader left given taken (λ more. g.T.UnitTaker.went start l.taker (given ++ more));
  most : l.reader.most ≡ l.initial.reader.most;
  piece : l.reader.last ≡ l.initial.reader.last;
  remaining : remaining_of l.reader ≤ remaining_of l.initial.reader;
  standing : g.T.UnitTaker.stands_on l.taker ≡ g.T.UnitTaker.stands_on l.initial.taker;
}

abbrev pub decreases-group : goal.decreases-group
decreases-group g l = remaining_of l.reader
