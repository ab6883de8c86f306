use Rattle.std.proofs.Common.{◌≡◌, ◌≤◌, ◌-◌, ◌++◌, ℕ, List}
use Rattle.std.specs.Io.KnownBytes.{Consumes}
use Rattle.sk_read.specs.Reading.{HasRead, remaining_of}
use Rattle.sk_read.proofs.reader.LineReader.next_read.Given as goal

abbrev pub invariant-piece : goal.invariant-piece
invariant-piece g l = record {
  goes : (given : List (List ℕ)) (taken : List ℕ) → HasRead l.initial.self (g.S.Source.left l.initial.source) given taken →
      (more : List ℕ) × Consumes (g.S.Source.left l.initial.source) (g.S.Source.left l.source) more × HasRead l.self (g.S.Source.left l.source) given (taken ++ more);
  remaining : remaining_of l.self ≤ remaining_of l.initial.self;
  most : l.self.most ≡ l.initial.self.most;
  piece : l.initial.self.last ≤ g.S.Source.last l.initial.source → l.self.last ≤ g.S.Source.last l.source;
  steady : g.S.Source.faults l.source ≡ g.S.Source.faults l.initial.source;
  stays : g.S.Source.stands_on l.source ≡ g.S.Source.stands_on l.initial.source;
}

abbrev pub decreases-piece : goal.decreases-piece
decreases-piece g l = l.self.most - l.self.taken
