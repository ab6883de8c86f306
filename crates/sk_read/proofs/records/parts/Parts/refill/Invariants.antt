use Rattle.std.proofs.Common.{◌≡◌, ◌≤◌, ◌-◌, ◌+◌, ◌++◌, ℕ, List}
use Rattle.std.specs.Io.KnownBytes.{Consumes}
use Rattle.sk_read.specs.Records.{Row}
use Rattle.sk_read.specs.Parts.{HasHeld, remaining_of}
use Rattle.sk_read.proofs.PartLaws.{may_end}
use Rattle.sk_read.proofs.records.parts.Parts.refill.Given as goal

abbrev pub invariant-piece : goal.invariant-piece
invariant-piece g l = record {
  goes : (rows : List Row) (taken : List ℕ) → HasHeld l.initial.self (g.S.Source.left l.initial.source) rows taken →
      (more : List ℕ) × Consumes (g.S.Source.left l.initial.source) (g.S.Source.left l.source) more × HasHeld l.self (g.S.Source.left l.source) rows (taken ++ more);
  most : l.self.most ≡ l.initial.self.most;
  piece : l.initial.self.last ≤ g.S.Source.last l.initial.source → l.self.last ≤ g.S.Source.last l.source;
  remaining : remaining_of l.self ≡ remaining_of l.initial.self;
  steady : g.S.Source.faults l.source ≡ g.S.Source.faults l.initial.source;
  stays : g.S.Source.stands_on l.source ≡ g.S.Source.stands_on l.initial.source;
}

abbrev pub decreases-piece : goal.decreases-piece
decreases-piece g l = (l.self.most - l.self.taken) + may_end l.self.ended
