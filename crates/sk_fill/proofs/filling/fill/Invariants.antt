use Rattle.std.proofs.Common.{◌≡◌, ◌≤◌, ◌++◌, List, ℕ, All}
use Rattle.std.specs.Io.KnownBytes.{Consumes}
use Rattle.sk_read.specs.Items.{IsGood}
use Rattle.sk_read.specs.Reading.{HasRead, remaining_of}
use Rattle.sk_fill.specs.Windows.{FillsNone}
use Rattle.sk_fill.proofs.filling.fill.Given as goal

abbrev pub invariant-piece : goal.invariant-piece
invariant-piece g l = record {
  unfilled : FillsNone l.window.most l.window.lines;
  good : All (IsGood l.kind) l.window.lines;
  most : l.window.most ≡ l.initial.window.most;
  read : (given : List (List ℕ)) (taken : List ℕ) → HasRead l.initial.reader (g.S.Source.left l.initial.source) given taken
      → (more : List ℕ) × Consumes (g.S.Source.left l.initial.source) (g.S.Source.left l.source) more × HasRead l.reader (g.S.Source.left l.source) (given ++ l.window.lines) (taken ++ more);
  bound : l.reader.most ≡ l.initial.reader.most;
  piece : l.initial.reader.last ≤ g.S.Source.last l.initial.source → l.reader.last ≤ g.S.Source.last l.source;
  fewer : remaining_of l.reader ≤ remaining_of l.initial.reader;
  steady : g.S.Source.faults l.source ≡ g.S.Source.faults l.initial.source;
  stays : g.S.Source.stands_on l.source ≡ g.S.Source.stands_on l.initial.source;
}

abbrev pub decreases-piece : goal.decreases-piece
decreases-piece g l = remaining_of l.reader
