use Rattle.std.proofs.Common.{◌≡◌, ◌≤◌, ◌-◌, ℕ, List, length}
use Rattle.std.specs.Io.KnownBytes.{Consumes}
use Rattle.sk_image.specs.Inside.{HasTaken}
use Rattle.sk_image.proofs.reader.read.Given as goal

abbrev pub invariant-read : goal.invariant-read
invariant-read g l = record {
  seen : (seen : List ℕ) × Consumes (g.S.Source.left l.initial.source) (g.S.Source.left l.source) seen × HasTaken l.draft seen × (length seen ≡ l.taken);
  within : l.taken ≤ l.most;
  steady : g.S.Source.faults l.source ≡ g.S.Source.faults l.initial.source;
  stays : g.S.Source.stands_on l.source ≡ g.S.Source.stands_on l.initial.source;
}

abbrev pub decreases-read : goal.decreases-read
decreases-read g l = l.most - l.taken
