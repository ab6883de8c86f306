use Rattle.std.proofs.Common.{◌≡◌, ◌≤◌, ◌<◌, ◌-◌, ◌+◌, ℕ, List, [], ◌∷◌, length, true}
use Rattle.std.specs.Io.KnownBytes.{Consumes, IsAtEnd}
use Rattle.sk_read.specs.Parts.{AreInTime}
use Rattle.sk_read.proofs.PartLaws.{may_end}
use Rattle.sk_read.proofs.records.parts.Parts.start.Given as goal

abbrev pub invariant-mark : goal.invariant-mark
invariant-mark g l = record {
  taken : List ℕ;
  consumed : Consumes (g.S.Source.left l.initial.source) (g.S.Source.left l.source) taken;
  bytes : l.parts.bytes.items ≡ 10 ∷ taken;
  small : length taken ≤ 3;
  in_time : AreInTime l.parts.last [] taken;
  piece : l.parts.last ≤ g.S.Source.last l.source;
  count : length taken ≡ l.parts.taken;
  bound : l.parts.taken ≤ l.parts.most;
  cut : l.parts.cut ≡ 1;
  most : l.parts.most ≡ l.initial.parts.most;
  end : l.parts.ended ≡ true → IsAtEnd (g.S.Source.left l.source) × (l.parts.taken < l.parts.most);
  steady : g.S.Source.faults l.source ≡ g.S.Source.faults l.initial.source;
  stays : g.S.Source.stands_on l.source ≡ g.S.Source.stands_on l.initial.source;
}

abbrev pub decreases-mark : goal.decreases-mark
decreases-mark g l = (l.parts.most - l.parts.taken) + may_end l.parts.ended
