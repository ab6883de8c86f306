use Rattle.std.proofs.Common.{◌≡◌, true}
use Rattle.sk_hub.specs.Drains.{TriesUntil}
use Rattle.sk_hub.proofs.heart.Heart.flush_all.Given as goal

abbrev pub invariant-flush : goal.invariant-flush
invariant-flush g l = record {
  table : l.u.table ≡ l.self.table;
  tries : TriesUntil true l.initial.self l.initial.u l.self l.u;
}
