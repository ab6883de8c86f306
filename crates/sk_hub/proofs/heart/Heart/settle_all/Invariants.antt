use Rattle.std.proofs.Common.{◌≡◌, [], true}
use Rattle.sk_hub.specs.Drains.{TriesUntil}
use Rattle.sk_hub.proofs.heart.Heart.settle_all.Given as goal

abbrev pub invariant-settle : goal.invariant-settle
invariant-settle g l = record {
  table : l.u.table ≡ l.self.table;
  empty : l.u.fill ≡ [];
  tries : TriesUntil true l.initial.self l.initial.u l.self l.u;
}
