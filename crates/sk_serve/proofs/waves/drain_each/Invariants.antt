use Rattle.std.proofs.Common.{◌≡◌, ℕ, ◌++◌}
use Rattle.sk_serve.specs.Waves.{AreOfHub, DrainsFrom}
use Rattle.sk_serve.proofs.waves.drain_each.Given as goal

abbrev pub invariant-updater : goal.invariant-updater
invariant-updater g l = record {
  all : l.yielded ++ l.updater-iterator.rest.items ≡ l.fn.updaters.items;
  table : l.heart.table ≡ l.fn.heart.table;
  drained : (from : ℕ) → AreOfHub l.fn.heart.table from l.fn.updaters.items → DrainsFrom from l.fn.heart l.yielded l.heart;
}
