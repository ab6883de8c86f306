use Rattle.std.proofs.Common.{◌≡◌, ◌++◌}
use Rattle.sk_feed.specs.Drained.{DrainsAll}
use Rattle.sk_feed.proofs.drain.take_in_all.Given as goal

abbrev pub invariant-updater : goal.invariant-updater
invariant-updater g l = record {
  drained : DrainsAll l.fn.heart l.yielded l.heart;
  all : l.yielded ++ l.updater-iterator.rest.items ≡ l.fn.updaters.items;
}
