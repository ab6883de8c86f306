use Rattle.std.proofs.Common.{◌≡◌, ◌++◌, List, vec_len}
use Rattle.sk_hub.specs.Updaters.{UpdaterState}
use Rattle.sk_learn.specs.Closing.{TakesInAll, counted}
use Rattle.sk_learn.proofs.closing.take_in_all.Given as goal

abbrev pub invariant-updater : goal.invariant-updater
invariant-updater g l = record {
  taken : List UpdaterState;
  all : taken ++ l.updaters.items ≡ l.initial.updaters.items;
  takes : TakesInAll l.initial.heart taken l.initial.reader l.heart l.reader;
  count : l.taken ≡ counted l.initial.taken taken;
}

abbrev pub decreases-updater : goal.decreases-updater
decreases-updater g l = vec_len l.updaters
