use Rattle.std.proofs.Common.{◌≡◌, ◌*◌, ◌≤◌, length, flat_map, take}
use Rattle.sk_hub.specs.Updaters.{kept_of}
use Rattle.sk_model.specs.Limits.{most_kept}
use Rattle.sk_tally.proofs.whole.count_kept.Given as goal

abbrev pub invariant-updater : goal.invariant-updater
invariant-updater g l = record {
  count : l.count ≡ length (flat_map (λ u. kept_of u) (take l.i l.updaters));
  few : l.count ≤ l.i * most_kept;
}
