-- There is room for the items that are left.
use Rattle.std.proofs.Common.{◌≤◌, ◌+◌, ◌-◌, length}
use Rattle.sk_hub.specs.Updaters.{kept_of}
use Rattle.sk_model.specs.Limits.{most_kept}
use Rattle.steps.proofs.updates.update_each.Given as goal

abbrev pub invariant-update : goal.invariant-update
invariant-update g l = length (kept_of l.updater) + (l.count - l.place) ≤ most_kept
