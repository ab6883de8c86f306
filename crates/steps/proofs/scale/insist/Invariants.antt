-- What was offered in vain was not kept.
use Rattle.std.proofs.Common.{◌≡◌}
use Rattle.sk_hub.specs.Updaters.{kept_of}
use Rattle.steps.proofs.scale.insist.Given as goal

abbrev pub invariant-again : goal.invariant-again
invariant-again g l = kept_of l.updater ≡ kept_of l.initial.updater
