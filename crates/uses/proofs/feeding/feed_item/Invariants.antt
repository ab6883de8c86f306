use Rattle.sk_hub.specs.Calls.{KeepsNone}
use Rattle.uses.proofs.feeding.feed_item.Given as goal

abbrev pub invariant-again : goal.invariant-again
invariant-again g l = KeepsNone l.initial.updater l.updater
