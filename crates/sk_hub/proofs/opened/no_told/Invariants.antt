use Rattle.std.proofs.Common.{◌≡◌, None, replicate}
use Rattle.sk_hub.proofs.opened.no_told.Given as goal

abbrev pub invariant-told : goal.invariant-told
invariant-told g l = l.told.items ≡ replicate l.counter None
