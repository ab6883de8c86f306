use Rattle.std.proofs.Common.{◌≡◌, take}
use Rattle.sk_cms.specs.Tallies.{put_all}
use Rattle.sk_cms.proofs.versioned.put_items.Given as goal

abbrev pub invariant-put : goal.invariant-put
invariant-put l = l.sketch ≡ put_all l.initial.sketch (take l.x-index l.items)
