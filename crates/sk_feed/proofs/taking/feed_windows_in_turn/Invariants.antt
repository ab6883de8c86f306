use Rattle.std.proofs.Common.{length, map}
use Rattle.sk_hub.specs.Calls.{Takes}
use Rattle.sk_feed.specs.Shares.{share}
use Rattle.sk_feed.proofs.Done.{DoneTo}
use Rattle.sk_feed.proofs.taking.feed_windows_in_turn.Given as goal

abbrev pub invariant-updater : goal.invariant-updater
invariant-updater g l = let k = g.C.Composable in let us = l.fn.updaters.items in
    DoneTo (λ i u v. Takes k.keeps_of k.hint_of u (share l.kind (map (λ w. w.lines) l.windows) (length us) i) v) us l.updaters.items l.i
