use Rattle.std.proofs.Common.{take, map}
use Rattle.sk_feed.specs.Hubs.{hub_of, FeedsWindows}
use Rattle.sk_ingest.proofs.ways.feed_windows_in_turn.Given as goal

abbrev pub invariant-window : goal.invariant-window
invariant-window g l = let k = g.C.Composable in FeedsWindows l.plan.propagator k.keeps_of k.hint_of l.plan.kind (take l.next (map (λ w. w.lines) l.windows)) (hub_of l.initial.opened) (hub_of l.opened)
