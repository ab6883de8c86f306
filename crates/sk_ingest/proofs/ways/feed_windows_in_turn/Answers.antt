use Rattle.std.proofs.Common.{map, take}
use Rattle.sk_feed.specs.Hubs.{hub_of}
use Rattle.sk_feed.proofs.HubLaws.{hub_took}
use Rattle.sk_feed.proofs.Rooms.{room_at_place}
use Rattle.sk_feed.proofs.Between.{none_fed, fed_next}
use Rattle.sk_ingest.proofs.ways.feed_windows_in_turn.Goals as goal

pub window-init : goal.window-init
window-init g c = let k = g.C.Composable in none_fed c.args.plan.now.propagator k.keeps_of k.hint_of c.args.plan.now.kind (hub_of c.args.opened.now)

pub feed_window-requires-clause-hub : goal.feed_window-requires-clause-hub
feed_window-requires-clause-hub g c =
    let k = g.C.Composable in
    hub_took c.args.plan.now.propagator k.keeps_of k.hint_of c.args.plan.now.kind (take c.window.next (map (λ w. w.lines) c.args.windows.now)) (hub_of c.args.opened.now) (hub_of c.window.opened) c.requires.hub c.window.invariant

pub feed_window-requires-clause-room : goal.feed_window-requires-clause-room
feed_window-requires-clause-room g c =
    let k = g.C.Composable in
    room_at_place k.keeps_of k.hint_of c.args.plan.now.kind c.args.windows.now c.index-windows-next.result c.window.next c.args.opened.now.updaters.items c.window.opened.updaters.items c.window-test.true c.index-windows-next.is c.requires.room c.window.invariant.updaters

pub window-preserved : goal.window-preserved
window-preserved g c =
    let k = g.C.Composable in
    fed_next c.args.plan.now.propagator k.keeps_of k.hint_of c.args.plan.now.kind c.args.windows.now c.index-windows-next.result c.window.next (hub_of c.args.opened.now) (hub_of c.window.opened) (hub_of c.feed_window.new.opened) c.window-test.true c.index-windows-next.is
    c.window.invariant c.in_ok-feed_window.ensures.fed
