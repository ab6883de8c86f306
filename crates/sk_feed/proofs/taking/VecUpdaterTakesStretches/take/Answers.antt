use Rattle.std.proofs.Common.{◌≤◌, map, sym, subst}
use Rattle.sk_model.specs.Limits.{most_updaters}
use Rattle.sk_feed.proofs.Rooms.{room_for}
use Rattle.sk_feed.proofs.TakingLaws.{shares_on, shares_few}
use Rattle.sk_feed.proofs.taking.VecUpdaterTakesStretches.take.Goals as goal

pub feed_windows_in_turn-requires-clause-most : goal.feed_windows_in_turn-requires-clause-most
feed_windows_in_turn-requires-clause-most g c = c.requires.room.1.0

pub feed_windows_in_turn-requires-clause-room : goal.feed_windows_in_turn-requires-clause-room
feed_windows_in_turn-requires-clause-room g c =
    let room = c.requires.room in room_for (map (λ w. w.lines) c.args.windows.now) room.0 c.args.self.now.items room.1.1 room.2

pub returns-clause-took : goal.returns-clause-took
returns-clause-took g c =
    let k = g.C.Composable in
    λ start before so. shares_on k.keeps_of k.hint_of c.args.kind (map (λ w. w.lines) c.args.windows.now) c.args.self.now.items c.feed_windows_in_turn.new.updaters.items c.in_ok-feed_windows_in_turn.ensures.taken start.items before so

pub returns-clause-kept : goal.returns-clause-kept
returns-clause-kept g c =
    let k = g.C.Composable in let taken = c.in_ok-feed_windows_in_turn.ensures.taken in
    λ count kept. (
      subst (λ n. n ≤ most_updaters) (sym taken.count) kept.0,
      shares_few k.keeps_of k.hint_of c.args.kind (map (λ w. w.lines) c.args.windows.now) c.args.self.now.items c.feed_windows_in_turn.new.updaters.items taken count kept.1,
    )
