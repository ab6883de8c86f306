use Rattle.std.proofs.Common.{map}
use Rattle.sk_feed.proofs.TakingLaws.{share_on, share_few, room_of_few}
use Rattle.sk_feed.proofs.taking.UpdaterTakesStretches.take.Goals as goal

pub feed_blocks-requires-clause-room : goal.feed_blocks-requires-clause-room
feed_blocks-requires-clause-room g c =
    let room = c.requires.room in room_of_few (map (λ w. w.lines) c.args.windows.now) c.args.i c.args.n room.0 c.args.self.now c.requires.within room.1 room.2

pub returns-clause-took : goal.returns-clause-took
returns-clause-took g c =
    let k = g.C.Composable in share_on k.keeps_of k.hint_of c.args.kind (map (λ w. w.lines) c.args.windows.now) c.args.i c.args.n c.args.self.now c.feed_blocks.new.u c.in_ok-feed_blocks.ensures.taken

pub returns-clause-kept : goal.returns-clause-kept
returns-clause-kept g c =
    let k = g.C.Composable in share_few k.keeps_of k.hint_of c.args.kind (map (λ w. w.lines) c.args.windows.now) c.args.i c.args.n c.args.self.now c.feed_blocks.new.u c.requires.within c.in_ok-feed_blocks.ensures.taken
