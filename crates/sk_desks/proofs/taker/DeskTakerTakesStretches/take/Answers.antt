use Rattle.std.proofs.Common.{map}
use Rattle.sk_fill.specs.Windows.{WindowState}
use Rattle.sk_desks.proofs.LaneLaws.{takes_on, room_on, room_now}
use Rattle.sk_desks.proofs.taker.DeskTakerTakesStretches.take.Goals as goal

pub feed_blocks-requires-clause-room : goal.feed_blocks-requires-clause-room
feed_blocks-requires-clause-room g c = let room = c.requires.room in room_now room.0 (map (λ (w : WindowState). w.lines) c.args.windows.now) c.args.self.now.desk room.1 room.2

pub returns-clause-took : goal.returns-clause-took
returns-clause-took g c =
    takes_on c.args.kind c.args.i c.args.n (map (λ (w : WindowState). w.lines) c.args.windows.now) c.args.self.now.desk c.feed_blocks.new.desk c.seed_of.result c.seed_of.ensures c.feed_blocks.ensures

pub returns-clause-kept : goal.returns-clause-kept
returns-clause-kept g c = λ count room.
    room_on c.seed_of.result count (map (λ (w : WindowState). w.lines) c.args.windows.now) c.args.i c.args.n c.args.self.now.desk c.feed_blocks.new.desk c.requires.within room c.feed_blocks.ensures
