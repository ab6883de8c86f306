use Rattle.std.proofs.Common.{rules, refl, sym, ap, subst}
use Rattle.sk_cli.specs.Beside.{Beside, SameRanks, beside_of}
use Rattle.sk_cli.specs.declared.remains.Remains.{Remains}
use Rattle.sk_cli.specs.Outside.{Streams, streams_of}
use Rattle.sk_cli.specs.Run.{Ends}
use Rattle.sk_cli.specs.commands.Count.{counting}
use Rattle.sk_cli.specs.declared.fault.Fault.{Fault}
use Rattle.sk_count.specs.Counts.{Setting, setting}
use Rattle.sk_cli.proofs.Counting.{count_ended, count_finished}
use Rattle.sk_cli.proofs.CountPlaces.{places_left}
use Rattle.sk_cli.proofs.Moves.{counting_causes}
use Rattle.sk_cli.proofs.WatcherLaws.{none_left}
use Rattle.sk_cli.proofs.commands.count.count.Goals as goal

pub returns-in-Ok-clause-done : goal.returns-in-Ok-clause-done
returns-in-Ok-clause-done g c =
    let a : Streams = streams_of g.S.Source g.O.Sink c.args.source.now c.args.out.now in
    let b : Streams = streams_of g.S.Source g.O.Sink c.count.new.source c.count.new.out in
    let from : Beside = beside_of (g.B.Seen.places c.args.board.now) c.args.remains.now in
    let to : Beside = beside_of (g.B.Seen.places c.count.new.board) c.put_counted.new.self in
    let went = c.in-Ok.ensures.counts in
    count_finished c.args.plan.now c.args.most from to a b c.in-Ok.left (ap (λ (r : Remains _). r.heart) c.put_counted.ensures) (ap (λ (r : Remains _). r.token) c.put_counted.ensures) went.0 went.1

pub returns-in-Err-clause-done : goal.returns-in-Err-clause-done
returns-in-Err-clause-done g c =
    let a : Streams = streams_of g.S.Source g.O.Sink c.args.source.now c.args.out.now in
    let b : Streams = streams_of g.S.Source g.O.Sink c.count.new.source c.count.new.out in
    let from : Beside = beside_of (g.B.Seen.places c.args.board.now) c.args.remains.now in
    let to : Beside = beside_of (g.B.Seen.places c.count.new.board) c.args.remains.now in
    subst (λ (fault : Fault). Ends (counting c.args.plan.now) c.args.most from to a b fault) (sym c.of_reading.ensures)
    (count_ended c.args.plan.now c.args.most from to a b c.in-Err.fault c.in-Err.ensures.counts)

pub returns-in-Err-clause-causes : goal.returns-in-Err-clause-causes
returns-in-Err-clause-causes g c =
    let a : Streams = streams_of g.S.Source g.O.Sink c.args.source.now c.args.out.now in
    let b : Streams = streams_of g.S.Source g.O.Sink c.count.new.source c.count.new.out in
    counting_causes a b c.args.plan.now.column c.count.result c.in-Err.fault c.of_reading.result c.in-Err.is c.of_reading.ensures c.count.ensures.reads c.count.ensures.writes

pub returns-in-Ok-clause-beside : goal.returns-in-Ok-clause-beside
returns-in-Ok-clause-beside g c =
    let plan = c.args.plan.now in
    let old : Setting = setting (g.S.Source.left c.args.source.now) (g.O.Sink.written c.args.out.now) (g.B.Seen.places c.args.board.now) in
    let new : Setting = setting (g.S.Source.left c.count.new.source) (g.O.Sink.written c.count.new.out) (g.B.Seen.places c.count.new.board) in
    let left = places_left plan c.args.most old new _ c.count.result c.count.ensures.counts in
    let ranks : SameRanks c.args.remains.now c.put_counted.new.self = search rules in
    record { board = none_left plan.k plan.alarms old.places new.places left.0 left.1; remains = tt; leaves = ranks }

pub returns-in-Err-clause-beside : goal.returns-in-Err-clause-beside
returns-in-Err-clause-beside g c =
    let plan = c.args.plan.now in
    let old : Setting = setting (g.S.Source.left c.args.source.now) (g.O.Sink.written c.args.out.now) (g.B.Seen.places c.args.board.now) in
    let new : Setting = setting (g.S.Source.left c.count.new.source) (g.O.Sink.written c.count.new.out) (g.B.Seen.places c.count.new.board) in
    let left = places_left plan c.args.most old new _ c.count.result c.count.ensures.counts in
    record { board = none_left plan.k plan.alarms old.places new.places left.0 left.1; remains = refl; leaves = (refl, refl) }
