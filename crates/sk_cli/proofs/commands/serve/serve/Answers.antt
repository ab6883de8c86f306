use Rattle.std.proofs.Common.{rules, refl}
use Rattle.sk_cli.specs.Beside.{SameRanks}
use Rattle.sk_serve.specs.Around.{Surroundings, surroundings}
use Rattle.sk_cli.proofs.Serving.{none_served}
use Rattle.sk_cli.proofs.commands.serve.serve.Goals as goal

pub returns-in-Ok-clause-beside : goal.returns-in-Ok-clause-beside
returns-in-Ok-clause-beside g c =
    let old : Surroundings = surroundings (g.O.Sink.written c.args.out.now) (g.B.Seen.places c.args.board.now) (g.D.Door.doorway c.args.door.now) in
    let new : Surroundings = surroundings (g.O.Sink.written c.serve.new.out) (g.B.Seen.places c.serve.new.board) (g.D.Door.doorway c.serve.new.door) in
    let ranks : SameRanks c.args.remains.now c.put_counted.new.self = search rules in
    record { board = none_served c.args.plan.now c.args.most old new c.serve.result c.serve.ensures.serves; remains = tt; leaves = ranks }

pub returns-in-Err-clause-beside : goal.returns-in-Err-clause-beside
returns-in-Err-clause-beside g c =
    let old : Surroundings = surroundings (g.O.Sink.written c.args.out.now) (g.B.Seen.places c.args.board.now) (g.D.Door.doorway c.args.door.now) in
    let new : Surroundings = surroundings (g.O.Sink.written c.serve.new.out) (g.B.Seen.places c.serve.new.board) (g.D.Door.doorway c.serve.new.door) in
    record { board = none_served c.args.plan.now c.args.most old new c.serve.result c.serve.ensures.serves; remains = refl; leaves = (refl, refl) }
