use Rattle.std.proofs.Common.{sym, subst, arith}
use Rattle.sk_cli.specs.Outside.{Streams, streams_of}
use Rattle.sk_cli.specs.Run.{Ends}
use Rattle.sk_cli.specs.commands.Tally.{tallying}
use Rattle.sk_cli.specs.declared.fault.Fault.{Fault}
use Rattle.sk_cli.proofs.Tallying.{tally_ended, tally_finished}
use Rattle.sk_cli.proofs.commands.tally.tally.Goals as goal

pub returns-in-Ok-clause-done : goal.returns-in-Ok-clause-done
returns-in-Ok-clause-done g c = λ from to.
    let a : Streams = streams_of g.S.Source g.O.Sink c.args.source.now c.args.out.now in
    let b : Streams = streams_of g.S.Source g.O.Sink c.tally.new.source c.tally.new.out in
    tally_finished c.args.plan.now c.args.most from to a b (omega (arith, c.requires.within.updaters.0)) c.in-Ok.ensures.tallies

pub returns-in-Err-clause-done : goal.returns-in-Err-clause-done
returns-in-Err-clause-done g c = λ from to.
    let a : Streams = streams_of g.S.Source g.O.Sink c.args.source.now c.args.out.now in
    let b : Streams = streams_of g.S.Source g.O.Sink c.tally.new.source c.tally.new.out in
    subst (λ (fault : Fault). Ends (tallying c.args.plan.now) c.args.most from to a b fault) (sym c.of_reading.ensures)
    (tally_ended c.args.plan.now c.args.most from to a b c.in-Err.fault c.in-Err.ensures.tallies)
