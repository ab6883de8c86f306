use Rattle.std.proofs.Common.{refl, sym, subst}
use Rattle.sk_cli.specs.Beside.{beside_of}
use Rattle.sk_cli.specs.Outside.{Streams, streams_of}
use Rattle.sk_cli.specs.Run.{Ends}
use Rattle.sk_cli.specs.commands.Quantile.{ranking}
use Rattle.sk_cli.specs.declared.fault.Fault.{Fault}
use Rattle.sk_cli.proofs.Ranking.{rank_ended, rank_finished}
use Rattle.sk_cli.proofs.commands.quantile.quantile.Goals as goal

pub returns-in-Ok-clause-done : goal.returns-in-Ok-clause-done
returns-in-Ok-clause-done g c = λ before after.
    let a : Streams = streams_of g.S.Source g.O.Sink c.args.source.now c.args.out.now in
    let b : Streams = streams_of g.S.Source g.O.Sink c.rank.new.source c.rank.new.out in
    let went = c.in-Ok.ensures.ranks in
    rank_finished c.args.plan.now c.args.most (beside_of before c.args.remains.now) _ a b _ _ refl refl went

pub returns-in-Err-clause-done : goal.returns-in-Err-clause-done
returns-in-Err-clause-done g c = λ before after.
    let a : Streams = streams_of g.S.Source g.O.Sink c.args.source.now c.args.out.now in
    let b : Streams = streams_of g.S.Source g.O.Sink c.rank.new.source c.rank.new.out in
    subst (λ (fault : Fault). Ends (ranking c.args.plan.now) c.args.most (beside_of before c.args.remains.now) (beside_of after c.args.remains.now) a b fault) (sym c.of_reading.ensures)
    (rank_ended c.args.plan.now c.args.most (beside_of before c.args.remains.now) (beside_of after c.args.remains.now) a b c.in-Err.fault c.in-Err.ensures.ranks)
