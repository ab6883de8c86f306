use Rattle.sk_tell.specs.Endings.{setting, TellsAll}
use Rattle.sk_tell.proofs.Finishing.{reads_so}
use Rattle.sk_tally.specs.Plans.{tally_manner}
use Rattle.sk_tally.specs.Headline.{WritesTally}
use Rattle.sk_tally.proofs.Totals.{writes_tally}
use Rattle.sk_tally.proofs.tallying.tally.Goals as goal

pub returns-clause-tallies : goal.returns-clause-tallies
returns-clause-tallies g c =
    let plan = c.args.plan.now in
    let left = g.S.Source.left c.args.source.now in let left' = g.S.Source.left c.tell.new.source in
    let w = g.O.Sink.written c.args.out.now in let w' = g.O.Sink.written c.tell.new.out in
    let handles = c.in_ok-_handles._handles in
    reads_so plan.column c.args.most (TellsAll (tally_manner plan) (setting left w) (setting left' w') handles.0 handles.1) (WritesTally plan (setting left w) (setting left' w')) left left'
    (λ units all. writes_tally plan (setting left w) (setting left' w') handles.0 handles.1 units c.requires.within.updaters.0 all) c.in_ok-_handles.ensures.tells
