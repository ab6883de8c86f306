use Rattle.std.proofs.Common.{inl}
use Rattle.sk_read.specs.declared.fault.Fault.TheVariants as fault
use Rattle.sk_feed.specs.Hubs.{hub_of}
use Rattle.sk_tell.proofs.FeedingLaws.{nothing_read}
use Rattle.sk_tally.specs.Plans.{tally_manner}
use Rattle.sk_tally.proofs.WholeLaws.{ended_with, out_of_memory, went}
use Rattle.sk_tally.proofs.whole.tally_whole.Goals as goal

pub returns-in_err-opened-clause-tallies : goal.returns-in_err-opened-clause-tallies
returns-in_err-opened-clause-tallies g c =
    let plan = c.args.plan.now in
    ended_with _ plan c.args.most _ _ c.from_residual.result fault.OutOfMemory c.from_residual.ensures.1
    (inl (nothing_read _ (tally_manner plan) c.args.most (g.S.Source.left c.args.source.now) (g.O.Sink.written c.args.out.now) c.requires.within.window))

pub returns-in_err-feed-clause-tallies : goal.returns-in_err-feed-clause-tallies
returns-in_err-feed-clause-tallies g c =
    ended_with _ c.args.plan.now c.args.most _ _ c.from_residual-in_err-feed.result c.in_err-feed.field-0.0 c.from_residual-in_err-feed.ensures.1 (c.in_err-feed.ensures.early (g.O.Sink.written c.args.out.now))

pub returns-in_err-tally-clause-tallies : goal.returns-in_err-tally-clause-tallies
returns-in_err-tally-clause-tallies g c =
    let plan = c.args.plan.now in
    ended_with _ plan c.args.most _ _ c.from_residual-in_err-tally.result fault.OutOfMemory c.from_residual-in_err-tally.ensures.1
    (out_of_memory _ plan c.args.most (hub_of c.in_ok-opened.opened) (hub_of c.feed.new.opened) (g.S.Source.left c.args.source.now) (g.S.Source.left c.feed.new.source) (g.O.Sink.written c.args.out.now) c.in_ok-feed.ensures.fed)

pub returns-clause-tallies : goal.returns-clause-tallies
returns-clause-tallies g c =
    went _ c.args.plan.now c.requires.within.updaters.0 c.args.most (hub_of c.in_ok-opened.opened) (hub_of c.feed.new.opened) c.in_ok-opened.ensures.numbers c.in_ok-tally.tally.n c.in_ok-tally.tally.least c.in_ok-tally.ensures
    (g.S.Source.left c.args.source.now) (g.S.Source.left c.feed.new.source) (g.O.Sink.written c.args.out.now) (g.O.Sink.written c.write_last.new.out) c.in_ok-feed.ensures.fed
    c.write_last.result c.write_last.ensures.ok c.write_last.ensures.part c.write_last.ensures.fault
