use Rattle.std.proofs.Common.{inl}
use Rattle.sk_read.specs.declared.fault.Fault.TheVariants as fault
use Rattle.sk_feed.specs.Hubs.{hub_of}
use Rattle.sk_tell.specs.Manners.{manner_by}
use Rattle.sk_tell.proofs.FeedingLaws.{nothing_read}
use Rattle.sk_tell.proofs.Finishing.{ended_by, went}
use Rattle.sk_tell.proofs.telling.tell_over.Goals as goal

pub returns-in_err-opened-clause-tells : goal.returns-in_err-opened-clause-tells
returns-in_err-opened-clause-tells g c =
    let s = g.S.Sequential in let telling = c.args.telling.now in
    let manner = manner_by (s.numbers (s.opened telling.setup)) g.Q.Line.line g.Q.Line.lower g.Q.Line.upper telling in
    ended_by _ manner c.args.most _ _ c.from_residual.result fault.OutOfMemory c.from_residual.ensures.1
    (inl (nothing_read _ manner c.args.most (g.I.Source.left c.args.source.now) (g.O.Sink.written c.args.out.now) c.requires.can.window))

pub returns-in-Ok-clause-tells : goal.returns-in-Ok-clause-tells
returns-in-Ok-clause-tells g c =
    let s = g.S.Sequential in let telling = c.args.telling.now in
    went (s.numbers (s.opened telling.setup)) g.Q.Line.line g.Q.Line.lower g.Q.Line.upper telling c.args.most (g.I.Source.left c.args.source.now) (g.I.Source.left c.feed.new.source)
    (g.O.Sink.written c.args.out.now) (g.O.Sink.written c.feed.new.out) (g.O.Sink.written c.finish.new.out) (hub_of c.feed.new.opened) c.feed.new.reader c.requires.can.updaters.0
    _ c.finish.result c.in-Ok.ensures.fed c.finish.ensures.finishes c.finish.ensures.short
