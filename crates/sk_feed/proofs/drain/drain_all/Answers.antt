use Rattle.std.proofs.Common.{ap, ◌∙◌}
use Rattle.sk_feed.proofs.Drained.{asked, has_all}
use Rattle.sk_feed.proofs.drain.drain_all.Goals as goal

pub returns-clause-drained : goal.returns-clause-drained
returns-clause-drained g c =
    let k = g.C.Composable in
    asked k.packed_of c.args.heart.now c.take_in_all.new.heart c.ask.new.self c.args.updaters.items c.ask.result c.in_ok-take_in_all.ensures.drained c.ask.ensures.reply c.ask.ensures.stays

pub returns-clause-seen : goal.returns-clause-seen
returns-clause-seen g c =
    let k = g.C.Composable in
    has_all k.packed_of c.args.heart.now c.take_in_all.new.heart c.ask.new.self c.args.updaters.items c.ask.result c.in_ok-take_in_all.ensures.drained c.requires.all c.admitted-admitted.ensures.whole.sized c.ask.ensures.reply c.ask.ensures.drained

pub returns-clause-word : goal.returns-clause-word
returns-clause-word g c =
    let k = g.C.Composable in
    c.ask.ensures.reply.value ∙ ap (λ numbers. k.packed_of numbers c.ask.new.self.view.seen) c.in_ok-take_in_all.ensures.drained.numbers
