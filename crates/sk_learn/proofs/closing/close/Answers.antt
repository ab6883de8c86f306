use Rattle.std.proofs.Common.{sym, subst}
use Rattle.sk_snap.specs.Versions.{items_in}
use Rattle.sk_learn.proofs.ClosingLaws.{closed}
use Rattle.sk_learn.proofs.closing.close.Goals as goal

pub read_whole-requires : goal.read_whole-requires
read_whole-requires g c =
    record { fits = subst (g.Q.Query.fits c.args.query) (sym c.in_ok-take_in_all.ensures.all.goes.numbers) c.requires.fits }

pub returns-clause-closed : goal.returns-clause-closed
returns-clause-closed g c =
    closed c.args.heart.now c.take_in_all.new.heart c.args.updaters.now.items c.args.reader.now c.take_in_all.new.reader c.read_whole.new.reader c.take_in_all.new.taken
    c.requires.apart c.in_ok-take_in_all.ensures.all c.in_ok-take_in_all.ensures.count c.read_whole.ensures.goes c.read_whole.ensures.total

pub returns-clause-gives : goal.returns-clause-gives
returns-clause-gives g c =
    subst (λ numbers. g.Q.Query.gives c.args.query numbers (items_in c.read_whole.new.reader.known) c.read_whole.result) c.in_ok-take_in_all.ensures.all.goes.numbers c.read_whole.ensures.gives
