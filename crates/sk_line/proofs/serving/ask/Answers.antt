use Rattle.sk_line.proofs.Updaters.{estimates}
use Rattle.sk_line.proofs.serving.ask.Goals as goal

pub returns : goal.returns
returns g c =
    estimates g.C.Composable.packed_of g.met.C.ThetaWord.packed_is c.args.k c.fraction-n.result.0 c.fraction-n.result.1 c.unpack.result.count c.unpack.result.theta c.ask.result
    c.args.u.now c.ask.new.self c.requires.k c.ask.ensures c.unpack.ensures.value c.fraction-n.ensures.value
