use Rattle.std.proofs.Common.{◌<◌, refl, arith}
use Rattle.sk_desks.proofs.EvenLaws.{none_up_to, one_more_up_to}
use Rattle.sk_desks.proofs.even.bytes_of_first.Goals as goal

pub line-init : goal.line-init
line-init c = none_up_to c.args.finder.now.names c.args.text.now c.args.most c.args.shape.len

pub line-preserved : goal.line-preserved
line-preserved c =
    let found = c.if-is_of_tenant.ensures in
    let some : 0 < c.args.last = omega (arith, c.line-test.true) in
    one_more_up_to c.args.finder.now.names c.args.text.now c.args.most c.args.shape.len c.line.bytes c.line.invariant c.args.shape.label (omega (arith, c.line-test.true, c.requires.within some))
    (omega (arith, c.line-test.true, c.line.invariant.room, c.requires.room some)) c.requires.label c.requires.item (found.end refl) (found.plain refl) (found.named refl)
