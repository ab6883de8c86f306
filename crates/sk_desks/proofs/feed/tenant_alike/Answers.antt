use Rattle.std.proofs.Common.{◌+◌, arith}
use Rattle.sk_desks.proofs.LikeLaws.{tenant_labelled, its_found, its_plain}
use Rattle.sk_desks.proofs.feed.tenant_alike.Goals as goal

pub returns-clause-label : goal.returns-clause-label
returns-clause-label c =
    let names = c.args.names.now in let run = c.args.run.now in let at = c.args.at in let lengths = c.args.lengths in
    tenant_labelled names run at (at + lengths.line) lengths.label (omega arith) (omega (arith, c.requires.line, c.requires.within)) c.requires.label (omega (arith, c.requires.item)) c.if-run-at-ne32.false c.place.result
    (its_found names c.finder.result.names run at c.finder.result.len lengths.label c.place.result c.finder.ensures.names c.finder.ensures.len c.place.ensures.found)
    (its_plain names c.finder.result.names run at c.finder.result.len lengths.label c.place.result c.finder.ensures.names c.finder.ensures.len c.place.ensures.plain)
