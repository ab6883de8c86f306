use Rattle.std.proofs.Common.{arith}
use Rattle.sk_desks.proofs.LikeLaws.{tenant_fine, tenant_labelled, its_found, its_plain}
use Rattle.sk_desks.proofs.examined.tenant_like.Goals as goal

pub returns-clause-fine : goal.returns-clause-fine
returns-clause-fine c =
    tenant_fine c.args.names.now c.args.text.now c.args.from c.args.to c.args.label c.requires.order c.requires.within (omega (arith, c.if-label-eq0.false)) (omega (arith, c.if-saturating_sub-lt2.false, c.saturating_sub.ensures)) c.if-text-from-ne32.false
    c.place.result
    (its_found c.args.names.now c.finder-finder.result.names c.args.text.now c.args.from c.finder-finder.result.len c.args.label c.place.result c.finder-finder.ensures.names c.finder-finder.ensures.len c.place.ensures.found)
    (its_plain c.args.names.now c.finder-finder.result.names c.args.text.now c.args.from c.finder-finder.result.len c.args.label c.place.result c.finder-finder.ensures.names c.finder-finder.ensures.len c.place.ensures.plain)

pub returns-clause-label : goal.returns-clause-label
returns-clause-label c =
    tenant_labelled c.args.names.now c.args.text.now c.args.from c.args.to c.args.label c.requires.order c.requires.within (omega (arith, c.if-label-eq0.false)) (omega (arith, c.if-saturating_sub-lt2.false, c.saturating_sub.ensures)) c.if-text-from-ne32.false
    c.place.result
    (its_found c.args.names.now c.finder-finder.result.names c.args.text.now c.args.from c.finder-finder.result.len c.args.label c.place.result c.finder-finder.ensures.names c.finder-finder.ensures.len c.place.ensures.found)
    (its_plain c.args.names.now c.finder-finder.result.names c.args.text.now c.args.from c.finder-finder.result.len c.args.label c.place.result c.finder-finder.ensures.names c.finder-finder.ensures.len c.place.ensures.plain)
