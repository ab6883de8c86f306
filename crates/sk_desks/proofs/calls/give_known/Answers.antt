use Rattle.std.proofs.Common.{◌≡◌, true, false}
use Rattle.sk_desks.proofs.LookLaws.{labelled_item}
use Rattle.sk_desks.proofs.Taking.{insisted}
use Rattle.sk_desks.proofs.calls.give_known.Goals as goal

pub returns-then-not-filters : goal.returns-then-not-filters
returns-then-not-filters g c =
    labelled_item c.args.seed c.args.desk.now c.args.text.now c.args.span.from c.args.span.to c.args.label c.args.tenant c.hash63_at-item.result c.requires.order c.requires.within c.requires.tenants c.requires.tenant
    c.hash63_at-item.ensures.value c.insist.new.desk c.insist.ensures

pub returns-else-not-filters : goal.returns-else-not-filters
returns-else-not-filters g c =
    labelled_item c.args.seed c.args.desk.now c.args.text.now c.args.span.from c.args.span.to c.args.label c.args.tenant c.hash63_at-item.result c.requires.order c.requires.within c.requires.tenants c.requires.tenant
    c.hash63_at-item.ensures.value c.args.desk.now
    (insisted c.args.desk.now c.args.desk.now c.args.tenant c.hash63_at-item.result true (c.filters.ensures.done c.if-not-filters.false) (λ (over : true ≡ false). cc))
