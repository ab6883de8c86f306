use Rattle.std.proofs.Common.{◌≡◌, ◌<◌, length, Some, refl, sym, ◌∙◌, rules}
use Rattle.std.proofs.lemmas.List.{length-set}
use Rattle.sk_read.specs.Items.{item_of}
use Rattle.sk_feed.specs.Hubs.{hub_of}
use Rattle.sk_ingest.specs.Takers.{unreported}
use Rattle.sk_feed.proofs.HubLaws.{may_wait}
use Rattle.sk_ingest.proofs.OneByOneLaws.{unit_by_itself, one_took, none_took}
use Rattle.sk_fill.proofs.Units.{filled, good_item, good_empty}
use Rattle.sk_ingest.proofs.one_by_one.take_unit.Goals as goal

pub returns-then-is_empty-clause-went : goal.returns-then-is_empty-clause-went
returns-then-is_empty-clause-went g c = λ a units count went.
    let k = g.C.Composable in let kind = c.args.plan.now.kind in let hub = hub_of c.args.opened.now in
    let none : length c.args.unit.now ≡ 0 = search rules in
    unit_by_itself (unreported k.keeps_of k.hint_of c.args.plan.now) units c.args.unit.now a hub hub tt tt went (good_empty kind c.args.unit.now none) c.requires.alone.least c.requires.alone.unreported c.requires.alone.one
    (may_wait c.args.plan.now.propagator hub.heart) refl refl (none_took k.keeps_of k.hint_of kind c.args.unit.now hub.updaters none)

pub returns-in_ok-feed_one-in-Some-clause-went : goal.returns-in_ok-feed_one-in-Some-clause-went
returns-in_ok-feed_one-in-Some-clause-went g c = λ a units count went.
    let k = g.C.Composable in let kind = c.args.plan.now.kind in let hub = hub_of c.args.opened.now in let us = hub.updaters in let u' = c.feed_one.new.u in
    let some : 0 < length c.args.unit.now = filled c.args.unit.now c.is_empty.result c.is_empty.ensures c.if-is_empty.false in
    let is : item_of kind c.args.unit.now ≡ Some c.in-Some.item = sym c.item.ensures.value ∙ c.in-Some.is in
    unit_by_itself (unreported k.keeps_of k.hint_of c.args.plan.now) units c.args.unit.now a hub _ tt tt went (good_item kind c.args.unit.now c.in-Some.item is) c.requires.alone.least c.requires.alone.unreported c.requires.alone.one
    c.feed_one.ensures.heart refl (length-set us 0 u') (one_took k.keeps_of k.hint_of kind c.args.unit.now c.in-Some.item us c.index_mut-updater.result.now u' c.requires.alone.one c.index_mut-updater.ensures.value some is c.in_ok-feed_one-in-Some.ensures.taken)
