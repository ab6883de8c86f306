use Rattle.std.proofs.Common.{◌≡◌, ◌<◌, length, refl, ap, ◌∙◌, arith}
use Rattle.sk_model.specs.Sketch.{packed_of}
use Rattle.sk_compose.specs.Numbers.{k_of}
use Rattle.sk_read.specs.Items.{items_by}
use Rattle.sk_read.specs.Units.{units_by, units_of}
use Rattle.sk_fill.specs.Windows.{all_lines, items_in}
use Rattle.sk_feed.specs.Hubs.{hub_of}
use Rattle.sk_fill.proofs.Items.{good_items}
use Rattle.sk_feed.proofs.New.{new_hub, new_have_kept_none, named_so}
use Rattle.sk_ingest.proofs.word.word_of_source.Goals as goal

pub ingest-requires-clause-hub : goal.ingest-requires-clause-hub
ingest-requires-clause-hub g c κs within =
    let k = g.C.Composable in let o = c.in_ok-opened.opened in let made = c.in_ok-opened.ensures in
    new_hub k.hint_of _ o.heart o.updaters.items made.updaters _ (k.numbers c.args.global) (k.name c.args.global) _ o.token made.heart made.token made.count

pub ingest-requires-clause-fresh : goal.ingest-requires-clause-fresh
ingest-requires-clause-fresh g c κs within =
    let k = g.C.Composable in let o = c.in_ok-opened.opened in
    new_have_kept_none k.hint_of _ o.heart o.updaters.items c.in_ok-opened.ensures.updaters o.heart.view.numbers refl

pub ingest-requires-clause-sketch : goal.ingest-requires-clause-sketch
ingest-requires-clause-sketch g c κs within = named_so (g.P.Report.sketch c.args.report.now) _ _ c.in_ok-opened.ensures.heart.name_is c.requires.sketch

pub drain_all-requires-clause-table : goal.drain_all-requires-clause-table
drain_all-requires-clause-table g c = λ i d within. (c.in_ok-ingest.ensures.ok.gave.hub.updaters i d within).table

pub drain_all-requires-clause-numbers : goal.drain_all-requires-clause-numbers
drain_all-requires-clause-numbers g c = λ i d within. (c.in_ok-ingest.ensures.ok.gave.hub.updaters i d within).number

pub drain_all-requires-clause-all : goal.drain_all-requires-clause-all
drain_all-requires-clause-all g c = c.in_ok-ingest.ensures.ok.gave.hub.count

pub returns-clause-word : goal.returns-clause-word
returns-clause-word g c =
    let k = g.C.Composable in let plan = c.args.plan.now in let o = c.in_ok-opened.opened in let numbers = o.heart.view.numbers in
    let a = hub_of o in let b = hub_of c.ingest.new.opened in let r = c.args.report.now in let s = c.ingest.new.report in
    let all = c.in_ok-ingest.ensures.ok in let units = units_of (units_by plan.column) all.taken in let i = all.gave in
    let kept = c.ingested_units_are_kept.ensures.kept plan units a b r s i in let windows = kept.0 in
    let seen = c.drain_all.new.heart.view.seen in
    let some : 0 < length o.updaters.items = omega (arith, c.in_ok-opened.ensures.count, c.n-updaters.ensures.value, c.n-updaters.ensures.limits.0) in
    let same : b.heart.view.numbers ≡ numbers = ap (λ v. v.numbers) (c.ingested_units_are_kept.ensures.heart plan units a b r s i).knows.view in
    let law = c.the_word_is_of_all_that_was_taken.ensures numbers seen plan.kind windows o.updaters.items b.updaters some (new_have_kept_none k.hint_of _ o.heart o.updaters.items c.in_ok-opened.ensures.updaters numbers refl) kept.2 c.in_ok-drain_all.ensures.seen in
    let items : items_in plan.kind (all_lines windows) ≡ items_by plan.kind units = ap (items_in plan.kind) kept.1 ∙ good_items plan.kind units i.goes.good in
    (all.taken, all.consumed, all.end, c.in_ok-drain_all.ensures.word ∙ ap (λ n. k.packed_of n seen) same ∙ law ∙ ap (λ l. packed_of (k_of numbers) l) items ∙ ap (λ n. packed_of (k_of n) (items_by plan.kind units)) c.in_ok-opened.ensures.heart.numbers_are)
