use Rattle.std.proofs.Common.{◌≡◌, ◌<◌, ℕ, List, ◌++◌, length, set, take, slice_range, subst, arith}
use Rattle.std.proofs.lemmas.List.{length-map, length-take, take_all}
use Rattle.sk_lines.specs.Spans.{lines_at}
use Rattle.sk_lines.specs.declared.spans.Span.{Span}
use Rattle.sk_read.specs.declared.fault.Fault.TheVariants as fault
use Rattle.sk_feed.specs.Hubs.{hub_of}
use Rattle.sk_ingest.specs.Takers.{UnitsWent, unreported}
use Rattle.sk_ingest.proofs.OneByOneLaws.{lines_taken, stops_at_bad, stops_for_memory}
use Rattle.sk_fill.proofs.Readings.{if_err_is}
use Rattle.sk_ingest.proofs.one_by_one.take_lines.Goals as goal

count_lines : (spans : List Span) (text : List ℕ) → length (lines_at spans text) ≡ length spans
count_lines spans text = length-map spans (λ (span : Span). slice_range text span.from span.to)

pub returns-in_err-feed_items-clause-stopped : goal.returns-in_err-feed_items-clause-stopped
returns-in_err-feed_items-clause-stopped g c = if_err_is c.from_residual.result fault.OutOfMemory _ c.from_residual.ensures.1
    (λ a units count went.
    let k = g.C.Composable in let found = c.gather-found in let lines = lines_at c.args.spans.now c.args.text.now in
    let some : 0 < length lines
    = omega (arith, c.in_err-feed_items.ensures.some, length-take found.result.items found.new.kept, found.ensures.items, found.ensures.lines, count_lines c.args.spans.now c.args.text.now) in
    stops_for_memory (unreported k.keeps_of k.hint_of c.args.plan.now) units lines a (hub_of c.args.opened.now) tt tt some went)

pub returns-then-found-spans-clause-stopped : goal.returns-then-found-spans-clause-stopped
returns-then-found-spans-clause-stopped g c = λ a units count went.
    let k = g.C.Composable in let plan = c.args.plan.now in let found = c.gather-found in let lines = lines_at c.args.spans.now c.args.text.now in let hub = hub_of c.args.opened.now in let u' = c.feed_items.new.u in
    let within : found.result.lines < length lines = omega (arith, c.if-found-spans.true, count_lines c.args.spans.now c.args.text.now) in
    let front = take found.result.lines lines in
    let fed = lines_taken k.keeps_of k.hint_of plan units front (take found.result.items found.new.kept) c.hint.result a hub c.feed_items.new.heart c.index_mut-updater.result.now u' went c.requires.alone found.ensures.good
    c.feed_items.ensures.heart c.index_mut-updater.ensures.value c.hint.ensures.hint found.ensures.kept c.in_ok-feed_items.ensures.taken in
    stops_at_bad (unreported k.keeps_of k.hint_of plan) units lines c.args.before found.result.lines a (record { heart = c.feed_items.new.heart; updaters = set hub.updaters 0 u'; token = hub.token }) tt tt count within
    (found.ensures.bad c.if-found-spans.true) fed

pub returns-clause-went : goal.returns-clause-went
returns-clause-went g c = λ a units count went.
    let k = g.C.Composable in let plan = c.args.plan.now in let found = c.gather-found in let lines = lines_at c.args.spans.now c.args.text.now in let hub = hub_of c.args.opened.now in let u' = c.feed_items.new.u in
    let front = take found.result.lines lines in
    let all : front ≡ lines = take_all found.result.lines lines (omega (arith, c.if-found-spans.false, count_lines c.args.spans.now c.args.text.now)) in
    let fed = lines_taken k.keeps_of k.hint_of plan units front (take found.result.items found.new.kept) c.hint.result a hub c.feed_items.new.heart c.index_mut-updater.result.now u' went c.requires.alone found.ensures.good
    c.feed_items.ensures.heart c.index_mut-updater.ensures.value c.hint.ensures.hint found.ensures.kept c.in_ok-feed_items.ensures.taken in
    subst (λ l. UnitsWent (unreported k.keeps_of k.hint_of plan) (units ++ l) a tt (record { heart = c.feed_items.new.heart; updaters = set hub.updaters 0 u'; token = hub.token }) tt) all fed
