use Rattle.std.proofs.Common.{◌≡◌, ◌+◌, ◌<◌, true, length, slice_range, refl, ap, subst, ◌∙◌, arith}
use Rattle.sk_fill.specs.Blocks.{place_of, block_of}
use Rattle.sk_fill.specs.Windows.{items_in}
use Rattle.sk_hub.specs.Calls.{Takes}
use Rattle.sk_feed.specs.Calls.{filter_of, IsFedEach}
use Rattle.sk_feed.specs.declared.propagation.Propagation.TheVariants.{AfterEachItem}
use Rattle.sk_feed.proofs.Done.{done_none, done_next, done_all}
use Rattle.sk_feed.proofs.Shares.{one_window}
use Rattle.sk_feed.proofs.HubLaws.{heart_waits, heart_goes}
use Rattle.sk_feed.proofs.turns.feed_in_turn.Goals as goal

pub updater-init : goal.updater-init
updater-init g c =
    let us = c.args.updaters.now.items in
    record { fed = done_none _ us; each = λ is. done_none _ us; heart = heart_waits c.args.heart.now; quiet = λ other. refl }

pub updater-preserved : goal.updater-preserved
updater-preserved g c =
    let k = g.C.Composable in let inv = c.updater.invariant in let lines = c.args.window.now.lines in let us = c.args.updaters.now.items in let i = c.updater.i in let u' = c.feed_through.new.u in
    let n : c.len-n.result ≡ length us = omega (arith, c.len-n.ensures) in
    let within : i < length us = omega (arith, c.updater-test.true, n) in
    let from : c.of-block.result.from ≡ place_of (length lines) i (length us) = c.of-block.ensures.from ∙ ap (λ m. place_of m i c.len-n.result) c.len.ensures.value ∙ ap (place_of (length lines) i) n in
    let to : c.of-block.result.to ≡ place_of (length lines) (i + 1) (length us) = c.of-block.ensures.to ∙ ap (λ m. place_of m (i + 1) c.len-n.result) c.len.ensures.value ∙ ap (place_of (length lines) (i + 1)) n in
    let taken : Takes k.keeps_of k.hint_of c.index_mut-updater.result.now (items_in c.args.kind (block_of lines i (length us))) u'
    = subst (λ p. Takes k.keeps_of k.hint_of c.index_mut-updater.result.now (items_in c.args.kind (slice_range lines p (place_of (length lines) (i + 1) (length us)))) u') from
    (subst (λ p. Takes k.keeps_of k.hint_of c.index_mut-updater.result.now (items_in c.args.kind (slice_range lines c.of-block.result.from p)) u') to c.in_ok-feed_through.ensures.taken) in
    let f = filter_of k.keeps_of k.early_of k.hint_of in
    let each : c.args.by ≡ AfterEachItem → IsFedEach f true c.index_mut-updater.result.now (items_in c.args.kind (block_of lines i (length us))) u'
    = λ is. subst (λ p. IsFedEach f true c.index_mut-updater.result.now (items_in c.args.kind (slice_range lines p (place_of (length lines) (i + 1) (length us)))) u') from
    (subst (λ p. IsFedEach f true c.index_mut-updater.result.now (items_in c.args.kind (slice_range lines c.of-block.result.from p)) u') to (c.in_ok-feed_through.ensures.each is)) in
    record {
      each = λ is. done_next _ us c.updater.updaters.items i c.index_mut-updater.result.now u' (inv.each is) within c.index_mut-updater.ensures.value (each is);
      quiet = λ other. c.feed_through.ensures.quiet other ∙ inv.quiet other;
      fed = done_next _ us c.updater.updaters.items i c.index_mut-updater.result.now u' inv.fed within c.index_mut-updater.ensures.value taken;
      heart = heart_goes c.args.heart.now c.updater.heart c.feed_through.new.heart inv.heart c.feed_through.ensures.heart;
    }

pub returns-in_err-feed_through-clause-quiet : goal.returns-in_err-feed_through-clause-quiet
returns-in_err-feed_through-clause-quiet g c = λ other. c.feed_through.ensures.quiet other ∙ c.updater.invariant.quiet other

pub returns-clause-each : goal.returns-clause-each
returns-clause-each g c = λ is.
    let inv = c.updater.invariant in let us = c.args.updaters.now.items in
    let n : c.updater.i ≡ length us = omega (arith, c.len-n.ensures, c.updater-test.false) in
    record { count = inv.fed.count; each = done_all _ us c.updater.updaters.items c.updater.i n (inv.each is) }

pub returns-clause-taken : goal.returns-clause-taken
returns-clause-taken g c =
    let k = g.C.Composable in let inv = c.updater.invariant in let us = c.args.updaters.now.items in
    let n : c.updater.i ≡ length us = omega (arith, c.len-n.ensures, c.updater-test.false) in
    one_window k.keeps_of k.hint_of c.args.kind c.args.window.now.lines us c.updater.updaters.items inv.fed.count (done_all _ us c.updater.updaters.items c.updater.i n inv.fed)
