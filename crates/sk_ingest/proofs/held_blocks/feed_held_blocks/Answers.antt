use Rattle.std.proofs.Common.{◌≡◌, ◌+◌, ◌<◌, ℕ, List, length, slice_range, ap, subst, ◌∙◌, arith}
use Rattle.sk_fill.specs.Blocks.{place_of}
use Rattle.sk_hub.specs.Calls.{Takes}
use Rattle.sk_feed.proofs.Done.{done_next, done_all}
use Rattle.sk_feed.proofs.HubLaws.{may_go}
use Rattle.sk_ingest.specs.ItemWindows.{items_held, held_block}
use Rattle.sk_ingest.proofs.held_blocks.feed_held_blocks.Goals as goal

pub updater-preserved : goal.updater-preserved
updater-preserved g c =
    let k = g.C.Composable in let inv = c.updater.invariant in let held : List ℕ = c.args.held.now in let us = c.args.updaters.now.items in let i = c.updater.i in let u' = c.feed_held.new.u in
    let n : c.len-n.result ≡ length us = omega (arith, c.len-n.ensures) in
    let within : i < length us = omega (arith, c.updater-test.true, n) in
    let from : c.of-block.result.from ≡ place_of (length held) i (length us) = c.of-block.ensures.from ∙ ap (place_of (length held) i) n in
    let to : c.of-block.result.to ≡ place_of (length held) (i + 1) (length us) = c.of-block.ensures.to ∙ ap (place_of (length held) (i + 1)) n in
    let taken : Takes k.keeps_of k.hint_of c.index_mut-updater.result.now (items_held (held_block held i (length us))) u'
    = subst (λ p. Takes k.keeps_of k.hint_of c.index_mut-updater.result.now (items_held (slice_range held p (place_of (length held) (i + 1) (length us)))) u') from
    (subst (λ p. Takes k.keeps_of k.hint_of c.index_mut-updater.result.now (items_held (slice_range held c.of-block.result.from p)) u') to c.in_ok-feed_held.ensures.taken) in
    record {
      fed = done_next _ us c.updater.updaters.items i c.index_mut-updater.result.now u' inv.fed within c.index_mut-updater.ensures.value taken;
      heart = may_go c.args.plan.now.propagator c.args.heart.now c.updater.heart c.feed_held.new.heart inv.heart c.feed_held.ensures.heart;
    }

pub returns-clause-taken : goal.returns-clause-taken
returns-clause-taken g c =
    let inv = c.updater.invariant in let us = c.args.updaters.now.items in
    let n : c.updater.i ≡ length us = omega (arith, c.len-n.ensures, c.updater-test.false) in
    record { count = inv.fed.count; each = done_all _ us c.updater.updaters.items c.updater.i n inv.fed }
