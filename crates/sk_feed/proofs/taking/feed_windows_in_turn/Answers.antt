use Rattle.std.proofs.Common.{◌≡◌, ◌<◌, ◌≤◌, ◌+◌, length, map, sym, subst, arith}
use Rattle.sk_fill.specs.Blocks.{blocks_of}
use Rattle.sk_hub.specs.Updaters.{UpdaterState, kept_of}
use Rattle.sk_model.specs.Limits.{most_kept}
use Rattle.sk_hub.specs.Calls.{Takes}
use Rattle.sk_feed.specs.Shares.{share}
use Rattle.sk_feed.proofs.Done.{done_none, done_at, done_next, done_all}
use Rattle.sk_feed.proofs.taking.feed_windows_in_turn.Goals as goal

pub updater-init : goal.updater-init
updater-init g c =
    let k = g.C.Composable in let us = c.args.updaters.now.items in
    done_none (λ i (u : UpdaterState) (v : UpdaterState). Takes k.keeps_of k.hint_of u (share c.args.kind (map (λ w. w.lines) c.args.windows.now) (length us) i) v) us

pub feed_blocks-requires-clause-room : goal.feed_blocks-requires-clause-room
feed_blocks-requires-clause-room g c =
    let us = c.args.updaters.now.items in let i = c.updater.i in let u = c.index_mut-updater.result.now in let windows = map (λ w. w.lines) c.args.windows.now in
    let n : c.len-n.result ≡ length us = omega (arith, c.len-n.ensures) in
    let within : i < length us = omega (arith, c.updater-test.true, n) in
    let was = done_at _ us c.updater.updaters.items i u c.updater.invariant within c.index_mut-updater.ensures.value u in
    subst (λ m. length (kept_of u) + length (blocks_of windows i m) ≤ most_kept) (sym n)
    (subst (λ x. length (kept_of x) + length (blocks_of windows i (length us)) ≤ most_kept) (sym was) (c.requires.room i u within))

pub updater-preserved : goal.updater-preserved
updater-preserved g c =
    let k = g.C.Composable in let us = c.args.updaters.now.items in let i = c.updater.i in let u = c.index_mut-updater.result.now in let windows = map (λ w. w.lines) c.args.windows.now in let u' = c.feed_blocks.new.u in
    let n : c.len-n.result ≡ length us = omega (arith, c.len-n.ensures) in
    let within : i < length us = omega (arith, c.updater-test.true, n) in
    let taken = subst (λ m. Takes k.keeps_of k.hint_of u (share c.args.kind windows m i) u') n c.in_ok-feed_blocks.ensures.taken in
    done_next _ us c.updater.updaters.items i u u' c.updater.invariant within c.index_mut-updater.ensures.value taken

pub returns-clause-taken : goal.returns-clause-taken
returns-clause-taken g c =
    let us = c.args.updaters.now.items in
    let n : c.updater.i ≡ length us = omega (arith, c.len-n.ensures, c.updater-test.false) in
    record { count = c.updater.invariant.count; each = done_all _ us c.updater.updaters.items c.updater.i n c.updater.invariant }
