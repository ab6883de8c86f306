use Rattle.std.proofs.Common.{◌≡◌, ◌+◌, length, map, slice_range, ap, subst, ◌∙◌, arith}
use Rattle.sk_fill.specs.Blocks.{place_of, block_of}
use Rattle.sk_fill.specs.Windows.{items_in}
use Rattle.sk_hub.specs.Calls.{Takes}
use Rattle.sk_feed.proofs.Rounds.{block_length}
use Rattle.sk_feed.proofs.Rooms.{sets_out, has_room, goes_on_its_way}
use Rattle.sk_feed.proofs.feeder.feed_blocks.Goals as goal

pub window-init : goal.window-init
window-init g c = let k = g.C.Composable in sets_out k.keeps_of k.hint_of c.args.kind (map (λ w. w.lines) c.args.windows.now) c.args.i c.args.n c.args.u.now c.requires.room

pub feed_whole-requires-clause-room : goal.feed_whole-requires-clause-room
feed_whole-requires-clause-room g c =
    let k = g.C.Composable in let i = c.args.i in let n = c.args.n in let w = c.index-windows-at.result in
    let from : c.of-block.result.from ≡ place_of (length w.lines) i n = c.of-block.ensures.from ∙ ap (λ m. place_of m i n) c.len.ensures.value in
    let to : c.of-block.result.to ≡ place_of (length w.lines) (i + 1) n = c.of-block.ensures.to ∙ ap (λ m. place_of m (i + 1) n) c.len.ensures.value in
    let room = has_room k.keeps_of k.hint_of c.args.kind c.args.windows.now w i n c.window.at c.args.u.now c.window.u c.window-test.true c.index-windows-at.is c.window.invariant in
    omega (arith, room, block_length w.lines i n c.requires.within, from, to)

pub window-preserved : goal.window-preserved
window-preserved g c =
    let k = g.C.Composable in let i = c.args.i in let n = c.args.n in let w = c.index-windows-at.result in let u = c.window.u in let u' = c.feed_whole.new.u in
    let from : c.of-block.result.from ≡ place_of (length w.lines) i n = c.of-block.ensures.from ∙ ap (λ m. place_of m i n) c.len.ensures.value in
    let to : c.of-block.result.to ≡ place_of (length w.lines) (i + 1) n = c.of-block.ensures.to ∙ ap (λ m. place_of m (i + 1) n) c.len.ensures.value in
    let taken : Takes k.keeps_of k.hint_of u (items_in c.args.kind (block_of w.lines i n)) u'
    = subst (λ p. Takes k.keeps_of k.hint_of u (items_in c.args.kind (slice_range w.lines p (place_of (length w.lines) (i + 1) n))) u') from
    (subst (λ p. Takes k.keeps_of k.hint_of u (items_in c.args.kind (slice_range w.lines c.of-block.result.from p)) u') (c.in_ok-place.ensures.all ∙ to) c.in_ok-place.ensures.taken) in
    goes_on_its_way k.keeps_of k.hint_of c.args.kind c.args.windows.now w i n c.window.at c.args.u.now u u' c.window-test.true c.index-windows-at.is c.window.invariant taken
