use Rattle.std.proofs.Common.{ℕ, ◌+◌, ◌≤◌, length, take, subst, arith, length-take}
use Rattle.std.proofs.lemmas.Result.{on_ok_weaker}
use Rattle.sk_hub.specs.Calls.{Takes}
use Rattle.sk_feed.proofs.Filtered.{takes_all}
use Rattle.sk_ingest.specs.ItemWindows.{items_held}
use Rattle.sk_ingest.proofs.held_blocks.feed_group.Goals as goal

pub feed_items-requires-clause-room : goal.feed_items-requires-clause-room
feed_items-requires-clause-room g c = omega (arith, c.requires.room, c.keep_items-count.ensures.few, length-take c.keep_items-count.result c.keep_items-count.new.kept)

pub returns-clause-taken : goal.returns-clause-taken
returns-clause-taken g c =
    let k = g.C.Composable in let u = c.args.u.now in let u' = c.feed_items.new.u in
    on_ok_weaker c.feed_items.result
    (λ taken. takes_all k.keeps_of k.hint_of u u' c.hint.result (items_held c.args.held.now) c.hint.ensures.hint (subst (λ l. Takes k.keeps_of k.hint_of u l u') c.keep_items-count.ensures.kept taken))
    c.feed_items.ensures.taken
