use Rattle.std.proofs.Common.{◌≡◌, ◌<◌, ◌≤◌, ◌+◌, ℕ, length, get_or, refl, sym, subst, OnOk}
use Rattle.sk_model.specs.Limits.{most_kept}
use Rattle.sk_hub.specs.Updaters.{UpdaterState, kept_of}
use Rattle.sk_feed.specs.Hubs.{hub_of}
use Rattle.sk_feed.proofs.Rounds.{ok_then}
use Rattle.sk_ingest.specs.ItemWindows.{AreHeld, TakeHeld, held_block}
use Rattle.sk_ingest.proofs.ItemWindows.{are_held, held_room, held_fed}
use Rattle.sk_ingest.proofs.held_blocks.feed_held_window.Goals as goal

pub feed_held_blocks-requires-clause-items : goal.feed_held_blocks-requires-clause-items
feed_held_blocks-requires-clause-items g c = let known = c.requires.room in subst AreHeld (sym c.items.ensures.items) (are_held c.args.plan.now.kind known.0 c.args.window.now known.1)

pub feed_held_blocks-requires-clause-room : goal.feed_held_blocks-requires-clause-room
feed_held_blocks-requires-clause-room g c =
    let known = c.requires.room in let us = c.args.opened.now.updaters.items in
    subst (λ held. (i : ℕ) (d : UpdaterState) → i < length us → length (kept_of (get_or us i d)) + length (held_block held i (length us)) ≤ most_kept) (sym c.items.ensures.items)
    (held_room c.args.plan.now.kind known.0 c.args.window.now us known.1 known.2)

pub returns : goal.returns
returns g c =
    let k = g.C.Composable in let us = c.args.opened.now.updaters.items in let us' = c.feed_held_blocks.new.updaters.items in
    record {
      fed = ok_then c.feed_held_blocks.result (subst (λ held. OnOk c.feed_held_blocks.result (TakeHeld k.keeps_of k.hint_of held us us')) c.items.ensures.items c.feed_held_blocks.ensures.taken)
          (λ taken. λ units holds. record {
            heart = c.feed_held_blocks.ensures.heart;
            updaters = held_fed k.keeps_of k.hint_of c.args.plan.now.kind units c.args.window.now us us' holds taken;
            token = refl;
          });
    }
