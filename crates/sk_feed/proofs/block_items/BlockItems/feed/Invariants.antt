use Rattle.std.proofs.Common.{◌≡◌, ℕ, List, ◌+◌, ◌≤◌, length}
use Rattle.sk_model.specs.Limits.{most_kept}
use Rattle.sk_hub.specs.Updaters.{UpdaterState, kept_of}
use Rattle.sk_feed.specs.OnItsWay.{IsOnItsWay}
use Rattle.sk_feed.proofs.block_items.BlockItems.feed.Given as goal

abbrev pub invariant-group : goal.invariant-group
invariant-group g l = let k = g.C.Composable in record {
  room : length (kept_of l.u) + (length l.self.waiting + length l.self.rest) ≤ most_kept;
  kind : l.self.kind ≡ l.initial.self.kind;
  way : (lines : List (List ℕ)) (start : UpdaterState) → IsOnItsWay k.keeps_of k.hint_of lines start l.initial.u l.initial.self → IsOnItsWay k.keeps_of k.hint_of lines start l.u l.self;
}

abbrev pub decreases-group : goal.decreases-group
decreases-group g l = length l.self.rest
