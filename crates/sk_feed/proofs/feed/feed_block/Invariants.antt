use Rattle.std.proofs.Common.{◌≡◌, ℕ, List, ◌≤◌, ◌+◌, ◌-◌, ◌++◌, length, drop, slice_range}
use Rattle.sk_hub.specs.Updaters.{UpdaterState, kept_of}
use Rattle.sk_fill.specs.Windows.{items_in}
use Rattle.sk_hub.specs.Calls.{Takes}
use Rattle.sk_feed.specs.Calls.{filter_of, IsFedEach}
use Rattle.sk_feed.proofs.feed.feed_block.Given as goal
use Rattle.sk_model.specs.Limits.{most_kept}

abbrev pub invariant-line : goal.invariant-line
invariant-line g l = let k = g.C.Composable in record {
  rest : l.lines.rest ≡ drop l.place l.w.lines;
  taken : Takes k.keeps_of k.hint_of l.initial.u (items_in l.kind (slice_range l.w.lines l.from l.place)) l.u;
  room : length (kept_of l.u) + (l.to - l.place) ≤ most_kept;
  leads : (u' : UpdaterState) (items : List ℕ) → IsFedEach (filter_of k.keeps_of k.early_of k.hint_of) l.help l.u items u' → IsFedEach (filter_of k.keeps_of k.early_of k.hint_of) l.help l.initial.u (items_in l.kind (slice_range l.w.lines l.from l.place) ++ items) u';
}
