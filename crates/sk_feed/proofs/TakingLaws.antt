-- Windows that an updater takes, or all updaters of a hub.
use Rattle.std.proofs.Common.{ℕ, ◌+◌, ◌<◌, ◌≤◌, Bool, List, [], ◌++◌, length, get_or, sym, subst, arith}
use Rattle.sk_model.specs.Entries.{Entry}
use Rattle.sk_model.specs.Limits.{most_kept}
use Rattle.sk_hub.specs.Updaters.{UpdaterState, kept_of}
use Rattle.sk_read.specs.declared.kind.Kind.{Kind}
use Rattle.sk_fill.specs.Blocks.{blocks_of}
use Rattle.sk_fill.specs.Windows.{all_lines}
use Rattle.sk_hub.specs.Calls.{Takes}
use Rattle.sk_feed.specs.Rounds.{HaveFew}
use Rattle.sk_feed.specs.Shares.{share, TakeShares}
use Rattle.sk_feed.specs.Takings.{TakesOn}
use Rattle.sk_feed.proofs.Rooms.{few_shares, few_blocks}
use Rattle.sk_feed.proofs.Shares.{share_append, add_up}
use Rattle.sk_hub.proofs.Calls.{takes_trans, takes_few}

module _ (keeps : ℕ → ℕ → Bool) (hint_of : List ℕ → List Entry → ℕ) (kind : Kind) (windows : List (List (List ℕ))) where
  -- what it took before, and its share of these
  pub share_on : (i n : ℕ) (u v : UpdaterState) → Takes keeps hint_of u (share kind windows n i) v → TakesOn (λ x y ws. Takes keeps hint_of x (share kind ws n i) y) u windows v
  share_on i n u v taken = λ start before so.
      subst (λ l. Takes keeps hint_of start l v) (sym (share_append kind before windows n i)) (takes_trans keeps hint_of start u v (share kind before n i) (share kind windows n i) so taken)

  pub shares_on : (us vs : List UpdaterState) → TakeShares keeps hint_of kind windows us vs → (start : List UpdaterState) (before : List (List (List ℕ))) → TakeShares keeps hint_of kind before start us → TakeShares keeps hint_of kind (before ++ windows) start vs
  shares_on us vs taken = λ start before so. add_up keeps hint_of kind before windows start us vs so taken

  -- it has kept no more than these have lines
  pub share_few : (i n : ℕ) (u v : UpdaterState) → i < n → Takes keeps hint_of u (share kind windows n i) v → (count : ℕ) → length (kept_of u) ≤ count → length (kept_of v) ≤ count + length (all_lines windows)
  share_few i n u v within taken = λ count few.
      let more = takes_few keeps hint_of u v (share kind windows n i) taken in omega (arith, more, few_shares kind windows n i, few_blocks windows n i within)

  pub shares_few : (us vs : List UpdaterState) → TakeShares keeps hint_of kind windows us vs → (count : ℕ) → HaveFew count [] us → HaveFew (count + length (all_lines windows)) [] vs
  shares_few us vs taken = λ count few i d within.
      let inside : i < length us = omega (arith, taken.count) in
      let here = few i d inside in
      let now = share_few i (length us) (get_or us i d) (get_or vs i d) inside (taken.each i d inside) count (omega arith) in
      omega arith

-- there is room for them
pub room_of_few : (windows : List (List (List ℕ))) (i n count : ℕ) (u : UpdaterState) → i < n → length (kept_of u) ≤ count → count + length (all_lines windows) ≤ most_kept → length (kept_of u) + length (blocks_of windows i n) ≤ most_kept
room_of_few windows i n count u within few most = omega (arith, few_blocks windows n i within)
