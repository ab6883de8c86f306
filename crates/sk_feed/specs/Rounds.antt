-- What it means that the blocks of a window were fed, one to each updater.
use Rattle.std.specs.Prelude.{◌≡◌, ℕ, Bool, ◌+◌, ◌<◌, ◌≤◌, List, length, take, slice_index_or}
use Rattle.sk_fill.specs.Blocks.{block_of, blocks_of}
use Rattle.sk_model.specs.Entries.{Entry}
use Rattle.sk_hub.specs.Updaters.{UpdaterState, kept_of}
use Rattle.sk_read.specs.declared.kind.Kind.{Kind}
use Rattle.sk_fill.specs.Windows.{items_in}
use Rattle.sk_hub.specs.Calls.{Takes}
use Rattle.sk_model.specs.Limits.{most_kept}

-- for how many updaters there is room
pub record FeedersState : Type 0 where
  pub most : ℕ

-- each updater has room for its block
abbrev pub HaveRoom : List (List ℕ) → List UpdaterState → Type 0
HaveRoom lines us = (i : ℕ) (d : UpdaterState) → i < length us → length (kept_of (slice_index_or us i d)) + length (block_of lines i (length us)) ≤ most_kept

-- each updater has room for its blocks of windows
abbrev pub HaveRoomFor : List (List (List ℕ)) → List UpdaterState → Type 0
HaveRoomFor windows us = (i : ℕ) (d : UpdaterState) → i < length us → length (kept_of (slice_index_or us i d)) + length (blocks_of windows i (length us)) ≤ most_kept

-- no updater has kept more than one item each of this many units, the rest not counted
abbrev pub HaveFew : ℕ → List (List ℕ) → List UpdaterState → Type 0
HaveFew count rest us = (i : ℕ) (d : UpdaterState) → i < length us → length (kept_of (slice_index_or us i d)) + length rest ≤ count

-- it took the items of the first of these lines
abbrev pub TakesFront : (ℕ → ℕ → Bool) → (List ℕ → List Entry → ℕ) → Kind → List (List ℕ) → UpdaterState → UpdaterState → Type 0
TakesFront keeps hint_of kind lines u u' = (n : ℕ) × (n ≤ length lines) × Takes keeps hint_of u (items_in kind (take n lines)) u'

-- each updater took the items of its block
abbrev pub TakeBlocks : (ℕ → ℕ → Bool) → (List ℕ → List Entry → ℕ) → Kind → List (List ℕ) → List UpdaterState → List UpdaterState → Type 0
TakeBlocks keeps hint_of kind lines us us' = (i : ℕ) (d : UpdaterState) → i < length us
    → Takes keeps hint_of (slice_index_or us i d) (items_in kind (block_of lines i (length us))) (slice_index_or us' i d)

-- each took the items of the first lines of its block
pub record TakeFronts (keeps : ℕ → ℕ → Bool) (hint_of : List ℕ → List Entry → ℕ) (kind : Kind) (lines : List (List ℕ)) (us us' : List UpdaterState) : Type 0 where
  pub count : length us' ≡ length us
  pub each : (i : ℕ) (d : UpdaterState) → i < length us → TakesFront keeps hint_of kind (block_of lines i (length us)) (slice_index_or us i d) (slice_index_or us' i d)
