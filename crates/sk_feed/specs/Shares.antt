-- What each updater took, window after window, and a list that has all that they kept.
use Rattle.std.specs.Prelude.{◌≡◌, ℕ, ◌<◌, Bool, true, List, [], ◌++◌, length, slice_index_or, flat_map, All}
use Rattle.sk_model.specs.Entries.{Entry, entries_by}
use Rattle.sk_model.specs.Missing.{Begins}
use Rattle.sk_compose.specs.Kept.{AreKept}
use Rattle.sk_hub.specs.Updaters.{UpdaterState, base_of, kept_of}
use Rattle.sk_read.specs.declared.kind.Kind.{Kind}
use Rattle.sk_fill.specs.Windows.{items_in}
use Rattle.sk_fill.specs.Blocks.{block_of}
use Rattle.sk_hub.specs.Calls.{KeepsNone, Takes}
use Rattle.sk_feed.specs.Calls.{Filter, IsFedEach}

-- what updater i of n takes of windows, in order: the items of its block of each
unfoldable pub share : Kind → List (List (List ℕ)) → ℕ → ℕ → List ℕ
share kind windows n i = flat_map (λ lines. items_in kind (block_of lines i n)) windows

-- each updater took its share of these windows
pub record TakeShares (keeps : ℕ → ℕ → Bool) (hint_of : List ℕ → List Entry → ℕ) (kind : Kind) (windows : List (List (List ℕ))) (us us' : List UpdaterState) : Type 0 where
  pub count : length us' ≡ length us
  pub each : (i : ℕ) (d : UpdaterState) → i < length us → Takes keeps hint_of (slice_index_or us i d) (share kind windows (length us) i) (slice_index_or us' i d)

-- each updater was fed the items of its block one by one, and helped after each that it kept while it was eager
pub record AreFedEach (f : Filter) (kind : Kind) (lines : List (List ℕ)) (us us' : List UpdaterState) : Type 0 where
  pub count : length us' ≡ length us
  pub each : (i : ℕ) (d : UpdaterState) → i < length us → IsFedEach f true (slice_index_or us i d) (items_in kind (block_of lines i (length us))) (slice_index_or us' i d)

-- each updater continues, and has kept nothing more
pub record KeepNone (us us' : List UpdaterState) : Type 0 where
  pub count : length us' ≡ length us
  pub each : (i : ℕ) (d : UpdaterState) → i < length us → KeepsNone (slice_index_or us i d) (slice_index_or us' i d)

-- the same updater, which of these items, in order, has kept each that is not filtered by its base. A told value
-- may have been taken from it
pub record KeepsMore (keeps : ℕ → ℕ → Bool) (hint_of : List ℕ → List Entry → ℕ) (u : UpdaterState) (items : List ℕ) (u' : UpdaterState) : Type 0 where
  pub number : u'.number ≡ u.number
  pub size : u'.size ≡ u.size
  pub table : u'.table ≡ u.table
  pub numbers : u'.view.numbers ≡ u.view.numbers
  pub base : Begins (base_of u) (base_of u')
  pub more : List ℕ
  pub kept : kept_of u' ≡ kept_of u ++ more
  pub of_items : AreKept keeps (hint_of u.view.numbers) (base_of u') items more

-- each updater has kept what is not filtered of its share of these windows
pub record KeepShares (keeps : ℕ → ℕ → Bool) (hint_of : List ℕ → List Entry → ℕ) (kind : Kind) (windows : List (List (List ℕ))) (us us' : List UpdaterState) : Type 0 where
  pub count : length us' ≡ length us
  pub each : (i : ℕ) (d : UpdaterState) → i < length us → KeepsMore keeps hint_of (slice_index_or us i d) (share kind windows (length us) i) (slice_index_or us' i d)

-- they have kept nothing yet, and are of a sketch with these numbers
abbrev pub HaveKeptNone : List ℕ → List UpdaterState → Type 0
HaveKeptNone numbers us = All (λ u. (u.view.numbers ≡ numbers) × (kept_of u ≡ [])) us

-- the list begins with each updater's base, and has exactly what they kept
pub record HasAllOf (list : List Entry) (us : List UpdaterState) : Type 0 where
  pub bases : (i : ℕ) (d : UpdaterState) → i < length us → Begins (base_of (slice_index_or us i d)) list
  pub kept : (i : ℕ) (d : UpdaterState) → i < length us → entries_by i list ≡ kept_of (slice_index_or us i d)
  pub only : All (λ entry. entry.0 < length us) list
