-- What updaters that were fed have kept, and what a reader next to them says.
use Rattle.std.specs.Prelude.{◌≡◌, ℕ, ◌*◌, ◌<◌, List, [], length, slice_index_or, false}
use Rattle.sk_model.specs.Entries.{Entry, items_of_entries, entries_by}
use Rattle.sk_model.specs.Missing.{LacksAtMost}
use Rattle.sk_hub.specs.Hearts.{HeartState}
use Rattle.sk_hub.specs.Updaters.{UpdaterState, kept_of, earlier_of}
use Rattle.sk_cms.specs.Tallies.{IsTally}

-- updater i of a hub, whose buffers have room for this many items, kept these items, in order. Unless it holds a told
-- value, it handed over nothing before its last hand
pub record HasKept (h : HeartState) (size i : ℕ) (items : List ℕ) (u : UpdaterState) : Type 0 where
  pub number : u.number ≡ i
  pub table : u.table ≡ h.table
  pub name : u.view.name ≡ h.view.name
  pub size_is : u.size ≡ size
  pub kept : kept_of u ≡ items
  pub told : u.news ≡ false → earlier_of u ≡ []

-- each updater kept the items of its stream
pub record HaveKept (h : HeartState) (size : ℕ) (streams : List (List ℕ)) (us : List UpdaterState) : Type 0 where
  pub count : length us ≡ length streams
  pub each : (i : ℕ) (d : UpdaterState) → i < length us → HasKept h size i (slice_index_or streams i []) (slice_index_or us i d)

-- a tally of a list that lacks of each stream at most the last two buffers
pub record IsTallyMeanwhile (x rows width size : ℕ) (streams : List (List ℕ)) (n least : ℕ) : Type 0 where
  pub list : List Entry
  pub tally : IsTally x rows width (items_of_entries list) n least
  pub lacks : (i : ℕ) → i < length streams → LacksAtMost (slice_index_or streams i []) (entries_by i list) (2 * size)
