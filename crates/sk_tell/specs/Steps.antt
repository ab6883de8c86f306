-- How far a telling is between two windows, and what it says of windows that were fed and reported.
use Rattle.std.specs.Prelude.{◌≡◌, ℕ, ◌<◌, false, List, length, All, slice_index_or}
use Rattle.std.specs.Io.KnownBytes.{Appends}
use Rattle.sk_model.specs.Entries.{Entry, entries_by}
use Rattle.sk_model.specs.Missing.{Begins}
use Rattle.sk_hub.specs.Updaters.{UpdaterState, kept_of, earlier_of}
use Rattle.sk_feed.specs.Hubs.{Hub}
use Rattle.sk_snap.specs.History.{entries_in}
use Rattle.sk_learn.specs.Learning.{ReaderGoesOn}
use Rattle.sk_tell.specs.Manners.{Manner, share_of}
use Rattle.sk_tell.specs.Moments.{Moment}
use Rattle.sk_tell.specs.Reports.{Showing}
use Rattle.sk_tell.specs.Texts.{interim_text}

-- updater i has kept its share of these windows; if it has no told value, what it handed over before its last buffer is
-- in the list
pub record Took (manner : Manner) (windows : List (List (List ℕ))) (list : List Entry) (i : ℕ) (u : UpdaterState) : Type 0 where
  pub number : u.number ≡ i
  pub kept : kept_of u ≡ share_of manner windows i
  pub size : u.size ≡ manner.size
  pub knows : u.news ≡ false → Begins (earlier_of u) (entries_by i list)

-- after these windows, the last list that was read being this one; this is what it asks
pub record Stands {Q : Type 0} (manner : Manner) (query : Q) (windows : List (List (List ℕ))) (last : List Entry) (a : Hub) (r : Showing Q) : Type 0 where
  pub count : length a.updaters ≡ manner.updaters
  pub took : (i : ℕ) (d : UpdaterState) → i < length a.updaters → Took manner windows (entries_in r.reader.known) i (slice_index_or a.updaters i d)
  pub query_is : r.query ≡ query
  pub numbers : r.reader.numbers ≡ manner.numbers
  pub began : Begins last (entries_in r.reader.known)

-- how windows were fed and reported, from one hub and report to others; these are all windows so far
pub record Passes {Q : Type 0} (manner : Manner) (query : Q) (windows : List (List (List ℕ))) (r : Showing Q) (b : Hub) (s : Showing Q) : Type 0 where
  pub moments : List Moment
  pub written : Appends r.written s.written (interim_text manner moments)
  pub goes : ReaderGoesOn r.reader s.reader
  pub seen : All (λ m. Begins m.list (entries_in s.reader.known)) moments
  pub last : List Entry
  pub stands : Stands manner query windows last b s
