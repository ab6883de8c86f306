-- How a reader continues, and what it learns of updaters.
use Rattle.std.specs.Prelude.{◌≡◌, ℕ, ◌<◌, ◌≤◌, List, length, true, false, slice_index_or}
use Rattle.sk_model.specs.Entries.{entries_by}
use Rattle.sk_model.specs.Missing.{Begins}
use Rattle.sk_hub.specs.Updaters.{UpdaterState, earlier_of}
use Rattle.sk_snap.specs.History.{entries_in}
use Rattle.sk_snap.specs.Versions.{Learnt}

-- the reader of the same sketch, which knows as much or more
pub record ReaderGoesOn (r s : Learnt) : Type 0 where
  pub grows : Begins (entries_in r.known) (entries_in s.known)
  pub numbers : s.numbers ≡ r.numbers
  pub book : s.known.book ≡ r.known.book

-- if an updater holds a told value, the reader knows all but its last hand, which was of one buffer at most
pub record Knows (s : Learnt) (u : UpdaterState) : Type 0 where
  pub told : u.news ≡ true → Begins (earlier_of u) (entries_by u.number (entries_in s.known))
  pub last : u.last ≤ u.size
  pub fill : length u.fill ≤ u.size

-- the reader learnt the told value of this updater
pub record LearnsOf (r : Learnt) (u : UpdaterState) (s : Learnt) : Type 0 where
  pub goes : ReaderGoesOn r s
  pub knows : Knows s u

-- the told value of each of the first n
pub record LearnsFirst (r : Learnt) (us : List UpdaterState) (n : ℕ) (s : Learnt) : Type 0 where
  pub goes : ReaderGoesOn r s
  pub knows : (i : ℕ) (d : UpdaterState) → i < n → Knows s (slice_index_or us i d)

-- the updater, of which the told value was taken
abbrev pub untold : UpdaterState → UpdaterState
untold u = record u { news = false }

-- it was taken of each of the first n
pub record AreAsked (us : List UpdaterState) (n : ℕ) (us' : List UpdaterState) : Type 0 where
  pub count : length us' ≡ length us
  pub first : (i : ℕ) (d : UpdaterState) → i < n → slice_index_or us' i d ≡ untold (slice_index_or us i d)
  pub others : (i : ℕ) (d : UpdaterState) → n ≤ i → slice_index_or us' i d ≡ slice_index_or us i d
