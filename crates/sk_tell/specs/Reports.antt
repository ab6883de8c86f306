-- What a report of an interim line does, by what it shows.
use Rattle.std.specs.Prelude.{◌≡◌, ℕ, ◌<◌, ◌≤◌, List, length, Option, slice_index_or}
use Rattle.std.specs.Io.KnownBytes.{Appends}
use Rattle.sk_model.specs.Causes.{AppendsPart}
use Rattle.sk_hub.specs.Updaters.{UpdaterState}
use Rattle.sk_feed.specs.Hubs.{Hub}
use Rattle.sk_ingest.specs.declared.report.Stop.{Stop}
use Rattle.sk_ingest.specs.declared.report.Stop.TheVariants.{Failed, OutOfMemory}
use Rattle.sk_snap.specs.Versions.{Learnt, items_in}
use Rattle.sk_learn.specs.Learning.{ReaderGoesOn, Knows}
use Rattle.sk_tell.specs.Texts.{interim_line}

-- what a report shows: what it asks, what its reader knows, and what its sink was written
pub record Showing (Q : Type 0) : Type 0 where
  pub query : Q
  pub reader : Learnt
  pub written : Option (List ℕ)

abbrev pub showing : {Q : Type 0} → Q → Learnt → Option (List ℕ) → Showing Q
showing query reader written = record { query = query; reader = reader; written = written }

-- what is due after a number of units
abbrev pub due_line : {Q : Type 0} → (Q → List ℕ → List ℕ → List ℕ) → ℕ → Q → Learnt → List ℕ
due_line line lines query reader = interim_line lines (line query reader.numbers (items_in reader.known))

-- the reader learnt the told value of each updater of a hub
pub record LearnsHub (r : Learnt) (us : List UpdaterState) (s : Learnt) : Type 0 where
  pub goes : ReaderGoesOn r s
  pub knows : (i : ℕ) (d : UpdaterState) → i < length us → Knows s (slice_index_or us i d)

-- it did, and the line of what it then knew was written
pub record Reports {Q : Type 0} (line : Q → List ℕ → List ℕ → List ℕ) (lower upper : Q → List ℕ → List ℕ → ℕ) (r : Showing Q) (lines : ℕ) (a b : Hub) (s : Showing Q) : Type 0 where
  pub query : s.query ≡ r.query
  pub learns : LearnsHub r.reader a.updaters s.reader
  pub holds : lower r.query s.reader.numbers (items_in s.reader.known) ≤ upper r.query s.reader.numbers (items_in s.reader.known)
  pub written : Appends r.written s.written (due_line line lines r.query s.reader)

-- it did, and of that line a part was written
pub record Breaks {Q : Type 0} (line : Q → List ℕ → List ℕ → List ℕ) (lower upper : Q → List ℕ → List ℕ → ℕ) (r : Showing Q) (lines : ℕ) (a b : Hub) (s : Showing Q) : Type 0 where
  pub learns : LearnsHub r.reader a.updaters s.reader
  pub holds : lower r.query s.reader.numbers (items_in s.reader.known) ≤ upper r.query s.reader.numbers (items_in s.reader.known)
  pub written : AppendsPart r.written s.written (due_line line lines r.query s.reader)

-- it stops if a write failed, and for nothing else
abbrev pub BreaksBy : {Q : Type 0} → (Q → List ℕ → List ℕ → List ℕ) → (Q → List ℕ → List ℕ → ℕ) → (Q → List ℕ → List ℕ → ℕ) → Showing Q → Stop → ℕ → Hub → Hub → Showing Q → Type 0
BreaksBy line lower upper r Failed lines a b s = Breaks line lower upper r lines a b s
BreaksBy line lower upper r OutOfMemory lines a b s = ⊥
