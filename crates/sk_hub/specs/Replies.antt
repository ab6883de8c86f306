-- What an ask is worth (the r-relaxation of Rinberg and others, PPoPP 2020, for each updater).
use Rattle.std.specs.Prelude.{◌≡◌, ◌≢◌, ℕ, ◌+◌, ◌*◌, ◌==◌, if◌then◌else◌, List, [], ◌∷◌, ◌++◌, length, All, Contains}
use Rattle.sk_model.specs.Entries.{Entry, entries_by}
use Rattle.sk_model.specs.Missing.{Begins, LacksAtMost}
use Rattle.sk_machine.specs.Coarse.{IsEntry}
use Rattle.sk_machine.specs.declared.views.Move.TheVariants.{Ask}
use Rattle.sk_machine.specs.declared.views.Post.TheVariants.{Guest}
use Rattle.sk_machine.specs.declared.views.Duty.TheVariants.{Free}
use Rattle.sk_machine.specs.declared.views.View.{View}
use Rattle.sk_gate.specs.Views.{known_of, size_of}
use Rattle.sk_gate.specs.Hands.{TokenState}
use Rattle.sk_hub.specs.Updaters.{UpdaterState, handed_of, kept_of}

-- ---- a token or a note

-- of the updaters of its table it knows how many there are
pub record IsReading (r : TokenState) : Type 0 where
  pub post : r.view.post ≡ Guest
  pub duty : r.view.duty ≡ Free
  pub slots : r.table.slots ≡ length r.view.sizes + 1

-- a size that is known, of two that are 0 where they are not known
abbrev pub known_size : ℕ → ℕ → ℕ
known_size first second = if first == 0 then second else first

-- ---- replies

-- the word is that of one list, which begins with all that was seen, and lacks of what each updater is known to have
-- handed over at most one buffer
pub record IsRelaxedReply (packed_of : List ℕ → List Entry → ℕ) (v : View) (word : ℕ) (w : View) : Type 0 where
  pub grows : Begins v.seen w.seen
  -- they are items of the table's updaters
  pub entries : All (IsEntry (length v.sizes)) w.seen
  pub value : word ≡ packed_of v.numbers w.seen
  pub lacks : (i : ℕ) → known_of v i ≢ [] → LacksAtMost (known_of v i) (entries_by i w.seen) (size_of v i)
  pub stays : w ≡ record v { seen = w.seen; steps = v.steps ++ Ask word ∷ [] }

-- an updater's own reply lacks of what it handed over at most one buffer, and of what it kept at most two
pub record IsOwnReply (packed_of : List ℕ → List Entry → ℕ) (u : UpdaterState) (word : ℕ) (u' : UpdaterState) : Type 0 where
  pub grows : Begins u.view.seen u'.view.seen
  pub entries : All (IsEntry (length u.view.sizes)) u'.view.seen
  -- of its own it sees only such as it handed over
  pub own : Begins (entries_by u.number u'.view.seen) (handed_of u)
  pub value : word ≡ packed_of u.view.numbers u'.view.seen
  pub lacks_handed : LacksAtMost (handed_of u) (entries_by u.number u'.view.seen) u.size
  pub lacks_kept : LacksAtMost (kept_of u) (entries_by u.number u'.view.seen) (2 * u.size)
  pub stays : u' ≡ record u { view = record u.view { seen = u'.view.seen; steps = u.view.steps ++ Ask word ∷ [] } }

-- the heart's reply lacks nothing of the updaters that it has drained
abbrev pub HasDrained : View → View → Type 0
HasDrained v w = (i : ℕ) → Contains v.drained i → entries_by i w.seen ≡ known_of v i
