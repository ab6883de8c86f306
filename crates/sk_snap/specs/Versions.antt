-- What a version is, and what one more batch makes of it.
use Rattle.std.specs.Prelude.{◌≡◌, ℕ, ◌+◌, ◌≤◌, ◌^◌, List, [], ◌∷◌, ◌++◌, length, Bool, true, false, if◌then◌else◌, Option, Some, None, IfSome, Result, MatchResult}
use Rattle.sk_model.specs.Entries.{items_of_entries, tagged}
use Rattle.sk_model.specs.Missing.{Begins}
use Rattle.sk_model.specs.Width.{AreItems}
use Rattle.sk_snap.specs.History.{Beginning, Taken, entries_in, name_of, length_word}
use Rattle.sk_snap.specs.declared.version.Version.{Version}
use Rattle.logbook.specs.Pages.{Named}

-- what stands where there is no history
abbrev pub no_history : Beginning
no_history = record { book = record { number = 0; log_name = 0; cells_name = 0 }; batches = [] }

-- the items that a list of entries has
abbrev pub items_in : Beginning → List ℕ
items_in beginning = items_of_entries (entries_in beginning)

-- a version is a sketch of the beginning of the history that it has seen
abbrev pub IsVersion : {S : Type 0} → (S → List ℕ → Type 0) → Version S → Type 0
IsVersion is_of version = is_of version.sketch (items_in version.known)

-- what a batch makes of a version
abbrev pub with_batch : {S : Type 0} → (S → List ℕ → S) → Version S → Taken → Version S
with_batch after version batch = record {
  sketch = after version.sketch batch.items;
  known = batch.known;
}

-- the batch continues the history that this beginning has seen
pub record Continues (known : Beginning) (batch : Taken) : Type 0 where
  pub book : batch.known.book ≡ known.book
  pub batches : batch.known.batches ≡ known.batches ++ tagged batch.from batch.items ∷ []

-- a batch that was refused continues it too
abbrev pub WillContinue : Beginning → Option Taken → Type 0
WillContinue known refused = (batch : Taken) → refused ≡ Some batch → Continues known batch

-- what a reader has learnt: the fixed numbers of its sketch, and a beginning of its history
pub record Learnt : Type 0 where
  pub numbers : List ℕ
  pub known : Beginning

-- what contracts see of a sketch by versions: its fixed numbers, the beginning of its history that is published, and
-- the batch that was refused, if one was
pub record VersionedState : Type 0 where
  pub numbers : List ℕ
  pub known : Beginning
  pub refused : Option Taken

-- what a version is of: the name of the history, and numbers that no batch changes
abbrev pub about : {S : Type 0} → (S → List ℕ) → Version S → List ℕ
about numbers version = name_of version.known.book ++ numbers version.sketch

-- an entry of who knows what the versions are of leaves that known. It is answered of a version that what was known
-- begins, which is known then, or the query comes back
pub record IsEntry {Q A : Type 0} (gives : Q → List ℕ → List ℕ → A → Type 0) (query : Q) (known : Beginning)
    (numbers view after : List ℕ) (next : Beginning) (seen : Result A Q) : Type 0 where
  pub stays : after ≡ view
  pub book : next.book ≡ known.book
  pub begins : Begins known.batches next.batches
  pub answer : MatchResult seen (λ answer. gives query numbers (items_in next) answer) (λ back. (back ≡ query) × (next ≡ known))

-- the same where it is known what the versions are of
abbrev pub EntersOf : {Q A : Type 0} → (Q → List ℕ → List ℕ → A → Type 0) → Q → Beginning → List ℕ → List ℕ → Beginning → Result A Q → Type 0
EntersOf gives query known view after next seen = (numbers : List ℕ) → view ≡ name_of known.book ++ numbers
    → IsEntry gives query known numbers view after next seen

-- a query is put that fits the versions, of which it is known what they are of
pub record IsPut {Q : Type 0} (fits : Q → List ℕ → Type 0) (query : Q) (known : Beginning) (view : List ℕ) : Type 0 where
  pub numbers : List ℕ
  pub view_is : view ≡ name_of known.book ++ numbers
  pub fit : fits query numbers

-- what holds of a writer between merges: what it shows is a version, with no batch pending; its history is that
-- version's, and a batch that was refused continues it
pub record IsWriting {S : Type 0} (is_of : S → List ℕ → Type 0) (version : Version S) (pending : List Taken) (word : Named) (refused : Option Taken) : Type 0 where
  pub whole : IsVersion is_of version
  pub none : pending ≡ []
  pub word_is : word ≡ length_word version.known.book
  pub continues : WillContinue version.known refused

-- the batch of these items of this updater
abbrev pub IsOf : ℕ → List ℕ → Taken → Type 0
IsOf from items batch = (batch.from ≡ from) × (batch.items ≡ items)

-- what is refused after a merge: nothing if it was done; else still the same batch, and if there was none at most this
-- one. Only the batch that was refused can be merged
abbrev pub Refuses : Option Taken → Option Taken → ℕ → List ℕ → Bool → Type 0
Refuses before after from items true = IfSome before (IsOf from items) × (after ≡ None)
Refuses (Some batch) after from items false = after ≡ Some batch
Refuses None after from items false = IfSome after (IsOf from items)

-- a merge puts a batch to the end, or nothing
pub record HasMerged {S : Type 0} (numbers : S → List ℕ) (version next : Version S) (from : ℕ) (items : List ℕ) (done : Bool) : Type 0 where
  pub entries : entries_in next.known ≡ entries_in version.known ++ (if done then tagged from items else [])
  pub refused : done ≡ false → next ≡ version
  pub numbers_are : numbers next.sketch ≡ numbers version.sketch
  pub book : next.known.book ≡ version.known.book

-- a version that is shown, with no batch pending, can take this one
pub record CanTake {S : Type 0} (version : Version S) (pending : List Taken) (batch : Taken) : Type 0 where
  pub none : pending ≡ []
  pub continues : Continues version.known batch
  pub fit : AreItems batch.items
  pub room : length (items_in version.known) + length batch.items ≤ 2 ^ 46

-- the version that is shown took the batch, or the batch came back; again none is pending
pub record HasTaken {S : Type 0} (after : S → List ℕ → S) (version next : Version S) (pending : List Taken) (batch : Taken) (given : Result (Unit {0}) Taken) : Type 0 where
  pub none : pending ≡ []
  pub shown : MatchResult given (λ _. next ≡ with_batch after version batch)
      (λ back. (back ≡ batch) × (next ≡ version))
