-- What each step of the table shows: of the view, as in Moves, and of the slots that the seat has.
use Rattle.std.specs.Prelude.{◌≡◌, ◌≢◌, ℕ, ◌+◌, List, [], ◌∷◌, ◌++◌, Bool, true, false, not, None, is_some}
use Rattle.atomic_table.specs.Table.{Me, Step, rest}
use Rattle.sk_model.specs.Entries.{Entry}
use Rattle.sk_compose.specs.declared.buffer.Parcel.{Parcel}
use Rattle.sk_machine.specs.declared.views.Mine.{Mine}
use Rattle.sk_machine.specs.declared.views.Stage.TheVariants.{Busy, Published}
use Rattle.sk_machine.specs.declared.views.Move.TheVariants.{Look}
use Rattle.sk_machine.specs.declared.views.Post.TheVariants.{Updater}
use Rattle.sk_machine.specs.declared.views.Duty.TheVariants.{Leads}
use Rattle.sk_machine.specs.declared.views.View.{View}
use Rattle.sk_gate.specs.declared.load.Trunk.{Trunk}
use Rattle.sk_gate.specs.Slots.{Slot, full, trunk, contents, Sketching, Telling, TellsGiven, IsTrunkOf}
use Rattle.sk_gate.specs.Views.{size_of, mine_of, stage_in, batch_of}
use Rattle.sk_gate.specs.Moves.{IsSeen, AsksAt, LooksAt, AdmitsAt, HandsAt, TurnsAt, YieldsAt, FindsAt, LeavesAt, PublishesAt, GivesBackAt}

-- a seat: its view, and the slots that it has
abbrev pub Sat : Type 0 → Type 0 → Type 0
Sat C T = Me (Slot C T) View

-- the empty parcel that a look gives, of what was given back with the base
abbrev pub IsRested : {T : Type 0} → Telling T → View → View → ℕ → Parcel T → Type 0
IsRested k v w i p = (p.buffer ≡ contents [] (size_of v i)) × ((mine_of v).picked ≡ false → TellsGiven k v.name p (mine_of v).handed (mine_of w).base)

-- whether the told value was picked out of an empty parcel, which has one if something was handed over before
abbrev pub is_picked : List ℕ → Bool → Bool
is_picked [] told = false
is_picked (x ∷ xs) told = not told

abbrev pub rested_mine : Mine → Bool → Mine
rested_mine mine picked = record { handed = mine.handed; base = mine.base; ready = false; rested = true; picked = picked }

module _ {C T : Type 0} where
  abbrev pub asked : (List ℕ → List Entry → ℕ) → Step (Slot C T) → Sat C T → ℕ → Sat C T → Type 0
  asked packed st m r m' = AsksAt packed m.0 r m'.0 × (m'.1 ≡ m.1)

  -- ---- an updater

  -- whether a look that loaded r gives the slot
  pub record LookHand (k : Telling T) (m : Sat C T) (r : ℕ) (m' : Sat C T) (i : ℕ) : Type 0 where
    pub waits : r ≡ 0 → m'.1 ≡ m.1
    pub stays : (mine_of m.0).ready ≡ true → m'.1 ≡ m.1
    pub takes : r ≢ 0 → (mine_of m.0).ready ≡ false → (p : Parcel T) × (m'.1 ≡ (i, full p) ∷ m.1) × IsRested k m.0 m'.0 i p

  abbrev pub looked : Telling T → (List ℕ → List Entry → ℕ) → Step (Slot C T) → Sat C T → ℕ → Sat C T → Type 0
  looked k hint st m r m' = (i : ℕ) → m.0.post ≡ Updater i (mine_of m.0) → st.word ≡ i + 1 → size_of m.0 i ≢ 0 → LooksAt hint m.0 r m'.0 i × LookHand k m r m' i

  -- a look that gives the slot back
  abbrev pub rested : Step (Slot C T) → Sat C T → ℕ → Sat C T → Type 0
  rested st m r m' = (i : ℕ) (p : Parcel T) (more : List (ℕ × Slot C T)) → m.0.post ≡ Updater i (mine_of m.0) → m.1 ≡ (i, full p) ∷ more
      → m' ≡ (record m.0 { steps = m.0.steps ++ Look i r ∷ []; post = Updater i (rested_mine (mine_of m.0) (is_picked (mine_of m.0).handed (is_some p.told))) }, more)

  -- the look by which the updater is admitted, with buffers of b items; its slot has the placeholder
  abbrev pub admitted : (List ℕ → List Entry → ℕ) → ℕ → Step (Slot C T) → Sat C T → ℕ → Sat C T → Type 0
  admitted hint b st m r m' = (i : ℕ) → m.0.post ≡ Updater i (mine_of m.0) → st.word ≡ i + 1 → size_of m.0 i ≡ 0
      → AdmitsAt hint m.0 r m'.0 i b × ((p : Parcel T) × (m'.1 ≡ (i, full p) ∷ m.1) × (p.buffer ≡ contents [] 1) × (p.told ≡ None))

  abbrev pub handed : Step (Slot C T) → Sat C T → ℕ → Sat C T → Type 0
  handed st m r m' = (i : ℕ) (p : Parcel T) (more : List (ℕ × Slot C T)) → m.0.post ≡ Updater i (mine_of m.0) → m.1 ≡ (i, full p) ∷ more → HandsAt m.0 m'.0 i p.buffer.items × (m'.1 ≡ more)

  -- ---- whoever propagates

  -- a turn that found 0 gives the trunk
  abbrev pub turned : Sketching C → Step (Slot C T) → Sat C T → ℕ → Sat C T → Type 0
  turned g st m r m' = TurnsAt m.0 r m'.0 × (r ≢ 0 → m'.1 ≡ m.1)
      × (r ≡ 0 → (n : ℕ) → st.word ≡ n + 1 → (t : Trunk C T) × (m'.1 ≡ (n, trunk t) ∷ m.1) × IsTrunkOf g m'.0.numbers m'.0.name m'.0.seen (stage_in m'.0.duty) (size_of m'.0) t)

  -- it gives the first slot back
  abbrev pub yielded : Step (Slot C T) → Sat C T → ℕ → Sat C T → Type 0
  yielded st m r m' = YieldsAt m.0 m'.0 × (m'.1 ≡ rest m.1)

  abbrev pub found : Step (Slot C T) → Sat C T → ℕ → Sat C T → Type 0
  found st m r m' = (i : ℕ) → st.word ≡ i + 1 → FindsAt m.0 r m'.0 i × (r ≢ 0 → m'.1 ≡ m.1)
      × (r ≡ 0 → (p : Parcel T) × (m'.1 ≡ (i, full p) ∷ m.1) × (p.buffer ≡ contents (batch_of m'.0) (size_of m'.0 i)))

  -- a find of the updater that the propagator is at, which gives the first slot back
  abbrev pub left_it : Step (Slot C T) → Sat C T → ℕ → Sat C T → Type 0
  left_it st m r m' = (i : ℕ) → st.word ≡ i + 1 → (r ≡ 0) × LeavesAt m.0 m'.0 i × (m'.1 ≡ rest m.1)

  -- it takes the slot where that was left
  abbrev pub published : Step (Slot C T) → Sat C T → ℕ → Sat C T → Type 0
  published st m r m' = (i : ℕ) → (m.0.duty ≡ Leads (Busy i (batch_of m.0)) false → PublishesAt m.0 r m'.0 i × (m'.1 ≡ m.1))
      × (m.0.duty ≡ Leads (Busy i (batch_of m.0)) true → PublishesAt m.0 r m'.0 i × (m'.1 ≡ (i, None) ∷ m.1))
      × IsSeen m.0 m'.0.seen

  -- it gives the first slot back
  abbrev pub gave_back : Step (Slot C T) → Sat C T → ℕ → Sat C T → Type 0
  gave_back st m r m' = (i : ℕ) → m.0.duty ≡ Leads (Published i) false → GivesBackAt m.0 r m'.0 i × (m'.1 ≡ rest m.1)
