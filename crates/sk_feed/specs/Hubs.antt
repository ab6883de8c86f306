-- The handles of a hub together, and how they continue while a window is fed and reported.
use Rattle.std.specs.Prelude.{◌≡◌, ◌⊎◌, ℕ, ◌<◌, Bool, true, false, ◌&&◌, List, [], ◌∷◌, length, slice_index_or, All}
use Rattle.sk_model.specs.Entries.{Entry, entries_by}
use Rattle.sk_model.specs.Missing.{Begins}
use Rattle.sk_gate.specs.Hands.{TokenState}
use Rattle.sk_gate.specs.Views.{known_of, size_of}
use Rattle.sk_hub.specs.Hearts.{HeartState}
use Rattle.sk_hub.specs.Rounds.{KnowsAsMuch, Sweeps, IsElsewhere, Refuses}
use Rattle.sk_hub.specs.Updaters.{UpdaterState, base_of, handed_of}
use Rattle.sk_hub.specs.declared.opened.Opened.{Opened}
use Rattle.sk_read.specs.declared.kind.Kind.{Kind}
use Rattle.sk_feed.specs.Shares.{TakeShares}

pub record Hub : Type 0 where
  pub heart : HeartState
  -- in number order
  pub updaters : List UpdaterState
  pub token : TokenState

abbrev pub hub_of : {C T : Type 0} → Opened C T → Hub
hub_of opened = record { heart = opened.heart; updaters = opened.updaters.items; token = opened.token }

-- ---- one hub

-- an updater is number i of this hub, and the token knows no more of it than it has handed over, and its size or none
pub record IsUpdaterAt (hub : Hub) (i : ℕ) (u : UpdaterState) : Type 0 where
  pub number : u.number ≡ i
  pub table : u.table ≡ hub.heart.table
  pub numbers : u.view.numbers ≡ hub.heart.view.numbers
  pub name : u.view.name ≡ hub.heart.view.name
  pub known : Begins (known_of hub.token.view i) (handed_of u)
  pub size : (size_of hub.token.view i ≡ 0) ⊎ (size_of hub.token.view i ≡ u.size)

-- the handles are of one hub, and these are all its updaters
pub record IsHub (hub : Hub) : Type 0 where
  pub count : length hub.updaters ≡ hub.heart.updaters
  pub updaters : (i : ℕ) (d : UpdaterState) → i < length hub.updaters → IsUpdaterAt hub i (slice_index_or hub.updaters i d)
  pub table : hub.token.table ≡ hub.heart.table
  pub sized : length hub.token.view.sizes ≡ hub.heart.updaters
  pub numbers : hub.token.view.numbers ≡ hub.heart.view.numbers
  pub name : hub.token.view.name ≡ hub.heart.view.name

-- ---- how it continues

-- the same heart, which may have propagated: it has drained and admitted nobody, and knows no more of updaters
pub record HeartGoesOn (h h' : HeartState) : Type 0 where
  pub knows : KnowsAsMuch h.view h'.view
  pub stays : h' ≡ record h { view = h'.view }

-- so it is if it propagates, and else it is as it was
pub record HeartMayGoOn (propagates : Bool) (h h' : HeartState) : Type 0 where
  pub goes : HeartGoesOn h h'
  pub quiet : propagates ≡ false → h' ≡ h

-- the heart took the turn and served each updater once, found it with another seat, or memory ran out for a batch
abbrev pub TriesToSweep : HeartState → HeartState → Type 0
TriesToSweep h h' = ((count : ℕ) × Sweeps h.view h.updaters count h'.view) ⊎ (((other : ℕ) × IsElsewhere h.view other h'.view) ⊎ Refuses h.view 0 h.updaters h'.view)

-- each updater took its share of a window; the token is as it was, and so is the heart unless it propagates
pub record FeedsWindow (propagates : Bool) (keeps : ℕ → ℕ → Bool) (hint_of : List ℕ → List Entry → ℕ) (kind : Kind) (lines : List (List ℕ)) (a b : Hub) : Type 0 where
  pub heart : HeartMayGoOn propagates a.heart b.heart
  pub updaters : TakeShares keeps hint_of kind (lines ∷ []) a.updaters b.updaters
  pub token : b.token ≡ a.token

-- each updater took its share of these windows; the token is as it was, and so is the heart unless it propagates
pub record FeedsWindows (propagates : Bool) (keeps : ℕ → ℕ → Bool) (hint_of : List ℕ → List Entry → ℕ) (kind : Kind) (windows : List (List (List ℕ))) (a b : Hub) : Type 0 where
  pub heart : HeartMayGoOn propagates a.heart b.heart
  pub updaters : TakeShares keeps hint_of kind windows a.updaters b.updaters
  pub token : b.token ≡ a.token

-- all that an updater handed over is published, and its base has it
abbrev pub HasAllPublished : UpdaterState → Type 0
HasAllPublished u = entries_by u.number (base_of u) ≡ handed_of u

-- so it is of each
abbrev pub AreSettled : List UpdaterState → Type 0
AreSettled us = All HasAllPublished us

-- while an updater is eager, nothing waits in its fill buffer
abbrev pub HandsOverEarly : (ℕ → Bool) → UpdaterState → Type 0
HandsOverEarly early u = (u.eager && early u.hint) ≡ true → u.fill ≡ []

-- an updater has kept and handed over nothing more, and has its hint. A told value may have been taken from it
pub record IsLeft (u u' : UpdaterState) : Type 0 where
  pub stays : u' ≡ record u { view = u'.view; news = u'.news }
  pub handed : handed_of u' ≡ handed_of u
  pub base : base_of u' ≡ base_of u
  pub numbers : u'.view.numbers ≡ u.view.numbers
  pub name : u'.view.name ≡ u.view.name
  pub sized : length u'.view.sizes ≡ length u.view.sizes
  pub seen : Begins u.view.seen u'.view.seen
  pub steps : Begins u.view.steps u'.view.steps

-- the same token, which has seen as much or more
pub record TokenGoesOn (t t' : TokenState) : Type 0 where
  pub table : t'.table ≡ t.table
  pub numbers : t'.view.numbers ≡ t.view.numbers
  pub name : t'.view.name ≡ t.view.name
  pub sized : length t'.view.sizes ≡ length t.view.sizes
  pub seen : Begins t.view.seen t'.view.seen
  pub steps : Begins t.view.steps t'.view.steps

-- what a report leaves: nothing is kept, handed over or drained, and no hint renewed
pub record LeavesHub (a b : Hub) : Type 0 where
  pub heart : HeartGoesOn a.heart b.heart
  pub count : length b.updaters ≡ length a.updaters
  pub updaters : (i : ℕ) (d : UpdaterState) → i < length a.updaters → IsLeft (slice_index_or a.updaters i d) (slice_index_or b.updaters i d)
  pub token : TokenGoesOn a.token b.token
