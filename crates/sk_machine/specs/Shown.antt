-- The whole machine of one that a shared table shows, with the seats' views as its tokens. Where the table
-- does not distinguish two states the whole machine is in one of them. Its fill lists are empty.
use Rattle.std.specs.Prelude.{◌≡◌, ◌≢◌, ℕ, ◌<◌, List, [], length, true, slice_index_or}
use mathlib.Core.Option.{some}
use lib.ListN.{get_elem?}
use Rattle.sk_model.specs.Entries.{Entry}
use Rattle.sk_model.specs.Missing.{Begins}
use Rattle.sk_machine.specs.Coarse.{CoarseUpdater, Coarse, At}
use Rattle.sk_machine.specs.Fine.{FineUpdater, Token, Fine}
use Rattle.sk_machine.specs.Invariant.{Invariant, IsSound, is_ready, stage_of}
use Rattle.sk_machine.specs.declared.views.Stage.{Stage}
use Rattle.sk_machine.specs.declared.views.View.{View}

-- the seat j has the view v
abbrev pub IsView : List View → ℕ → View → Type 0
IsView views j v = get_elem? views j ≡ some v

-- a seat has seen a beginning of the published list, and knows beginnings of what was handed over
pub record KnowsBeginnings (n : ℕ) (m : Coarse) (v : View) : Type 0 where
  pub seen : Begins v.seen m.published
  pub known : (i : ℕ) → i < n → Begins (slice_index_or v.known i []) (m.updaters i).mine.handed

-- so has each that was not joined into another
abbrev pub AllKnowBeginnings : ℕ → Coarse → List View → Type 0
AllKnowBeginnings n m views = (j : ℕ) (v : View) → IsView views j v → v.live ≡ true → KnowsBeginnings n m v

-- a seat as a token
abbrev pub token_of : View → Token
token_of v = record { live = v.live; seen = v.seen; known = λ i. slice_index_or v.known i [] }

-- what a table shows of the updater i, which has buffers of b items
pub record ShowsUpdater (stage : Stage) (b i : ℕ) (u : CoarseUpdater) (whole : FineUpdater) : Type 0 where
  pub size : whole.size ≡ b
  pub word : whole.word ≡ u.word
  pub given : whole.given ≡ u.given
  pub handed : whole.handed ≡ u.mine.handed
  pub base : whole.base ≡ u.mine.base
  pub ready : is_ready whole.mark ≡ u.mine.ready
  -- its slot is at home where the propagator is not at it, with the batch that waits there while its word is 0
  pub home : ¬ At stage i → whole.home ≡ true
  pub waiting : ¬ At stage i → u.word ≡ 0 → whole.slot ≡ u.waiting
  pub empty : u.word ≢ 0 → whole.slot ≡ []
  -- it keeps nothing that it has not handed over
  pub fill : whole.fill ≡ []
  pub kept : whole.kept ≡ whole.handed

-- what a table shows of the machine
pub record Shows (n : ℕ) (m : Coarse) (views : List View) (f : Fine) : Type 0 where
  pub count : f.n ≡ n
  pub published : f.published ≡ m.published
  pub stage : stage_of f.updaters f.in_hand f.progress ≡ m.stage
  pub turn : f.turn ≡ m.turn
  pub updaters : (i : ℕ) → i < n → ShowsUpdater m.stage (m.sizes i) i (m.updaters i) (f.updaters i)
  pub made : f.made ≡ length views
  pub tokens : (j : ℕ) (v : View) → IsView views j v → f.tokens j ≡ token_of v

-- a whole machine that a table shows so
pub record Whole (hint packed : List Entry → ℕ) (n : ℕ) (m : Coarse) (views : List View) : Type 0 where
  pub machine : Fine
  -- it meets all eight parts
  pub invariant : Invariant hint packed machine
  -- and each event that is enabled keeps them
  pub sound : IsSound hint packed machine
  pub shown : Shows n m views machine
