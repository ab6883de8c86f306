-- The table at its start, and the seats of it.
use Rattle.std.specs.Prelude.{◌≡◌, ℕ, ◌+◌, ◌<◌, ◌≤◌, List, [], length, replicate, false, slice_index, slice_index_or}
use Rattle.atomic_table.specs.Seated.{TableId}
use Rattle.sk_machine.specs.Coarse.{blank_mine}
use Rattle.sk_machine.specs.declared.views.Move.TheVariants.{Split}
use Rattle.sk_machine.specs.declared.views.Post.{Post}
use Rattle.sk_machine.specs.declared.views.Post.TheVariants.{Guest, Root, Updater}
use Rattle.sk_machine.specs.declared.views.View.{View}
use Rattle.sk_gate.specs.Slots.{word_of, turn_word}
use Rattle.sk_gate.specs.Views.{first_view}
use Rattle.sk_gate.specs.Plays.{Sat}
use Rattle.sk_gate.specs.Hands.{no_own, SeatState, TokenState}

-- of n updaters: the word and the hint of the empty list, and nobody has the turn
pub record AreFirstWords (packed hint n : ℕ) (words : List ℕ) : Type 0 where
  pub count : length words ≡ n + 2
  pub published : slice_index words 0 ≡ packed
  pub updaters : (i : ℕ) → i < n → slice_index words (word_of i) ≡ hint
  pub turn : slice_index words (turn_word n) ≡ 0
  pub lower : 1 ≤ hint

-- the view of a seat that has seen nothing, and knows of nothing; its steps are this many splits
abbrev pub blank_view : List ℕ → List ℕ → List ℕ → Post → ℕ → View
blank_view sizes numbers name post splits = record (first_view sizes numbers name) { post = post; steps = replicate splits Split }

-- a seat that has no slot
abbrev pub empty_handed : View → TableId → ℕ → SeatState
empty_handed v table number = record { view = v; table = table; number = number; own = no_own; filled = false; lifted = false }

-- such a view of the same sketch
abbrev pub blank_of : View → Post → ℕ → View
blank_of v post splits = blank_view v.sizes v.numbers v.name post splits

-- such a seat, without a slot
abbrev pub IsBlank : {C T : Type 0} → View → Post → ℕ → Sat C T → Type 0
IsBlank v post splits m = m ≡ (blank_of v post splits, [])

-- the seats of updaters, in number order
abbrev pub AreNew : View → TableId → List SeatState → Type 0
AreNew v table updaters = (i : ℕ) (d : SeatState) → i < length updaters → slice_index_or updaters i d ≡ empty_handed (blank_of v (Updater i blank_mine) (i + 1)) table i

-- the seats of one table with n updaters
pub record IsMade (n : ℕ) (sizes numbers name : List ℕ) (heart : SeatState) (updaters : List SeatState) (token : TokenState) : Type 0 where
  pub heart_is : heart ≡ empty_handed (blank_view sizes numbers name (Root n) (n + 1)) heart.table n
  pub slots : heart.table.slots ≡ n + 1
  pub count : length updaters ≡ n
  pub updaters_are : AreNew heart.view heart.table updaters
  pub token_is : token ≡ record { view = blank_view sizes numbers name Guest (n + 1); table = heart.table }
