-- What contracts see of the heart, and what is true of it.
use Rattle.std.specs.Prelude.{◌≡◌, ◌≢◌, ℕ, suc, ◌+◌, ◌≤◌, List, [], ◌∷◌, length, replicate, map, All, Bool, Option, Some, None, is_some, slice_index_or}
use Rattle.atomic_table.specs.Seated.{TableId}
use Rattle.sk_machine.specs.Coarse.{blank_mine, IsEntry}
use Rattle.sk_machine.specs.declared.views.Move.TheVariants.{Split}
use Rattle.sk_machine.specs.declared.views.Post.TheVariants.{Updater}
use Rattle.sk_machine.specs.declared.views.View.{View}
use Rattle.sk_gate.specs.Slots.{Telling}
use Rattle.sk_gate.specs.Views.{known_of, size_of}
use Rattle.sk_gate.specs.Moves.{IsSeen}
use Rattle.sk_gate.specs.Hands.{no_own, SeatState}
use Rattle.sk_hub.specs.Updaters.{IsFree, TellsItems}
use Rattle.sk_model.specs.Limits.{most_updaters}

pub record HeartState : Type 0 where
  -- what its seat knows, and of which table it is
  pub view : View
  pub table : TableId
  -- how many updaters the hub has, and how many of them were admitted
  pub updaters : ℕ
  pub admitted : ℕ
  -- for each updater, whether the heart holds a told value of it
  pub news : List Bool
  -- the shape is eager
  pub eager : Bool

abbrev pub heart_of : {T : Type 0} → SeatState → ℕ → ℕ → List (Option T) → Bool → HeartState
heart_of s updaters admitted told eager = record { view = s.view; table = s.table; updaters = updaters; admitted = admitted; news = map (λ t. is_some t) told; eager = eager }

-- what is true of every heart
pub record IsWholeHeart (h : HeartState) : Type 0 where
  pub few : h.updaters ≤ most_updaters
  pub within : h.admitted ≤ h.updaters
  pub slots : h.table.slots ≡ h.updaters + 1
  pub sized : length h.view.sizes ≡ h.updaters
  pub news : length h.news ≡ h.updaters
  -- what it has seen are items of the hub's updaters
  pub entries : All (IsEntry h.updaters) h.view.seen

-- ---- what its fields hold

-- the seat of an updater, of n, that was not admitted: it has seen and handed over nothing
pub record IsVacant (n : ℕ) (table : TableId) (numbers name : List ℕ) (number : ℕ) (s : SeatState) : Type 0 where
  pub number_is : s.number ≡ number
  pub table_is : s.table ≡ table
  pub free : IsFree s
  pub own : s.own ≡ no_own
  pub post : s.view.post ≡ Updater number blank_mine
  pub sized : length s.view.sizes ≡ n
  pub size : size_of s.view number ≡ 0
  pub steps : s.view.steps ≡ replicate (suc number) Split
  pub seen : s.view.seen ≡ []
  pub known : (i : ℕ) → known_of s.view i ≡ []
  pub numbers_are : s.view.numbers ≡ numbers
  pub name_is : s.view.name ≡ name

-- such seats, from this number on
abbrev pub AreVacant : ℕ → TableId → List ℕ → List ℕ → ℕ → List SeatState → Type 0
AreVacant n table numbers name number [] = Unit {0}
AreVacant n table numbers name number (s ∷ more) = IsVacant n table numbers name number s × AreVacant n table numbers name (suc number) more

pub record IsHeart {T : Type 0} (k : Telling T) (s : SeatState) (vacant : List SeatState) (told : List (Option T)) (updaters admitted : ℕ) : Type 0 where
  pub free : IsFree s
  pub few : updaters ≤ most_updaters
  pub slots : s.table.slots ≡ updaters + 1
  pub sized : length s.view.sizes ≡ updaters
  pub known_sized : length s.view.known ≡ updaters
  pub sees : IsSeen s.view s.view.seen
  pub told_sized : length told ≡ updaters
  pub all : admitted + length vacant ≡ updaters
  pub vacant_are : AreVacant updaters s.table s.view.numbers s.view.name admitted vacant
  -- a told value is of all that its updater handed over
  pub told_is : (i : ℕ) (t : T) → slice_index_or told i None ≡ Some t → (known_of s.view i ≢ []) × TellsItems k s.view.name i (known_of s.view i) t
