-- A hub at its start.
use Rattle.std.specs.Prelude.{◌≡◌, ℕ, ◌+◌, List, [], length, false, Bool, slice_index, slice_get, Some, replicate}
use Rattle.sk_model.specs.Entries.{Entry}
use Rattle.sk_machine.specs.declared.views.Move.TheVariants.{Split}
use Rattle.sk_gate.specs.Views.{known_of, size_of}
use Rattle.sk_gate.specs.Hands.{TokenState}
use Rattle.sk_hub.specs.Updaters.{UpdaterState}
use Rattle.sk_hub.specs.Hearts.{HeartState}
use Rattle.sk_hub.specs.Drains.{IsNew}

-- nothing is seen, known or drained
pub record IsNewHeart (n : ℕ) (numbers name : List ℕ) (eager : Bool) (h : HeartState) : Type 0 where
  pub updaters : h.updaters ≡ n
  pub slots : h.table.slots ≡ n + 1
  pub sized : length h.view.sizes ≡ n
  pub steps : h.view.steps ≡ replicate (n + 1) Split
  pub seen : h.view.seen ≡ []
  pub known : (i : ℕ) → known_of h.view i ≡ []
  pub drained : h.view.drained ≡ []
  pub news : h.news ≡ replicate n false
  pub numbers_are : h.view.numbers ≡ numbers
  pub name_is : h.view.name ≡ name
  pub eager_is : h.eager ≡ eager

pub record IsNewToken (h : HeartState) (t : TokenState) : Type 0 where
  pub table : t.table ≡ h.table
  pub sized : length t.view.sizes ≡ h.updaters
  pub sizes : (i : ℕ) → size_of t.view i ≡ 0
  pub steps : t.view.steps ≡ h.view.steps
  pub seen : t.view.seen ≡ []
  pub known : (i : ℕ) → known_of t.view i ≡ []
  pub numbers_are : t.view.numbers ≡ h.view.numbers
  pub name_is : t.view.name ≡ h.view.name

-- one updater for each size, in number order
abbrev pub AreNew : (List ℕ → List Entry → ℕ) → List ℕ → HeartState → List UpdaterState → Type 0
AreNew hint_of sizes h updaters = (i : ℕ) (u : UpdaterState) → slice_get updaters i ≡ Some u → IsNew hint_of i (slice_index sizes i) h u
