-- An updater that continues: through calls that keep nothing more, that take items, or that stop at one.
use Rattle.std.specs.Prelude.{◌≡◌, ℕ, List, ◌++◌, length, Bool, true}
use Rattle.sk_model.specs.Entries.{Entry}
use Rattle.sk_model.specs.Missing.{Begins}
use Rattle.sk_compose.specs.Kept.{AreKept}
use Rattle.sk_hub.specs.Updaters.{UpdaterState, base_of, handed_of, kept_of, HoldsTold, LooksInVain}

-- the same updater, with longer lists: each begins with what it was
pub record GoesOn (u u' : UpdaterState) : Type 0 where
  pub number : u'.number ≡ u.number
  pub size : u'.size ≡ u.size
  pub table : u'.table ≡ u.table
  pub eager : u'.eager ≡ u.eager
  pub name : u'.view.name ≡ u.view.name
  pub numbers : u'.view.numbers ≡ u.view.numbers
  pub sized : length u'.view.sizes ≡ length u.view.sizes
  pub base : Begins (base_of u) (base_of u')
  pub handed : Begins (handed_of u) (handed_of u')
  pub seen : Begins u.view.seen u'.view.seen
  pub steps : Begins u.view.steps u'.view.steps
  pub told : HoldsTold u u'

-- it continues, and has kept nothing more
pub record KeepsNone (u u' : UpdaterState) : Type 0 where
  pub goes : GoesOn u u'
  pub kept : kept_of u' ≡ kept_of u

-- it continues, and of these items, in order, has kept each that is not filtered by its base
pub record Takes (keeps : ℕ → ℕ → Bool) (hint_of : List ℕ → List Entry → ℕ) (u : UpdaterState) (items : List ℕ) (u' : UpdaterState) : Type 0 where
  pub goes : GoesOn u u'
  pub more : List ℕ
  pub kept : kept_of u' ≡ kept_of u ++ more
  pub of_items : AreKept keeps (hint_of u.view.numbers) (base_of u') items more

-- the item is kept by the hint, the buffer is full, and the one look loaded 0
pub record IsBusyWith (keeps : ℕ → ℕ → Bool) (u : UpdaterState) (item : ℕ) (u' : UpdaterState) : Type 0 where
  pub kept : keeps u.hint item ≡ true
  pub full : length u.fill ≡ u.size
  pub look : LooksInVain u u'

-- it took these items, and was busy with the one that follows
pub record StopsAt (keeps : ℕ → ℕ → Bool) (hint_of : List ℕ → List Entry → ℕ) (u : UpdaterState) (items : List ℕ) (item : ℕ) (u' : UpdaterState) : Type 0 where
  pub before : UpdaterState
  pub taken : Takes keeps hint_of u items before
  pub busy : IsBusyWith keeps before item u'
