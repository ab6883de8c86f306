-- The items of a block of a window on their way to an updater.
use Rattle.std.specs.Prelude.{◌≡◌, ℕ, List, ◌++◌, Bool}
use Rattle.std.specs.List.{filter}
use Rattle.sk_model.specs.Entries.{Entry}
use Rattle.sk_model.specs.Missing.{Begins}
use Rattle.sk_hub.specs.Updaters.{UpdaterState, base_of}
use Rattle.sk_read.specs.declared.kind.Kind.{Kind}
use Rattle.sk_fill.specs.Windows.{items_in}
use Rattle.sk_hub.specs.Calls.{Takes}

-- the items of a block on their way: those that wait to be taken, and the lines to come after them
pub record BlockItemsState : Type 0 where
  pub kind : Kind
  pub waiting : List ℕ
  pub rest : List (List ℕ)

-- of these lines an updater took the items of the first ones. Of the next ones those items wait that a hint keeps which
-- it had then or earlier, and the rest comes after them
pub record IsOnItsWay (keeps : ℕ → ℕ → Bool) (hint_of : List ℕ → List Entry → ℕ) (lines : List (List ℕ)) (start u : UpdaterState) (items : BlockItemsState) : Type 0 where
  pub front : List (List ℕ)
  pub next : List (List ℕ)
  pub joined : lines ≡ (front ++ next) ++ items.rest
  pub taken : Takes keeps hint_of start (items_in items.kind front) u
  pub base : List Entry
  pub earlier : Begins base (base_of u)
  pub waiting : items.waiting ≡ filter (keeps (hint_of u.view.numbers base)) (items_in items.kind next)
