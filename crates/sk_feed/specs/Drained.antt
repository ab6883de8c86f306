-- What it means that the heart took in all updaters.
use Rattle.std.specs.Prelude.{◌≡◌, ℕ, ◌<◌, List, ◌++◌, length, All, slice_index_or}
use Rattle.std.specs.List.{range_with_len}
use Rattle.sk_model.specs.Missing.{Begins}
use Rattle.sk_hub.specs.Updaters.{UpdaterState}
use Rattle.sk_hub.specs.Hearts.{HeartState}
use Rattle.sk_hub.specs.Drains.{HasTakenIn}

-- each updater has its place for its number
abbrev pub AreNumbered : List UpdaterState → Type 0
AreNumbered us = (i : ℕ) (d : UpdaterState) → i < length us → (slice_index_or us i d).number ≡ i

-- the heart drained these updaters, in number order, and has taken in each
pub record DrainsAll (h : HeartState) (us : List UpdaterState) (h' : HeartState) : Type 0 where
  pub table : h'.table ≡ h.table
  pub updaters : h'.updaters ≡ h.updaters
  pub eager : h'.eager ≡ h.eager
  pub numbers : h'.view.numbers ≡ h.view.numbers
  pub seen : Begins h.view.seen h'.view.seen
  pub drained : h'.view.drained ≡ h.view.drained ++ range_with_len 0 (length us)
  pub numbered : AreNumbered us
  pub taken_in : All (HasTakenIn h') us
