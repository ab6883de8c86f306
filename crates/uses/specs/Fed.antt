-- What it means that items were fed to updaters.
use Rattle.std.specs.Prelude.{◌≡◌, ℕ, ◌<◌, Bool, List, [], length, slice_index_or}
use Rattle.sk_model.specs.Entries.{Entry}
use Rattle.sk_hub.specs.Calls.{Takes}
use Rattle.sk_hub.specs.Updaters.{UpdaterState}

-- each updater took the items of its stream
abbrev pub TakeEach : (ℕ → ℕ → Bool) → (List ℕ → List Entry → ℕ) → List UpdaterState → List (List ℕ) → List UpdaterState → Type 0
TakeEach keeps hint_of us streams us' = (i : ℕ) (d : UpdaterState) → i < length us → Takes keeps hint_of (slice_index_or us i d) (slice_index_or streams i []) (slice_index_or us' i d)

-- so they were all fed
pub record AreFed (keeps : ℕ → ℕ → Bool) (hint_of : List ℕ → List Entry → ℕ) (us : List UpdaterState) (streams : List (List ℕ)) (us' : List UpdaterState) : Type 0 where
  pub count : length us' ≡ length us
  pub each : TakeEach keeps hint_of us streams us'
