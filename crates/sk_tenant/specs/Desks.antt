-- What contracts see of a desk, and what a call on it leaves.
use Rattle.std.specs.Prelude.{◌≡◌, ℕ, ◌≤◌, ◌==◌, List, [], ◌∷◌, length, map, filter, All, Some, slice_get, slice_set}
use Rattle.sk_model.specs.Limits.{most_kept, IsFrom}
use Rattle.sk_hub.specs.Updaters.{UpdaterState, kept_of}
use Rattle.sk_tenant.specs.Names.{AreDifferent, most_tenants}
use Rattle.sk_tenant.specs.Calls.{Call, Owes}

pub record DeskState : Type 0 where
  pub names : List (List ℕ)
  -- which of the desks it is
  pub number : ℕ
  -- how many items it keeps at most for each tenant
  pub quota : ℕ
  -- each at the place of its tenant
  pub updaters : List UpdaterState

-- what is true of every desk
pub record IsDesk (d : DeskState) : Type 0 where
  pub few : length d.names ≤ most_tenants
  pub different : AreDifferent d.names
  pub tenants : length d.updaters ≡ length d.names
  pub quota_is : IsFrom 1 most_kept d.quota
  pub numbers : All (λ u. u.number ≡ d.number) d.updaters
  pub within : All (λ u. length (kept_of u) ≤ d.quota) d.updaters

-- a call for the tenant at this place: its updater did what it owes, and those of all other tenants are as they were
pub record IsDone (d : DeskState) (t : ℕ) (call : Call) (d' : DeskState) : Type 0 where
  pub before : UpdaterState
  pub after : UpdaterState
  pub is_at : slice_get d.updaters t ≡ Some before
  pub owes : Owes d.quota before call after
  pub stays : d' ≡ record d { updaters = slice_set d.updaters t after }

-- these calls, each for the tenant at its place, one after another
unfoldable pub AreDone : DeskState → List (ℕ × Call) → DeskState → Type 0
AreDone d [] d' = d' ≡ d
AreDone d (call ∷ calls) d' = (e : DeskState) × IsDone d call.0 call.1 e × AreDone e calls d'

-- the same desk, whatever its updaters have done
pub record IsSameDesk (d d' : DeskState) : Type 0 where
  pub names : d'.names ≡ d.names
  pub number : d'.number ≡ d.number
  pub quota : d'.quota ≡ d.quota
  pub tenants : length d'.updaters ≡ length d.updaters

-- those for one tenant, taken out of the list
abbrev pub calls_for : ℕ → List (ℕ × Call) → List Call
calls_for t calls = map (λ call. call.1) (filter (λ call. call.0 == t) calls)
