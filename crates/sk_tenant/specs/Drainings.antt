-- Hearts that take in the updaters of all desks, tenant by tenant.
use Rattle.std.specs.Prelude.{◌≡◌, ℕ, ◌<◌, List, length, All, slice_index_or}
use Rattle.sk_hub.specs.Updaters.{UpdaterState}
use Rattle.sk_hub.specs.Hearts.{HeartState}
use Rattle.sk_feed.specs.Drained.{AreNumbered, DrainsAll}
use Rattle.sk_tenant.specs.Desks.{DeskState}
use Rattle.sk_tenant.specs.Hosts.{updaters_for}

-- each desk's updaters have its number, one for each tenant
pub record HasAllTenants (tenants : ℕ) (d : DeskState) : Type 0 where
  pub count : length d.updaters ≡ tenants
  pub numbers : All (λ u. u.number ≡ d.number) d.updaters

-- for each tenant a list of the desks' updaters
pub record AreByTenant (tenants : ℕ) (desks : List DeskState) (lists : List (List UpdaterState)) : Type 0 where
  pub count : length lists ≡ tenants
  pub full : All (λ l. length l ≡ length desks) lists
  pub each : (t : ℕ) (l : List UpdaterState) (u : UpdaterState) → t < tenants → slice_index_or lists t l ≡ updaters_for t desks u

-- all updaters of a heart's hub, each at the place of its number
pub record AreAllOf (h : HeartState) (us : List UpdaterState) : Type 0 where
  pub tables : All (λ u. u.table ≡ h.table) us
  pub numbers : AreNumbered us
  pub all : length us ≡ h.updaters

-- for each heart a list of all updaters of its hub
pub record AreListsOf (hearts : List HeartState) (lists : List (List UpdaterState)) : Type 0 where
  pub count : length lists ≡ length hearts
  pub each : (t : ℕ) (h : HeartState) (l : List UpdaterState) → t < length hearts → AreAllOf (slice_index_or hearts t h) (slice_index_or lists t l)

-- each heart drained the list at its place
pub record DrainLists (hearts : List HeartState) (lists : List (List UpdaterState)) (hearts' : List HeartState) : Type 0 where
  pub count : length hearts' ≡ length hearts
  pub drains : (t : ℕ) (h : HeartState) (l : List UpdaterState) → t < length hearts → DrainsAll (slice_index_or hearts t h) (slice_index_or lists t l) (slice_index_or hearts' t h)
