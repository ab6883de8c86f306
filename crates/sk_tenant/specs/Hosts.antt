-- What contracts see of the tenants' hubs, from their opening to their last words.
use Rattle.std.specs.Prelude.{◌≡◌, ℕ, ◌<◌, ◌≤◌, List, [], ◌∷◌, length, map, All, Some, slice_get, slice_set, slice_index_or}
use Rattle.sk_model.specs.Width.{AreItems}
use Rattle.sk_theta.specs.Sizes.{Sizes}
use Rattle.sk_hub.specs.Updaters.{UpdaterState, kept_of}
use Rattle.sk_hub.specs.Hearts.{HeartState}
use Rattle.sk_hub.specs.Drains.{IsDrained, HasTakenIn, IsNew}
use Rattle.sk_hub.specs.Starts.{IsNewHeart}
use Rattle.sk_hub.specs.Replies.{IsRelaxedReply, HasDrained}
use Rattle.sk_feed.specs.Drained.{DrainsAll}
use Rattle.sk_tenant.specs.Names.{AreDifferent, most_tenants}
use Rattle.sk_tenant.specs.Calls.{Call, TakesItems, theta_hint, theta_word}
use Rattle.sk_tenant.specs.Desks.{DeskState, AreDone}

pub record TenantsState : Type 0 where
  pub names : List (List ℕ)
  -- k of the sketches, and how many desks there are
  pub k : ℕ
  pub n : ℕ
  -- each at the place of its tenant
  pub hearts : List HeartState

-- a hub's heart has this k and this number of updaters
pub record IsHeartOf (k n : ℕ) (h : HeartState) : Type 0 where
  pub numbers : h.view.numbers ≡ k ∷ []
  pub updaters : h.updaters ≡ n

-- what is true of all tenants
pub record AreTenants (hosts : TenantsState) : Type 0 where
  pub few : length hosts.names ≤ most_tenants
  pub different : AreDifferent hosts.names
  pub tenants : length hosts.hearts ≡ length hosts.names
  pub hubs : All (IsHeartOf hosts.k hosts.n) hosts.hearts

-- ---- the opening

-- tenants with these names, and a new hub of this shape for each
pub record AreNewTenants (names : List (List ℕ)) (shape : Sizes) (hosts : TenantsState) : Type 0 where
  pub names_are : hosts.names ≡ names
  pub k_is : hosts.k ≡ shape.k
  pub n_is : hosts.n ≡ shape.n
  pub tenants : length hosts.hearts ≡ length names
  pub hubs : All (IsNewHeart shape.n (shape.k ∷ []) [] shape.eager) hosts.hearts

-- an updater with this number, of this heart's hub, that has kept nothing
pub record IsNewUpdater (shape : Sizes) (number : ℕ) (h : HeartState) (u : UpdaterState) : Type 0 where
  pub new : IsNew theta_hint number shape.b h u
  pub numbers : u.view.numbers ≡ shape.k ∷ []

-- a desk with this number has a new updater of each tenant's hub
pub record IsNewDesk (hosts : TenantsState) (shape : Sizes) (quota number : ℕ) (d : DeskState) : Type 0 where
  pub names_are : d.names ≡ hosts.names
  pub quota_is : d.quota ≡ quota
  pub number_is : d.number ≡ number
  pub tenants : length d.updaters ≡ length hosts.hearts
  pub updaters : (t : ℕ) (h : HeartState) (u : UpdaterState) → t < length d.updaters
      → IsNewUpdater shape number (slice_index_or hosts.hearts t h) (slice_index_or d.updaters t u)

-- each desk at the place of its number
abbrev pub AreNewDesks : TenantsState → Sizes → ℕ → List DeskState → Type 0
AreNewDesks hosts shape quota desks = (i : ℕ) (d : DeskState) → i < length desks → IsNewDesk hosts shape quota i (slice_index_or desks i d)

-- ---- the end

-- each updater is of the hub of the heart at its place
pub record AreOfHubs (hearts : List HeartState) (updaters : List UpdaterState) : Type 0 where
  pub count : length updaters ≡ length hearts
  pub tables : (t : ℕ) (h : HeartState) (u : UpdaterState) → t < length hearts → (slice_index_or updaters t u).table ≡ (slice_index_or hearts t h).table

-- each heart drained the updater at its place
pub record DrainEach (hearts : List HeartState) (updaters : List UpdaterState) (hearts' : List HeartState) : Type 0 where
  pub count : length hearts' ≡ length hearts
  pub drains : (t : ℕ) (h : HeartState) (u : UpdaterState) → t < length hearts → IsDrained (slice_index_or hearts t h) (slice_index_or updaters t u) (slice_index_or hearts' t h)

-- for each tenant the desk has an updater of that tenant's hub
pub record IsDeskOf (hosts : TenantsState) (d : DeskState) : Type 0 where
  pub tenants : length d.updaters ≡ length hosts.hearts
  pub tables : (t : ℕ) (h : HeartState) (u : UpdaterState) → t < length d.updaters
      → (slice_index_or d.updaters t u).table ≡ (slice_index_or hosts.hearts t h).table

-- each heart drained the desk's updater of its hub
pub record DrainsDesk (hosts : TenantsState) (d : DeskState) (hosts' : TenantsState) : Type 0 where
  pub stays : hosts' ≡ record hosts { hearts = hosts'.hearts }
  pub tenants : length hosts'.hearts ≡ length hosts.hearts
  pub drains : (t : ℕ) (h : HeartState) (u : UpdaterState) → t < length hosts.hearts
      → IsDrained (slice_index_or hosts.hearts t h) (slice_index_or d.updaters t u) (slice_index_or hosts'.hearts t h)

-- each desk at the place of its number
abbrev pub AreNumbered : List DeskState → Type 0
AreNumbered desks = (i : ℕ) (d : DeskState) → i < length desks → (slice_index_or desks i d).number ≡ i

-- of each desk the updater for the tenant at this place
abbrev pub updaters_for : ℕ → List DeskState → UpdaterState → List UpdaterState
updaters_for t desks u = map (λ d. slice_index_or d.updaters t u) desks

-- each heart drained all desks' updaters of its hub, in the order of their numbers
pub record DrainsDesks (hosts : TenantsState) (desks : List DeskState) (hosts' : TenantsState) : Type 0 where
  pub stays : hosts' ≡ record hosts { hearts = hosts'.hearts }
  pub tenants : length hosts'.hearts ≡ length hosts.hearts
  pub drains : (t : ℕ) (h : HeartState) (u : UpdaterState) → t < length hosts.hearts
      → DrainsAll (slice_index_or hosts.hearts t h) (updaters_for t desks u) (slice_index_or hosts'.hearts t h)

-- each heart has taken in the desk's updater of its hub, whatever it has done since
pub record HasTakenInDesk (hosts : TenantsState) (d : DeskState) : Type 0 where
  pub tenants : length d.updaters ≡ length hosts.hearts
  pub numbers : All (λ u. u.number ≡ d.number) d.updaters
  pub taken_in : (t : ℕ) (h : HeartState) (u : UpdaterState) → t < length d.updaters
      → HasTakenIn (slice_index_or hosts.hearts t h) (slice_index_or d.updaters t u)

-- the heart of the tenant at this place was asked
pub record AreAskedFor (hosts : TenantsState) (t word : ℕ) (hosts' : TenantsState) : Type 0 where
  pub before : HeartState
  pub after : HeartState
  pub is_at : slice_get hosts.hearts t ≡ Some before
  pub hub : IsHeartOf hosts.k hosts.n before
  pub sized : length before.view.sizes ≡ before.updaters
  pub reply : IsRelaxedReply theta_word before.view word after.view
  pub drained : HasDrained before.view after.view
  pub stays : hosts' ≡ record hosts { hearts = slice_set hosts.hearts t after }

-- ---- what was taken in all

-- desk i, from its opening on: these calls were made on it, and then it was drained
pub record WasUsed (opened : TenantsState) (shape : Sizes) (quota : ℕ) (hosts : TenantsState) (i : ℕ) (calls : List (ℕ × Call)) : Type 0 where
  pub first : DeskState
  pub last : DeskState
  pub new : IsNewDesk opened shape quota i first
  pub done : AreDone first calls last
  pub taken_in : HasTakenInDesk hosts last

-- updater i of the tenant at this place was drained
pub record HasFinished (hosts : TenantsState) (t i : ℕ) (last : UpdaterState) : Type 0 where
  pub number : last.number ≡ i
  pub taken_in : (h : HeartState) → HasTakenIn (slice_index_or hosts.hearts t h) last

-- new at first, it took these items, and then was drained
pub record WasFed (hosts : TenantsState) (t i : ℕ) (items : List ℕ) : Type 0 where
  pub first : UpdaterState
  pub last : UpdaterState
  pub numbers : first.view.numbers ≡ hosts.k ∷ []
  pub none : kept_of first ≡ []
  pub takes : TakesItems first items last
  pub are_items : AreItems items
  pub finished : HasFinished hosts t i last
