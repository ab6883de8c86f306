-- How tenants' hubs are opened, and their updaters dealt to the desks.
use Rattle.std.specs.Prelude.{◌≡◌, ℕ, ◌<◌, List, [], ◌∷◌, ◌++◌, length, All, slice_index_or}
use Rattle.sk_theta.specs.Sizes.{Sizes}
use Rattle.sk_hub.specs.Updaters.{UpdaterState, kept_of}
use Rattle.sk_hub.specs.Hearts.{HeartState}
use Rattle.sk_hub.specs.Starts.{IsNewHeart}
use Rattle.sk_tenant.specs.Desks.{DeskState}
use Rattle.sk_tenant.specs.Hosts.{IsNewUpdater}

-- each list has one updater more, the one at its place
pub record AreDealt (updaters : List UpdaterState) (old new : List (List UpdaterState)) : Type 0 where
  pub as_many : length updaters ≡ length old
  pub count : length new ≡ length old
  pub each : (i : ℕ) (l : List UpdaterState) (u : UpdaterState) → i < length old → slice_index_or new i l ≡ slice_index_or old i l ++ slice_index_or updaters i u ∷ []

-- each list has one updater more, a new one of this heart's hub with the list's number
pub record DealsHub (shape : Sizes) (h : HeartState) (old new : List (List UpdaterState)) : Type 0 where
  pub hub : IsNewHeart shape.n (shape.k ∷ []) [] shape.eager h
  pub dealt_updaters : List UpdaterState
  pub dealt : AreDealt dealt_updaters old new
  pub new_ones : (i : ℕ) (u : UpdaterState) → i < length old → IsNewUpdater shape i h (slice_index_or dealt_updaters i u)

-- this many hubs were opened: their hearts, and for each number the list of the updaters that have it
pub record AreNewHubs (shape : Sizes) (count : ℕ) (hearts : List HeartState) (lists : List (List UpdaterState)) : Type 0 where
  pub tenants : length hearts ≡ count
  pub hubs : All (IsNewHeart shape.n (shape.k ∷ []) [] shape.eager) hearts
  pub desks : length lists ≡ shape.n
  pub full : All (λ l. length l ≡ count) lists
  pub updaters : (i t : ℕ) (l : List UpdaterState) (h : HeartState) (u : UpdaterState) → i < length lists → t < count
      → IsNewUpdater shape i (slice_index_or hearts t h) (slice_index_or (slice_index_or lists i l) t u)

-- updaters with this number for all of these names, which have kept nothing
pub record AreUnused (number tenants : ℕ) (us : List UpdaterState) : Type 0 where
  pub count : length us ≡ tenants
  pub numbers : All (λ u. u.number ≡ number) us
  pub none : All (λ u. kept_of u ≡ []) us

-- each list is of updaters with its number
abbrev pub AreUnusedLists : ℕ → List (List UpdaterState) → Type 0
AreUnusedLists tenants lists = (i : ℕ) (l : List UpdaterState) → i < length lists → AreUnused i tenants (slice_index_or lists i l)

-- a desk for each list, at its place
pub record AreDesksOf (names : List (List ℕ)) (quota : ℕ) (lists : List (List UpdaterState)) (desks : List DeskState) : Type 0 where
  pub count : length desks ≡ length lists
  pub each : (i : ℕ) (l : List UpdaterState) (d : DeskState) → i < length desks
      → slice_index_or desks i d ≡ record { names = names; number = i; quota = quota; updaters = slice_index_or lists i l }
