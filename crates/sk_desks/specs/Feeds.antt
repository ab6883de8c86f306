-- What desks took of lines.
use Rattle.std.specs.Prelude.{◌≡◌, ℕ, ◌+◌, ◌<◌, ◌≤◌, List, [], ◌∷◌, length, map, slice_index_or}
use Rattle.sk_model.specs.Limits.{most_kept}
use Rattle.sk_hub.specs.Updaters.{UpdaterState, kept_of}
use Rattle.sk_fill.specs.Blocks.{blocks_of}
use Rattle.sk_read.specs.declared.kind.Kind.{Kind}
use Rattle.sk_read.specs.declared.kind.Kind.TheVariants.{Hash, Raw}
use Rattle.sk_tenant.specs.Names.{AreDifferent}
use Rattle.sk_tenant.specs.Calls.{Call, items_taken}
use Rattle.sk_tenant.specs.Desks.{DeskState, AreDone, calls_for}
use Rattle.sk_desks.specs.Desks.{items_for}

-- the seed by which a kind hashes
abbrev pub seed_of : Kind → ℕ
seed_of (Hash seed) = seed
seed_of Raw = 0

-- by calls on a desk each tenant of it took the items of these lines that are its own
pub record TakesLines (seed : ℕ) (d : DeskState) (lines : List (List ℕ)) (d' : DeskState) : Type 0 where
  pub calls : List (ℕ × Call)
  pub done : AreDone d calls d'
  pub took : (t : ℕ) → t < length d.names → items_taken (calls_for t calls) ≡ items_for seed (slice_index_or d.names t []) lines

-- calls for the tenant at this place took this item, and no other
pub record TakesItem (d : DeskState) (t item : ℕ) (d' : DeskState) : Type 0 where
  pub calls : List Call
  pub done : AreDone d (map (λ call. (t, call)) calls) d'
  pub took : items_taken calls ≡ item ∷ []

-- a desk has an updater for each of its names, all different
pub record HasTenants (d : DeskState) : Type 0 where
  pub different : AreDifferent d.names
  pub tenants : length d.updaters ≡ length d.names

-- it may keep this many items more for each tenant
abbrev pub HasRoom : ℕ → DeskState → Type 0
HasRoom count d = (t : ℕ) (u : UpdaterState) → t < length d.updaters → length (kept_of (slice_index_or d.updaters t u)) + count ≤ d.quota

-- the desk has kept nothing, and may keep 2^40 items
pub record IsUnused (names : List (List ℕ)) (d : DeskState) : Type 0 where
  pub has : HasTenants d
  pub names_are : d.names ≡ names
  pub quota_is : d.quota ≡ most_kept
  pub none : (t : ℕ) (u : UpdaterState) → t < length d.updaters → kept_of (slice_index_or d.updaters t u) ≡ []

-- it may keep this many items more for each tenant
pub record IsReadyFor (count : ℕ) (d : DeskState) : Type 0 where
  pub has : HasTenants d
  pub room : HasRoom count d

-- of a source of which this many lines came before, it may keep the items of all that come yet
pub record HasRoomAfter (count : ℕ) (d : DeskState) : Type 0 where
  pub has : HasTenants d
  pub room : (n : ℕ) → count + n ≤ most_kept → HasRoom n d

-- each desk took its blocks of these windows
pub record TakeBlocks (seed : ℕ) (desks : List DeskState) (windows : List (List (List ℕ))) (desks' : List DeskState) : Type 0 where
  pub count : length desks' ≡ length desks
  pub each : (i : ℕ) (d : DeskState) → i < length desks → TakesLines seed (slice_index_or desks i d) (blocks_of windows i (length desks)) (slice_index_or desks' i d)
