-- Where a count stands between two windows, and what it says of windows that were fed and reported.
use Rattle.std.specs.Prelude.{◌≡◌, ◌⊎◌, ℕ, ◌<◌, Bool, List, ◌++◌, length, nat_lt, All, is_some, slice_index_or}
use Rattle.std.specs.Io.KnownBytes.{Appends}
use Rattle.sk_model.specs.Entries.{Entry, items_of_entries}
use Rattle.sk_model.specs.Missing.{Begins}
use Rattle.sk_model.specs.Sketch.{theta_of}
use Rattle.sk_compose.specs.Numbers.{k_of}
use Rattle.sk_machine.specs.declared.views.Move.{Move}
use Rattle.sk_hub.specs.Hearts.{HeartState}
use Rattle.sk_hub.specs.Updaters.{UpdaterState, base_of, kept_of}
use Rattle.sk_read.specs.declared.items.Intake.{Intake}
use Rattle.sk_read.specs.Items.{IsGood}
use Rattle.sk_feed.specs.Hubs.{Hub}
use Rattle.sk_fill.specs.Windows.{AreWindows}
use Rattle.sk_feed.specs.Shares.{share}
use Rattle.sk_count.specs.declared.plan.Plan.{Plan}
use Rattle.sk_report.specs.Sizes.{size_at}
use Rattle.sk_count.specs.Plans.{lines_of_window}
use Rattle.sk_count.specs.Moments.{Moment, kept_by, AreKeptOver, AreMoments}
use Rattle.sk_count.specs.Texts.{interim_text, places_after}
use Rattle.sk_count.specs.Hubs.{AsksAtEach, HasSizes, HaveSeen}
use Rattle.sk_count.specs.Reports.{Showing}

-- ---- what is read

-- what a plan reads, with reports or without
abbrev pub intake_with : Plan → ℕ → Bool → Intake
intake_with plan most interim = record { kind = plan.kind; column = plan.column; window = lines_of_window plan; interim = interim; propagator = plan.propagator; most = most }

-- with reports if a window is asked for
abbrev pub intake_by : Plan → ℕ → Intake
intake_by plan most = intake_with plan most (is_some plan.window)

-- how the heap filters: whether a hint keeps an item, and the hint of a list
abbrev pub keeps : ℕ → ℕ → Bool
keeps hint item = nat_lt item hint

abbrev pub hint_of : List ℕ → List Entry → ℕ
hint_of numbers list = theta_of (k_of numbers) (items_of_entries list)

-- ---- updaters

-- updater i has kept its share of these windows, and has the size and the sketch of the plan
pub record Took (plan : Plan) (windows : List (List (List ℕ))) (i : ℕ) (u : UpdaterState) : Type 0 where
  pub kept : AreKeptOver plan.k (base_of u) (share plan.kind windows plan.updaters i) (kept_of u)
  pub size : u.size ≡ size_at plan.sizes i
  pub k : k_of u.view.numbers ≡ plan.k

-- each of them has
pub record TookAll (plan : Plan) (windows : List (List (List ℕ))) (us : List UpdaterState) : Type 0 where
  pub count : length us ≡ plan.updaters
  pub each : (i : ℕ) (d : UpdaterState) → i < length us → Took plan windows i (slice_index_or us i d)

-- the same heart, which has drained nobody since
pub record HeartStays (h h' : HeartState) : Type 0 where
  pub table : h'.table ≡ h.table
  pub drained : h'.view.drained ≡ h.view.drained
  pub numbers : h'.view.numbers ≡ h.view.numbers
  pub eager : h'.eager ≡ h.eager

-- each updater has kept no less
abbrev pub KeptAll : List UpdaterState → List UpdaterState → Type 0
KeptAll us us' = (i : ℕ) (d : UpdaterState) → i < length us → Begins (kept_of (slice_index_or us i d)) (kept_of (slice_index_or us' i d))

-- each updater had kept no less than at a moment
abbrev pub KeepsAll : List UpdaterState → Moment → Type 0
KeepsAll us m = (i : ℕ) (d : UpdaterState) → i < length us → Begins (kept_by m i) (kept_of (slice_index_or us i d))

-- ---- between two windows

-- after these windows, the last moment being this one; each updater has seen what the token has
pub record Stands (plan : Plan) (windows : List (List (List ℕ))) (last : Moment) (a : Hub) (r : Showing) : Type 0 where
  pub took : TookAll plan windows a.updaters
  pub token : k_of a.token.view.numbers ≡ plan.k
  pub k : r.k ≡ plan.k
  pub seen : Begins last.seen a.token.view.seen
  pub kept : KeepsAll a.updaters last
  pub heard : HaveSeen a.updaters a.token.view.seen

-- how windows were fed and reported, from one hub and report to others; these are all windows so far
pub record Passes (plan : Plan) (windows : List (List (List ℕ))) (a : Hub) (r : Showing) (b : Hub) (s : Showing) : Type 0 where
  pub moments : List Moment
  pub written : Appends r.written s.written (interim_text plan.k r.places moments)
  pub places : s.places ≡ places_after plan.k r.places moments
  pub steps : (asks : List Move) × (b.token.view.steps ≡ a.token.view.steps ++ asks) × AsksAtEach plan.k plan.updaters moments asks
  pub grows : Begins a.token.view.seen b.token.view.seen
  pub seen : All (λ m. Begins m.seen b.token.view.seen) moments
  pub more : KeptAll a.updaters b.updaters
  pub kept : All (KeepsAll b.updaters) moments
  pub heart : HeartStays a.heart b.heart
  pub table : b.token.table ≡ a.token.table
  -- the token waited, or knows the sizes of the updaters that it met
  pub sizes : ((length moments ≡ 0) × (b.token ≡ a.token)) ⊎ HasSizes plan b.token
  pub last : Moment
  pub stands : Stands plan windows last b s

-- units went through: their windows were fed and reported, and the rest was not fed
pub record PassesUnits (plan : Plan) (units : List (List ℕ)) (a : Hub) (r : Showing) (rest : List (List ℕ)) (b : Hub) (s : Showing) : Type 0 where
  pub windows : List (List (List ℕ))
  pub cut : AreWindows (lines_of_window plan) units windows rest
  pub good : All (IsGood plan.kind) units
  pub passes : Passes plan windows a r b s
  pub asks : AreMoments plan windows passes.moments
