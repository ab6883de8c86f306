-- What it means that a source's units were fed to a hub, window by window, and reported.
use Rattle.std.specs.Prelude.{◌≡◌, ◌⊎◌, ℕ, ◌+◌, ◌<◌, Bool, true, List, [], ◌∷◌, ◌++◌, length, All, Option, IsNone}
use Rattle.std.specs.Bool.{MatchBool}
use Rattle.sk_model.specs.Entries.{Entry}
use Rattle.sk_read.specs.Items.{item_of, IsGood}
use Rattle.sk_read.specs.Reads.{ReadsAll, Ends}
use Rattle.sk_read.specs.declared.fault.Fault.{Fault}
use Rattle.sk_read.specs.declared.fault.Fault.TheVariants as fault
use Rattle.sk_read.specs.declared.items.Intake.{Intake}
use Rattle.sk_read.specs.declared.units.Units.{Units}
use Rattle.sk_ingest.specs.declared.report.Stop.{Stop}
use Rattle.sk_ingest.specs.declared.report.Stop.TheVariants as stop
use Rattle.sk_fill.specs.Windows.{AreWindows}
use Rattle.sk_feed.specs.Hubs.{Hub, IsHub, FeedsWindow, LeavesHub, AreSettled}

-- what a run goes by: how a kind of sketch filters, what a report does at a line, and what if it stops there, and the
-- plan
pub record Terms (R : Type 0) : Type 1 where
  pub keeps : ℕ → ℕ → Bool
  pub hint_of : List ℕ → List Entry → ℕ
  pub reports : R → ℕ → Hub → Hub → R → Type 0
  pub breaks : R → Stop → ℕ → Hub → Hub → R → Type 0
  pub plan : Intake

abbrev pub terms_of : {R : Type 0} → (ℕ → ℕ → Bool) → (List ℕ → List Entry → ℕ) → (R → ℕ → Hub → Hub → R → Type 0) → (R → Stop → ℕ → Hub → Hub → R → Type 0) → Intake → Terms R
terms_of keeps hint_of reports breaks plan = record { keeps = keeps; hint_of = hint_of; reports = reports; breaks = breaks; plan = plan }

-- ---- windows

-- each updater took its share of a window
abbrev pub Feeds : {R : Type 0} → Terms R → List (List ℕ) → Hub → Hub → Type 0
Feeds t lines a b = FeedsWindow t.plan.propagator t.keeps t.hint_of t.plan.kind lines a b

-- what a report meets: the handles of one hub, and with a propagator each updater is settled
pub record IsReady (plan : Intake) (a : Hub) : Type 0 where
  pub hub : IsHub a
  pub settled : plan.propagator ≡ true → AreSettled a.updaters

-- the hub was reported at this line, if interim replies are wanted
abbrev pub IsReported : {R : Type 0} → Terms R → ℕ → Hub → R → Hub → R → Type 0
IsReported t line a r b s = MatchBool t.plan.interim (IsReady t.plan a × LeavesHub a b × IsHub b × t.reports r line a b s) ((b ≡ a) × (s ≡ r))

-- windows were fed and reported one after another, the first after this many lines
unfoldable pub Reported : {R : Type 0} → Terms R → ℕ → List (List (List ℕ)) → Hub → R → Hub → R → Type 0
Reported t before [] a r b s = (b ≡ a) × (s ≡ r)
Reported {R} t before (lines ∷ more) a r b s = (x : Hub) × (y : Hub) × (p : R) × Feeds t lines a x × IsReported t (before + length lines) x r y p
    × Reported t (before + length lines) more y p b s

-- ---- units

-- each unit is empty or an item; the windows that they fill were fed and reported, and the rest was not fed
pub record GoesThrough {R : Type 0} (t : Terms R) (units : List (List ℕ)) (a : Hub) (r : R) (rest : List (List ℕ)) (b : Hub) (s : R) : Type 0 where
  pub windows : List (List (List ℕ))
  pub cut : AreWindows t.plan.window units windows rest
  pub good : All (IsGood t.plan.kind) units
  pub reported : Reported t 0 windows a r b s

-- and then the rest was fed
pub record Ingests {R : Type 0} (t : Terms R) (units : List (List ℕ)) (a : Hub) (r : R) (b : Hub) (s : R) : Type 0 where
  pub rest : List (List ℕ)
  pub between : Hub
  pub goes : GoesThrough t units a r rest between s
  pub last : Feeds t rest between b
  pub hub : IsHub b

-- the last of these units fills a window, which was fed; its report stopped
pub record StopsAtReport {R : Type 0} (t : Terms R) (how : Stop) (units : List (List ℕ)) (a : Hub) (r s : R) : Type 0 where
  pub windows : List (List (List ℕ))
  pub lines : List (List ℕ)
  pub cut : AreWindows t.plan.window units (windows ++ lines ∷ []) []
  pub good : All (IsGood t.plan.kind) units
  pub interim : t.plan.interim ≡ true
  pub before : Hub
  pub report : R
  pub reported : Reported t 0 windows a r before report
  pub fed : Hub
  pub feeds : Feeds t lines before fed
  pub ready : IsReady t.plan fed
  pub left : Hub
  pub stops : t.breaks report how (length units) fed left s

-- ---- how it ends early

-- the report went through the windows that these units fill
abbrev pub GoesSoFar : {R : Type 0} → Terms R → Hub → R → R → List (List ℕ) → Type 0
GoesSoFar t a r s units = (rest : List (List ℕ)) × (b : Hub) × GoesThrough t units a r rest b s

-- after these units comes one that is no item, or that fills a window whose report stopped, or memory ran out
abbrev pub StopsAtUnit : {R : Type 0} → Terms R → Hub → R → R → Fault → List (List ℕ) → List ℕ → Type 0
StopsAtUnit t a r s (fault.BadItem n) units unit = GoesSoFar t a r s units × (0 < length unit) × IsNone (item_of t.plan.kind unit)
StopsAtUnit t a r s fault.WriteFault units unit = StopsAtReport t stop.Failed (units ++ unit ∷ []) a r s
StopsAtUnit t a r s fault.OutOfMemory units unit = GoesSoFar t a r s units ⊎ StopsAtReport t stop.OutOfMemory (units ++ unit ∷ []) a r s
StopsAtUnit t a r s fault.ReadFault units unit = ⊥
StopsAtUnit t a r s fault.TooMuch units unit = ⊥
StopsAtUnit t a r s (fault.LongLine n) units unit = ⊥
StopsAtUnit t a r s (fault.BadCsv n) units unit = ⊥

-- the reading, whose last read gave this many bytes, ended before the source did, or memory ran out for the last window
-- of a source read to its end
abbrev pub EndsEarly : {R : Type 0} → Terms R → ℕ → Units → Option (List ℕ) → Option (List ℕ) → Hub → R → R → Fault → Type 0
EndsEarly t last units left left' a r s why = Ends last units t.plan.most (GoesSoFar t a r s) (StopsAtUnit t a r s) left left' why
    ⊎ ((why ≡ fault.OutOfMemory) × ((n : ℕ) × ReadsAll units t.plan.most n (GoesSoFar t a r s) left left'))
