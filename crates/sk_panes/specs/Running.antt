-- What is true of panes on their way over lines.
use Rattle.std.specs.Prelude.{◌≡◌, ◌⊎◌, ℕ, ◌-◌, ◌/◌, ◌<◌, ◌≤◌, ◌&&◌, ◌==◌, nat_lt, if◌then◌else◌, Bool, List, [], ◌∷◌, length, map, filter, Option, Some, None}
use Rattle.std.specs.List.{range_with_len}
use Rattle.sk_model.specs.Entries.{Entry, items_of_entries}
use Rattle.sk_model.specs.Numbers.{number_of}
use Rattle.sk_model.specs.Sketch.{k_smallest, theta_of, fraction_of}
use Rattle.sk_model.specs.Width.{AreItems}
use Rattle.sk_compose.specs.Numbers.{k_of}
use Rattle.sk_hub.specs.Calls.{Takes}
use Rattle.sk_hub.specs.Hearts.{HeartState}
use Rattle.sk_hub.specs.Updaters.{UpdaterState, kept_of}
use Rattle.sk_label.specs.declared.fault.LineStop.{LineStop}
use Rattle.sk_label.specs.declared.fault.LineStop.TheVariants.{OutOfMemory, WriteFault, BadLine, Refused}
use Rattle.sk_window.specs.Intervals.{StandForEach, IsReplyOf}
use Rattle.sk_window.specs.Panes.{PanesState, HasTaken}
use Rattle.sk_panes.specs.Candidates.{CandidatesState, HaveSmallest}
use Rattle.sk_panes.specs.Plans.{IsWithin, frame_of}
use Rattle.sk_panes.specs.Panes.{moment_end, interval_of, item_of, running_after, pane_items, pane_text}
use Rattle.sk_panes.specs.declared.plan.Plan.{Plan}
use Rattle.sk_panes.specs.declared.running.Pane.{Pane}

-- ---- the items of intervals

-- whether a line that is not empty lies in interval j
abbrev pub is_in_interval : Plan → ℕ → List ℕ → Bool
is_in_interval plan j line = nat_lt 0 (length line) && (interval_of plan line == j)

-- the items of the lines that lie in interval j
abbrev pub items_of_interval : Plan → List (List ℕ) → ℕ → List ℕ
items_of_interval plan lines j = map (item_of plan) (filter (is_in_interval plan j) lines)

-- how many intervals a pane is of before its own
abbrev pub earlier_in : Plan → ℕ
earlier_in plan = plan.last - 1

-- the same, with intervals counted from the first one that pane 0 is of: those before interval 0 have no items
unfoldable pub items_at : Plan → List (List ℕ) → ℕ → List ℕ
items_at plan lines place = if nat_lt place (earlier_in plan) then [] else items_of_interval plan lines (place - earlier_in plan)

-- the lists of the closed intervals that a pane of interval c is of, oldest first
abbrev pub lists_before : Plan → List (List ℕ) → ℕ → List (List ℕ)
lists_before plan lines c = map (items_at plan lines) (range_with_len c (earlier_in plan))

-- ---- the updater

-- how a hint filters, and the hint of a list
abbrev pub keeps : ℕ → ℕ → Bool
keeps hint item = nat_lt item hint

abbrev pub hint_of : List ℕ → List Entry → ℕ
hint_of numbers list = theta_of (k_of numbers) (items_of_entries list)

-- an updater that is alone in its hub has taken these items since it was new
pub record HasFed (plan : Plan) (heart : HeartState) (items : List ℕ) (u : UpdaterState) : Type 0 where
  pub table : u.table ≡ heart.table
  pub first : UpdaterState
  pub none : kept_of first ≡ []
  pub numbers : first.view.numbers ≡ plan.k ∷ []
  pub alone : length first.view.sizes ≡ 1
  pub takes : Takes keeps hint_of first items u

-- it is the only one of these
pub record FeedsOne (plan : Plan) (heart : HeartState) (items : List ℕ) (us : List UpdaterState) : Type 0 where
  pub one : UpdaterState
  pub only : us ≡ one ∷ []
  pub fed : HasFed plan heart items one

-- the only one has taken items with the k smallest of these
pub record FeedsSmallest (plan : Plan) (heart : HeartState) (items : List ℕ) (us : List UpdaterState) : Type 0 where
  pub taken : List ℕ
  pub small : AreItems taken
  pub same : k_smallest plan.k taken ≡ k_smallest plan.k items
  pub feeds : FeedsOne plan heart taken us

-- ---- the panes

-- interval c runs, each line went to the interval that it lies in, and the updater has taken nothing yet
pub record Stands (plan : Plan) (lines : List (List ℕ)) (c : ℕ) (p : PanesState) (us : List UpdaterState) (held : CandidatesState) : Type 0 where
  pub within : IsWithin plan
  pub frame : p.frame ≡ frame_of plan
  pub k : p.shape.k ≡ plan.k
  pub one : p.shape.n ≡ 1
  pub running : p.running ≡ c
  pub closed : StandForEach plan.k p.closed (lists_before plan lines c)
  pub none : HasTaken p []
  pub feeds : FeedsOne plan p.heart [] us
  pub held_k : held.k ≡ plan.k
  pub held_is : HaveSmallest (items_of_interval plan lines c) held

-- a label is kept only if its moment lies in interval c
abbrev pub IsLabelIn : Plan → ℕ → List ℕ → Type 0
IsLabelIn plan c label = (label ≡ []) ⊎ ((moment : ℕ) × (number_of moment_end label ≡ Some moment) × (moment / plan.span ≡ c))

-- the latest interval of these lines runs
pub record StandsAfter (plan : Plan) (lines : List (List ℕ)) (p : PanesState) (us : List UpdaterState) (held : CandidatesState) (label : List ℕ) : Type 0 where
  pub stands : Stands plan lines (running_after plan lines) p us held
  pub label_is : IsLabelIn plan (running_after plan lines) label

-- ---- a line

-- the pane of the latest interval of these lines
pub record IsLast (plan : Plan) (lines : List (List ℕ)) (pane : Pane) : Type 0 where
  pub interval_is : pane.interval ≡ running_after plan lines
  pub reply_is : IsReplyOf plan.k (pane_items plan (running_after plan lines) lines) pane.reply

-- a pane is due if an interval has ended, which these lines had reached
abbrev pub IsDue : Plan → List (List ℕ) → ℕ → Option Pane → Type 0
IsDue plan lines c None = running_after plan lines ≡ c
IsDue plan lines c (Some pane) = (running_after plan lines < c) × IsLast plan lines pane

-- after these lines a moment came
pub record ComesTo (plan : Plan) (lines : List (List ℕ)) (c : ℕ) (pane : Option Pane) (p : PanesState) (us : List UpdaterState) (held : CandidatesState) : Type 0 where
  pub later : running_after plan lines ≤ c
  pub stands : Stands plan lines c p us held
  pub due : IsDue plan lines c pane

-- the same, of a label
pub record TakesLabel (plan : Plan) (lines : List (List ℕ)) (label : List ℕ) (pane : Option Pane) (p : PanesState) (us : List UpdaterState) (held : CandidatesState) (label' : List ℕ) : Type 0 where
  pub moment : ℕ
  pub moment_is : number_of moment_end label ≡ Some moment
  pub comes : ComesTo plan lines (moment / plan.span) pane p us held
  pub label_is : IsLabelIn plan (moment / plan.span) label'

-- why a label was not taken
abbrev pub RefusesLabel : Plan → List (List ℕ) → List ℕ → LineStop → Type 0
RefusesLabel plan lines label OutOfMemory = Unit {0}
RefusesLabel plan lines label WriteFault = ⊥
RefusesLabel plan lines label BadLine = number_of moment_end label ≡ None
RefusesLabel plan lines label Refused = (moment : ℕ) × (number_of moment_end label ≡ Some moment) × (moment / plan.span < running_after plan lines)

-- the numbers of a plan
abbrev pub numbers_of : Plan → List ℕ
numbers_of plan = plan.k ∷ plan.size ∷ plan.seed ∷ plan.span ∷ plan.last ∷ []

-- ---- what is written

-- a reply is that of some items
abbrev pub HasReply : ℕ → Pane → Type 0
HasReply k pane = (items : List ℕ) × IsReplyOf k items pane.reply

-- the line of a pane
abbrev pub reply_text : ℕ → Pane → List ℕ
reply_text k pane = pane_text pane.interval (fraction_of k pane.reply.count pane.reply.theta)

-- the line of a pane that is due, if one is
abbrev pub due_text : ℕ → Option Pane → List ℕ
due_text k None = []
due_text k (Some pane) = reply_text k pane
