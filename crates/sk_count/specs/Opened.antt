-- A hub as a count opens it, and how it was fed and drained.
use Rattle.std.specs.Prelude.{◌≡◌, ◌⊎◌, ℕ, ◌<◌, List, [], ◌∷◌, ◌++◌, length, Option, IsNone, true, slice_index_or, slice_index, is_some, All}
use Rattle.sk_model.specs.Entries.{items_of_entries}
use Rattle.sk_model.specs.Sketch.{packed_of}
use Rattle.sk_compose.specs.Numbers.{k_of}
use Rattle.sk_machine.specs.declared.views.Move.{Move}
use Rattle.sk_machine.specs.declared.views.Move.TheVariants.{Ask}
use Rattle.sk_hub.specs.Hearts.{HeartState}
use Rattle.sk_hub.specs.Updaters.{UpdaterState, kept_of}
use Rattle.sk_read.specs.Reads.{ReadsAll, Ends}
use Rattle.sk_read.specs.Units.{units_by}
use Rattle.sk_read.specs.declared.fault.Fault.{Fault}
use Rattle.sk_read.specs.declared.fault.Fault.TheVariants.{OutOfMemory, BadItem, WriteFault}
use Rattle.sk_feed.specs.Drained.{DrainsAll}
use Rattle.sk_feed.specs.Shares.{HasAllOf}
use Rattle.sk_feed.specs.Hubs.{Hub, IsHub, FeedsWindow}
use Rattle.sk_count.specs.declared.plan.Plan.{Plan}
use Rattle.sk_report.specs.Parts.{AppendsPartAfter}
use Rattle.sk_report.specs.Sizes.{size_at}
use Rattle.sk_count.specs.Plans.{lines_of_window}
use Rattle.sk_count.specs.Moments.{Moment, AreMoments}
use Rattle.sk_count.specs.Texts.{interim_text, places_after}
use Rattle.sk_count.specs.Reports.{Showing}
use Rattle.sk_count.specs.Steps.{keeps, hint_of, PassesUnits}
use Rattle.sk_fill.specs.Windows.{AreWindows}
use Rattle.sk_read.specs.Items.{item_of, IsGood}

-- one number for each updater, in order
pub record AreSizes (plan : Plan) (sizes : List ℕ) : Type 0 where
  pub count : length sizes ≡ plan.updaters
  pub each : (i : ℕ) → i < length sizes → slice_index sizes i ≡ size_at plan.sizes i

-- its updaters have kept nothing, and have the sizes of the plan; nobody is drained, and the token has seen nothing
pub record IsOpened (plan : Plan) (hub : Hub) : Type 0 where
  pub count : length hub.updaters ≡ plan.updaters
  pub kept : (i : ℕ) (d : UpdaterState) → i < length hub.updaters → kept_of (slice_index_or hub.updaters i d) ≡ []
  pub size : (i : ℕ) (d : UpdaterState) → i < length hub.updaters → (slice_index_or hub.updaters i d).size ≡ size_at plan.sizes i
  pub numbers : hub.heart.view.numbers ≡ plan.k ∷ []
  pub drained : hub.heart.view.drained ≡ []
  pub seen : hub.token.view.seen ≡ []
  pub eager : hub.heart.eager ≡ plan.eager
  pub whole : IsHub hub

-- all units were fed: those that fill windows, and then the rest
pub record FeedsAll (plan : Plan) (units : List (List ℕ)) (a : Hub) (r : Showing) (b : Hub) (s : Showing) : Type 0 where
  pub rest : List (List ℕ)
  pub between : Hub
  pub passes : PassesUnits plan units a r rest between s
  pub last : FeedsWindow plan.propagator keeps hint_of plan.kind rest between b
  pub hub : IsHub b

-- units were fed that fill windows
abbrev pub FeedsSome : Plan → Hub → Showing → Showing → List (List ℕ) → Type 0
FeedsSome plan a r s units = (rest : List (List ℕ)) × (b : Hub) × PassesUnits plan units a r rest b s

-- units were fed that end with a full window: the text of the moments before it was written whole, and of its own a part
pub record FeedsPart (plan : Plan) (units : List (List ℕ)) (r s : Showing) : Type 0 where
  pub windows : List (List (List ℕ))
  pub earlier : List Moment
  pub last : Moment
  pub cut : AreWindows (lines_of_window plan) units windows []
  pub good : All (IsGood plan.kind) units
  pub are : AreMoments plan windows (earlier ++ last ∷ [])
  pub written : AppendsPartAfter (interim_text plan.k r.places earlier) r.written s.written (interim_text plan.k r.places (earlier ++ last ∷ []))
  pub places : s.places ≡ places_after plan.k r.places (earlier ++ last ∷ [])

-- why the feeding of a hub stopped at a unit after these
abbrev pub FeedStops : Plan → Hub → Showing → Showing → Fault → List (List ℕ) → List ℕ → Type 0
FeedStops plan a r s (BadItem n) units unit = FeedsSome plan a r s units × (0 < length unit) × IsNone (item_of plan.kind unit)
FeedStops plan a r s WriteFault units unit = FeedsPart plan (units ++ unit ∷ []) r s
FeedStops plan a r s OutOfMemory units unit = FeedsSome plan a r s units
FeedStops plan a r s other units unit = ⊥

-- it ended before the source did, or no memory was found for the rest of a source read to its end
abbrev pub FeedsEarly : Plan → ℕ → ℕ → Hub → Showing → Showing → Option (List ℕ) → Option (List ℕ) → Fault → Type 0
FeedsEarly plan last most a r s left left' fault = Ends last (units_by plan.column) most (FeedsSome plan a r s) (FeedStops plan a r s) left left' fault
    ⊎ ((fault ≡ OutOfMemory) × ((n : ℕ) × ReadsAll (units_by plan.column) most n (FeedsSome plan a r s) left left'))

-- the heart took in these updaters, in number order, and then loaded the word of exactly what they kept
pub record DrainsAndAsks (h : HeartState) (us : List UpdaterState) (word : ℕ) (h' : HeartState) : Type 0 where
  pub drains : DrainsAll h us h'
  pub has : HasAllOf h'.view.seen us
  pub word_is : word ≡ packed_of (k_of h.view.numbers) (items_of_entries h'.view.seen)
  pub steps : (earlier : List Move) × (h'.view.steps ≡ earlier ++ Ask word ∷ [])
