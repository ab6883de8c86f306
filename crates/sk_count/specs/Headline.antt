-- The headline: what a count that ends well has written of its units, in every interleaving of its threads, and what it
-- leaves to show it.
use Rattle.std.specs.Prelude.{◌≡◌, ℕ, ◌+◌, ◌<◌, List, [], ◌∷◌, ◌++◌, length, take, All, AllPairs, Contains, Some, slice_index_or}
use Rattle.sk_model.specs.Entries.{Entry, items_of_entries}
use Rattle.sk_model.specs.Missing.{Begins}
use Rattle.sk_gate.specs.Hands.{TokenState}
use Rattle.sk_hub.specs.Hearts.{HeartState}
use Rattle.sk_read.specs.Items.{items_by, IsGood}
use Rattle.sk_fill.specs.Windows.{AreWindows}
use Rattle.sk_watch.specs.Places.{Place}
use Rattle.sk_report.specs.declared.remains.Remains.{Remains}
use Rattle.sk_count.specs.declared.plan.Plan.{Plan}
use Rattle.sk_count.specs.Plans.{lines_of_window}
use Rattle.sk_count.specs.Moments.{Moment, moments_due, Follows, IsMoment}
use Rattle.sk_count.specs.Texts.{interim_by, places_by, last_lines}
use Rattle.sk_count.specs.Hubs.{ShowsAll, ShowsMoments}

-- the heart and the token of the one hub that counted: the heart drained all updaters, and the token asked at each moment.
-- All lists are one: what the token saw begins what the heart saw last
pub record ShowsCount (plan : Plan) (units : List (List ℕ)) (windows : List (List (List ℕ))) (moments : List Moment) (remains : Remains) : Type 0 where
  pub heart : HeartState
  pub token : TokenState
  pub left : remains ≡ record { heart = Some heart; token = Some token }
  pub hub : token.table ≡ heart.table
  pub shows : ShowsAll plan (items_by plan.kind units) windows moments heart
  pub asked : ShowsMoments plan moments token
  pub one : Begins token.view.seen heart.view.seen

pub record CountsExactly (plan : Plan) (units : List (List ℕ)) (board board' : List Place) (remains : Remains) (text : List ℕ) : Type 0 where
  -- no unit is refused; they are full windows and a rest, with a moment after each window if one is asked for
  pub good : All (IsGood plan.kind) units
  pub windows : List (List (List ℕ))
  pub rest : List (List ℕ)
  pub cut : AreWindows (lines_of_window plan) units windows rest
  pub moments : List Moment
  pub asked : length moments ≡ moments_due plan windows
  -- 1. it wrote the estimate of each moment's list, with the alarms that it set off, and last one thread's of all items
  pub written : text ≡ interim_by plan board moments ++ last_lines plan units
  pub alarms : board' ≡ places_by plan board moments
  -- 2. the lists are one list of updates that only grows
  pub grows : AllPairs (Follows plan.updaters) moments
  -- 3. after a window it has of each updater's share only what that kept, and lacks of it at most the last buffer, or two
  -- with no propagator
  pub lacks : (j : ℕ) (d : Moment) → j < length moments → IsMoment plan (take (j + 1) windows) (slice_index_or moments j d)
  -- 4. one hub did this, whose heart and token are left to show it
  pub shown : ShowsCount plan units (windows ++ rest ∷ []) moments remains

-- an interim list has only items of the units that were read by then, and begins the last list
pub record IsBounded (plan : Plan) (units : List (List ℕ)) (last : List Entry) (m : Moment) : Type 0 where
  pub items : (item : ℕ) → Contains (items_of_entries m.seen) item → Contains (items_by plan.kind (take m.lines units)) item
  pub begins : Begins m.seen last
