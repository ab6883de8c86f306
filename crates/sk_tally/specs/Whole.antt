-- A tally that nobody asks for before its end: how its hub was fed, and what it publishes then.
use Rattle.std.specs.Prelude.{◌≡◌, ℕ, ◌<◌, List, [], ◌∷◌, ◌++◌, length, is_some, slice_index_or}
use Rattle.sk_model.specs.Entries.{Entry, items_of_entries}
use Rattle.sk_cms.specs.Estimate.{least_of}
use Rattle.sk_cms.specs.ItemCounts.{item_of}
use Rattle.sk_cms.specs.Tallies.{rows_of, width_of}
use Rattle.sk_hub.specs.Updaters.{UpdaterState, kept_of}
use Rattle.sk_read.specs.declared.items.Intake.{Intake}
use Rattle.sk_read.specs.declared.kind.Kind.TheVariants.{Hash}
use Rattle.sk_feed.specs.Hubs.{Hub, IsHub}
use Rattle.sk_feed.specs.Shares.{HasAllOf}
use Rattle.sk_tell.specs.Feeding.{Course}
use Rattle.sk_tell.specs.Manners.{window_by, share_of}
use Rattle.sk_tally.specs.declared.plan.Plan.{Plan}
use Rattle.sk_tally.specs.Plans.{tally_manner}

-- what a plan reads of a source of fewer bytes than this
abbrev pub tally_intake : Plan → ℕ → Intake
tally_intake plan most = record {
  kind = Hash plan.seed;
  column = plan.column;
  window = window_by plan.window;
  interim = is_some plan.window;
  propagator = plan.propagator;
  most = most;
}

-- all lines were fed, with no moment between them: each updater kept its share
pub record FedWhole (plan : Plan) (a b : Hub) (units : List (List ℕ)) : Type 0 where
  pub course : Course (tally_manner plan) units
  pub none : course.moments ≡ []
  pub count : length b.updaters ≡ plan.updaters
  pub kept : (i : ℕ) (d : UpdaterState) → i < length b.updaters → kept_of (slice_index_or b.updaters i d) ≡ share_of (tally_manner plan) (course.windows ++ course.rest ∷ []) i
  pub whole : IsHub b
  pub numbers : b.heart.view.numbers ≡ a.heart.view.numbers

-- n and least are of a list that has exactly what the updaters of a hub kept
pub record TalliesHub (hub : Hub) (n least : ℕ) : Type 0 where
  pub list : List Entry
  pub has_all : HasAllOf list hub.updaters
  pub count : n ≡ length list
  pub value : least ≡ least_of (rows_of hub.heart.view.numbers) (width_of hub.heart.view.numbers) (item_of hub.heart.view.numbers) (items_of_entries list)
