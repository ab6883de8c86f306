-- What `count` is asked, and what it does.
use Rattle.std.specs.Prelude.{◌≡◌, ℕ, ◌≤◌, List, ◌++◌, length, All, if◌then◌else◌, Option, None, IfSome, is_none, option_and_then, option_map}
use Rattle.sk_model.specs.Limits.{least_k, most_k, most_size, most_updaters, IsFrom}
use Rattle.sk_read.specs.declared.kind.Kind.{Kind}
use Rattle.sk_read.specs.declared.kind.Kind.TheVariants as kind
use Rattle.sk_read.specs.Units.{units_by}
use Rattle.sk_read.specs.declared.units.Units.{Units}
use Rattle.sk_fill.specs.Windows.{most_lines}
use Rattle.sk_count.specs.declared.plan.Plan.{Plan}
use Rattle.sk_count.specs.Plans as plans
use Rattle.sk_count.specs.Counts.{Course}
use Rattle.sk_count.specs.Headline.{CountsExactly}
use Rattle.sk_count.specs.Texts.{interim_by, places_by, last_lines}
use Rattle.sk_cli.specs.Behaviour.{Behaviour}
use Rattle.sk_cli.specs.Beside.{Beside, board_places, CountingHub}
use Rattle.sk_cli.specs.Told.{telling_on}
use Rattle.sk_cli.specs.Options.{Given, value_behind, is_given, number_in, column_by, seed_by, updaters_by, sizes_by, window_by, eager_by, propagator_by, alarms_by}
use Rattle.sk_cli.specs.declared.options.Name.TheVariants as name
use Rattle.sk_cli.specs.declared.commands.count.What.{What}
use Rattle.sk_cli.specs.declared.commands.count.How.{How}

-- ---- its plan

-- how a line that is not empty becomes an item: it spells one, or is hashed
abbrev pub kind_by : List Given → ℕ → Kind
kind_by given seed = if is_given name.Raw given then kind.Raw else kind.Hash seed

-- what is counted, and by how many hashes
abbrev pub what_by : List Given → Option What
what_by given =
    option_and_then (λ k. option_and_then (λ seed. option_map (λ column. record { k = k; kind = kind_by given seed; column = column }) (column_by given)) (seed_by given))
    (number_in least_k most_k 4096 (value_behind name.K given))

-- by which updaters, and what is told on the way
abbrev pub how_by : List Given → Option How
how_by given =
    option_and_then (λ updaters. option_and_then (λ sizes. option_and_then (λ window. option_and_then (λ eager. option_and_then (λ propagator.
    option_map (λ alarms. record { updaters = updaters; sizes = sizes; window = window; eager = eager; propagator = propagator; alarms = alarms })
    (alarms_by given)) (propagator_by given)) (eager_by given)) (window_by given)) (sizes_by given)) (updaters_by given)

abbrev pub plan_with : What → How → Plan
plan_with what how = record {
  k = what.k;
  kind = what.kind;
  column = what.column;
  sizes = how.sizes;
  updaters = how.updaters;
  window = how.window;
  eager = how.eager;
  propagator = how.propagator;
  alarms = how.alarms;
  made = None;
}

-- the plan that options spell
abbrev pub plan_by : List Given → Option Plan
plan_by given = option_and_then (λ what. option_map (λ how. plan_with what how) (how_by given)) (what_by given)

-- their numbers are within their limits
abbrev pub IsWhat : What → Type 0
IsWhat what = IsFrom least_k most_k what.k

pub record IsHow (how : How) : Type 0 where
  pub updaters : IsFrom 1 most_updaters how.updaters
  pub some : 1 ≤ length how.sizes
  pub sizes : All (IsFrom 1 most_size) how.sizes
  pub window : IfSome how.window (IsFrom 1 most_lines)
  pub alarms : length how.alarms ≤ board_places

-- its numbers are within their limits, and there are no more alarms than places
pub record IsWithin (plan : Plan) : Type 0 where
  pub numbers : plans.IsWithin plan
  pub alarms : length plan.alarms ≤ board_places

-- ---- what it does

-- what is counted: the lines, or the fields in a column of the records
abbrev pub counted : Plan → Units
counted plan = units_by plan.column

-- ---- what it writes, with a course of it: its units cut into windows, and a moment behind each full one

-- the interim text of these units, and the board after it: a line for each moment, with the alarms that its reply sets off
pub record IsInterim (plan : Plan) (from to : Beside) (units : List (List ℕ)) (due : List ℕ) : Type 0 where
  pub course : Course plan units
  pub is : due ≡ interim_by plan from.board course.moments
  pub board : to.board ≡ places_by plan from.board course.moments

-- the whole text of these units: the interim text with the board after it, and then one thread's estimate of all items
pub record IsWhole (plan : Plan) (from to : Beside) (units : List (List ℕ)) (due : List ℕ) : Type 0 where
  pub course : Course plan units
  pub is : due ≡ interim_by plan from.board course.moments ++ last_lines plan units
  pub board : to.board ≡ places_by plan from.board course.moments

-- once this is written, the headline is so of it: with the board as it is then, and the heart and the token that are left
abbrev pub LeavesHub : Plan → Beside → List (List ℕ) → List ℕ → Beside → Type 0
LeavesHub plan from units due to = CountsExactly plan units from.board to.board (record { heart = to.remains.heart; token = to.remains.token }) due

-- it writes the interim text as it reads, and last the estimate
abbrev pub counting : Plan → Behaviour
counting plan = telling_on plan.kind plan.column (is_none plan.window) plan.alarms CountingHub (IsInterim plan) (IsWhole plan) (LeavesHub plan)
