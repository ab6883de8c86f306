-- What `serve` is asked, and how it goes.
use Rattle.std.specs.Prelude.{◌≡◌, ℕ, ◌≤◌, List, length, Option, option_and_then, option_map, Result, MatchResult}
use Rattle.sk_model.specs.Limits.{least_k, most_k, most_updaters}
use Rattle.sk_serve.specs.Plans.{IsServable}
use Rattle.sk_serve.specs.Around.{surroundings}
use Rattle.sk_serve.specs.Headline.{ServesExactly}
use Rattle.sk_serve.specs.Serves.{ServeEnds}
use Rattle.sk_serve.specs.declared.fault.ServeFault.TheVariants as serve
use Rattle.sk_serve.specs.declared.plan.ServePlan.{ServePlan}
use Rattle.sk_report.specs.declared.remains.Remains.{Remains}
use Rattle.sk_cli.specs.Beside.{Beside, Left, board_places}
use Rattle.sk_cli.specs.Options.{Given, value_behind, number_in, required_in, seed_by, sizes_by, eager_by, alarms_by}
use Rattle.sk_cli.specs.Outside.{Doorways}
use Rattle.sk_cli.specs.declared.options.Name.TheVariants as name
use Rattle.sk_cli.specs.declared.fault.Fault.{Fault}
use Rattle.sk_cli.specs.declared.fault.Fault.TheVariants.{OutOfMemory, WriteFault, NetFault}

-- ---- its plan

-- the greatest number of a port
abbrev pub most_port : ℕ
most_port = 65535

-- the plan that options spell; all sessions are one wave by default
abbrev pub plan_by : List Given → Option ServePlan
plan_by given =
    option_and_then (λ port. option_and_then (λ k. option_and_then (λ sizes. option_and_then (λ sessions. option_and_then (λ wave. option_and_then (λ seed. option_and_then (λ eager.
    option_map (λ alarms. record { k = k; sizes = sizes; sessions = sessions; port = port; seed = seed; eager = eager; alarms = alarms; wave = wave })
    (alarms_by given)) (eager_by given)) (seed_by given)) (number_in 1 most_updaters sessions (value_behind name.Wave given)))
    (number_in 1 most_updaters 1 (value_behind name.Sessions given))) (sizes_by given)) (number_in least_k most_k 4096 (value_behind name.K given)))
    (required_in 1 most_port (value_behind name.Port given))

-- its numbers are within their limits, and there are no more alarms than places
pub record IsWithin (plan : ServePlan) : Type 0 where
  pub numbers : IsServable plan
  pub alarms : length plan.alarms ≤ board_places

-- ---- how it goes

-- what is left of the hub that counted
abbrev pub counted_left : Left → Remains
counted_left left = record { heart = left.heart; token = left.token }

-- all its sessions were served, and all that is due for them was written: the headline of a server
abbrev pub ServesAll : ServePlan → ℕ → Beside → Beside → Option (List ℕ) → Option (List ℕ) → Doorways → Type 0
ServesAll plan most from to old new links =
    ServesExactly plan most (surroundings old from.board links.before) (surroundings new to.board links.after) (counted_left to.remains)

-- which faults may end it, and how: nothing is written except at a failed write
abbrev pub EndsServing : ServePlan → ℕ → Beside → Beside → Option (List ℕ) → Option (List ℕ) → Doorways → Fault → Type 0
EndsServing plan most from to old new links WriteFault =
    ServeEnds plan most (surroundings old from.board links.before) (surroundings new to.board links.after) serve.WriteFault
EndsServing plan most from to old new links NetFault =
    ServeEnds plan most (surroundings old from.board links.before) (surroundings new to.board links.after) serve.NetFault × (new ≡ old)
EndsServing plan most from to old new links OutOfMemory =
    ServeEnds plan most (surroundings old from.board links.before) (surroundings new to.board links.after) serve.OutOfMemory × (new ≡ old)
EndsServing plan most from to old new links other = ⊥

-- how it went
abbrev pub ServesSo : ServePlan → ℕ → Beside → Beside → Option (List ℕ) → Option (List ℕ) → Doorways → Result (Unit {0}) Fault → Type 0
ServesSo plan most from to old new links result =
    MatchResult result (λ _. ServesAll plan most from to old new links) (λ fault. EndsServing plan most from to old new links fault)
