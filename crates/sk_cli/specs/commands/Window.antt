-- What `window` is asked, and what it does.
use Rattle.std.specs.Prelude.{ℕ, ◌-◌, ◌^◌, List, Option, option_and_then, option_map}
use Rattle.sk_panes.specs.declared.plan.Plan.{Plan}
use Rattle.sk_panes.specs.Panes.{pane_rules}
use Rattle.sk_cli.specs.Behaviour.{Behaviour}
use Rattle.sk_cli.specs.Labelled.{reading_labels}
use Rattle.sk_cli.specs.Options.{Given, value_behind, required_in, k_by, size_by, seed_by}
use Rattle.sk_cli.specs.declared.fault.Refusal.TheVariants.{Earlier}
use Rattle.sk_cli.specs.declared.options.Name.TheVariants as name

-- the greatest span of an interval
abbrev pub most_span : ℕ
most_span = 2 ^ 48 - 1

-- the plan that options spell
abbrev pub plan_by : List Given → Option Plan
plan_by given =
    option_and_then (λ span. option_and_then (λ last. option_and_then (λ k. option_and_then (λ size.
    option_map (λ seed. record { k = k; size = size; seed = seed; span = span; last = last })
    (seed_by given)) (size_by given)) (k_by given)) (required_in 2 64 (value_behind name.Last given)))
    (required_in 1 most_span (value_behind name.Span given))

-- it writes the estimate of an interval and of those before it once it has ended, before the next line is examined; a line
-- of an earlier interval than the running one is refused
abbrev pub paning : Plan → Behaviour
paning plan = reading_labels (pane_rules plan) Earlier
