-- What `tenants` is asked, and what it does.
use Rattle.std.specs.Prelude.{ℕ, List, Option, option_and_then, option_map}
use Rattle.sk_desks.specs.declared.plan.Plan.{Plan}
use Rattle.sk_desks.specs.Plans as desks
use Rattle.sk_desks.specs.Desks.{desk_rules}
use Rattle.sk_cli.specs.Behaviour.{Behaviour}
use Rattle.sk_cli.specs.Labelled.{reading_labels}
use Rattle.sk_cli.specs.Names.{names_of, AreTenantNames}
use Rattle.sk_cli.specs.Options.{Given, value_behind, k_by, size_by, seed_by, updaters_by}
use Rattle.sk_cli.specs.declared.commands.tenants.TenantsPlan.{TenantsPlan}
use Rattle.sk_cli.specs.declared.fault.Refusal.TheVariants.{Unknown}
use Rattle.sk_cli.specs.declared.options.Name.TheVariants as name

-- how items are counted, by options
abbrev pub desks_by : List Given → Option Plan
desks_by given =
    option_and_then (λ k. option_and_then (λ size. option_and_then (λ seed.
    option_map (λ updaters. record { k = k; size = size; seed = seed; updaters = updaters })
    (updaters_by given)) (seed_by given)) (size_by given)) (k_by given)

-- the plan that options spell
abbrev pub plan_by : List Given → Option TenantsPlan
plan_by given = option_and_then (λ names. option_map (λ desks. record { names = names; desks = desks }) (desks_by given)) (option_and_then names_of (value_behind name.TenantNames given))

-- its names are names, and its numbers are within their limits
pub record IsWithin (plan : TenantsPlan) : Type 0 where
  pub names : AreTenantNames plan.names
  pub desks : desks.IsWithin plan.desks

-- it writes a line for each tenant once all has been read; a line with the name of no tenant is refused
abbrev pub hosting : TenantsPlan → Behaviour
hosting plan = reading_labels (desk_rules plan.desks plan.names) Unknown
