-- Which plans a command over tenants accepts.
use Rattle.std.specs.Prelude.{ℕ, ◌≤◌, List, length, false, max}
use Rattle.sk_model.specs.Limits.{IsFrom, least_k, most_k, most_size, most_updaters}
use Rattle.sk_theta.specs.Sizes.{Sizes}
use Rattle.sk_tenant.specs.Names.{AreDifferent, most_tenants}
use Rattle.sk_desks.specs.declared.plan.Plan.{Plan}

-- a plan keeps to the limits
pub record IsWithin (plan : Plan) : Type 0 where
  pub k : IsFrom least_k most_k plan.k
  pub size : IsFrom 1 most_size plan.size
  pub updaters : IsFrom 1 most_updaters plan.updaters

-- there are from 1 to 64 names, all different
pub record AreNames (names : List (List ℕ)) : Type 0 where
  pub some : 1 ≤ length names
  pub few : length names ≤ most_tenants
  pub different : AreDifferent names

-- a buffer holds at least this many items
abbrev pub least_buffer : ℕ
least_buffer = 512

-- the shape of each tenant's hub
abbrev pub shape_of : Plan → Sizes
shape_of plan = record { k = plan.k; b = max plan.size least_buffer; n = plan.updaters; seed = plan.seed; eager = false }
