-- What a server is asked, and within which limits.
use Rattle.std.specs.Prelude.{◌≤◌, length, All}
use Rattle.sk_model.specs.Limits.{least_k, most_k, most_size, most_updaters, IsFrom}
use Rattle.sk_theta.specs.Sizes.{Sizes}
use Rattle.sk_serve.specs.declared.plan.ServePlan.{ServePlan}

-- its numbers are within their limits
pub record IsServable (plan : ServePlan) : Type 0 where
  pub k : IsFrom least_k most_k plan.k
  pub sessions : IsFrom 1 most_updaters plan.sessions
  pub some : 1 ≤ length plan.sizes
  pub sizes : All (IsFrom 1 most_size) plan.sizes
  pub wave : 1 ≤ plan.wave

-- the numbers of its hub; each updater has buffers of its own size
abbrev pub shape_of : ServePlan → Sizes
shape_of plan = record { k = plan.k; b = 1; n = plan.sessions; seed = plan.seed; eager = plan.eager }
