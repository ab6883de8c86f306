-- What a count is asked, and within which limits.
use Rattle.std.specs.Prelude.{ℕ, ◌≤◌, length, All, unwrap_or}
use Rattle.sk_model.specs.Limits.{least_k, most_k, most_size, most_updaters, IsFrom}
use Rattle.sk_fill.specs.Windows.{most_lines}
use Rattle.sk_report.specs.Limits.{usual_window}
use Rattle.sk_count.specs.declared.plan.Plan.{Plan}

-- how many lines a window of this plan takes at most
abbrev pub lines_of_window : Plan → ℕ
lines_of_window plan = unwrap_or plan.window usual_window

-- its numbers are within their limits
pub record IsWithin (plan : Plan) : Type 0 where
  pub k : IsFrom least_k most_k plan.k
  pub updaters : IsFrom 1 most_updaters plan.updaters
  pub some : 1 ≤ length plan.sizes
  pub sizes : All (IsFrom 1 most_size) plan.sizes
  pub window : IsFrom 1 most_lines (lines_of_window plan)
