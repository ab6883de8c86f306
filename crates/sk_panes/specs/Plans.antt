-- The numbers of a plan.
use Rattle.std.specs.Prelude.{◌≤◌}
use Rattle.sk_model.specs.Limits.{IsFrom, least_k, most_k, most_size}
use Rattle.sk_window.specs.Frames.{most_last}
use Rattle.sk_window.specs.declared.frame.Frame.{Frame}
use Rattle.sk_panes.specs.declared.plan.Plan.{Plan}

-- each is within its limits
pub record IsWithin (plan : Plan) : Type 0 where
  pub k : IsFrom least_k most_k plan.k
  pub size : IsFrom 1 most_size plan.size
  pub span : 1 ≤ plan.span
  pub last : IsFrom 2 most_last plan.last

-- how it cuts time
abbrev pub frame_of : Plan → Frame
frame_of plan = record { span = plan.span; last = plan.last }
