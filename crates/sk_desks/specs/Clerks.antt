-- What contracts see of a clerk, who gives lines to the one desk that there is.
use Rattle.std.specs.Prelude.{◌≡◌, ℕ, ◌<◌, true, false, List, length}
use Rattle.sk_label.specs.Labels.{is_labelled}
use Rattle.sk_label.specs.declared.fault.LineStop.{LineStop}
use Rattle.sk_label.specs.declared.fault.LineStop.TheVariants.{BadLine, Refused}
use Rattle.sk_tenant.specs.Desks.{DeskState}
use Rattle.sk_desks.specs.declared.plan.Plan.{Plan}
use Rattle.sk_desks.specs.Desks.{is_known}
use Rattle.sk_desks.specs.Feeds.{IsUnused, TakesLines}

-- a line has not the form, or not the name of a tenant
abbrev pub StopsAtLine : List (List ℕ) → List ℕ → LineStop → Type 0
StopsAtLine names line BadLine = (0 < length line) × (is_labelled line ≡ false)
StopsAtLine names line Refused = (0 < length line) × (is_labelled line ≡ true) × (is_known names line ≡ false)
StopsAtLine names line other = ⊥

-- the same plan; an unused desk took these lines
pub record GaveAlone (plan plan' : Plan) (d d' : DeskState) (lines : List (List ℕ)) : Type 0 where
  pub unused : IsUnused d.names d
  pub took : TakesLines plan.seed d lines d'
  pub plan_stays : plan' ≡ plan
