-- What contracts see of windows of lines on their way to desks.
use Rattle.std.specs.Prelude.{◌≡◌, ℕ, ◌<◌, ◌≤◌, Bool, true, false, List, ◌++◌, length, slice_index_or, Option}
use Rattle.std.specs.Io.KnownBytes.{Consumes}
use Rattle.sk_model.specs.Limits.{most_updaters}
use Rattle.sk_read.specs.Reading.{Reading, HasRead}
use Rattle.sk_fill.specs.Windows.{all_lines}
use Rattle.sk_fill.specs.Stretches.{StretchState}
use Rattle.sk_label.specs.Rules.{AreFine}
use Rattle.sk_tenant.specs.Desks.{DeskState}
use Rattle.sk_desks.specs.declared.plan.Plan.{Plan}
use Rattle.sk_desks.specs.Feeds.{IsUnused, TakeBlocks}
use Rattle.sk_desks.specs.Desks.{desk_rules}

-- there are desks, none of them used
pub record AreUnused (names : List (List ℕ)) (desks : List DeskState) : Type 0 where
  pub some : 1 ≤ length desks
  pub few : length desks ≤ most_updaters
  pub each : (i : ℕ) (d : DeskState) → i < length desks → IsUnused names (slice_index_or desks i d)

-- from unused desks on all of these lines were given to the desks
pub record HaveTaken (seed : ℕ) (first desks : List DeskState) (lines : List (List ℕ)) : Type 0 where
  pub windows : List (List (List ℕ))
  pub joined : lines ≡ all_lines windows
  pub took : TakeBlocks seed first windows desks

-- a source was read from its start on by unused desks: the windows of its lines that were gathered before were given
-- to the desks, and the last ones lie at hand
pub record WentToDesks (plan : Plan) (names : List (List ℕ)) (first desks : List DeskState) (last : StretchState) (more : Bool) (r : Reading) (old new : Option (List ℕ)) : Type 0 where
  pub unused : AreUnused names first
  pub windows : List (List (List ℕ))
  pub taken : List ℕ
  pub consumed : Consumes old new taken
  pub read : HasRead r new (all_lines windows ++ all_lines last.windows) taken
  pub fine : AreFine (desk_rules plan names) (all_lines windows ++ all_lines last.windows)
  pub took : TakeBlocks plan.seed first windows desks
  pub starts : last.first ≡ length (all_lines windows)
  pub end : more ≡ false → r.ended ≡ true
