-- What a tally is asked, within which limits, and how it is written.
use Rattle.std.specs.Prelude.{ℕ, List}
use Rattle.sk_model.specs.Limits.{most_size, most_updaters, IsFrom}
use Rattle.sk_cms.specs.Estimate.{least_of, times}
use Rattle.sk_cms.specs.Limits.{IsShape}
use Rattle.sk_cms.specs.Tallies.{cms_numbers}
use Rattle.sk_read.specs.declared.kind.Kind.TheVariants.{Hash}
use Rattle.sk_fill.specs.Windows.{most_lines}
use Rattle.sk_tell.specs.Manners.{Manner, window_by, buffer_size_by}
use Rattle.sk_tally.specs.declared.plan.Plan.{Plan}
use Rattle.sk_tally.specs.Texts.{line_by}

-- its numbers are within their limits
pub record IsWithin (plan : Plan) : Type 0 where
  pub shape : IsShape plan.rows plan.width
  pub updaters : IsFrom 1 most_updaters plan.updaters
  pub size : IsFrom 1 most_size plan.size
  pub window : IsFrom 1 most_lines (window_by plan.window)

-- the line of a plan
abbrev pub tally_line : Plan → List ℕ → List ℕ
tally_line plan items = line_by plan.rows plan.width plan.item items

-- lines are read by their hashes; an estimate is written, which is never too low
abbrev pub tally_manner : Plan → Manner
tally_manner plan = record {
  kind = Hash plan.seed;
  column = plan.column;
  window = plan.window;
  updaters = plan.updaters;
  size = buffer_size_by plan.window plan.size;
  numbers = cms_numbers plan.rows plan.width;
  line = tally_line plan;
  lower = times plan.item;
  upper = least_of plan.rows plan.width plan.item;
}
