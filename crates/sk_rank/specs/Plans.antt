-- What a ranking is asked, within which limits, and how it is written.
use Rattle.std.specs.Prelude.{ℕ, ◌<◌, List, length}
use Rattle.sk_model.specs.Limits.{most_size, most_updaters, IsFrom}
use Rattle.sk_quant.specs.Limits.{least_quantile_k, most_quantile_k, key_end}
use Rattle.sk_quant.specs.Ranks.{rank_error}
use Rattle.sk_read.specs.declared.kind.Kind.TheVariants.{Raw}
use Rattle.sk_fill.specs.Windows.{most_lines}
use Rattle.sk_snap.specs.Quants.{quant_numbers}
use Rattle.sk_tell.specs.Manners.{Manner, window_by, buffer_size_by}
use Rattle.sk_rank.specs.declared.plan.Plan.{Plan}
use Rattle.sk_rank.specs.Nearness.{error_in}
use Rattle.sk_rank.specs.Texts.{rank_line}

-- its numbers are within their limits
pub record IsWithin (plan : Plan) : Type 0 where
  pub k : IsFrom least_quantile_k most_quantile_k plan.k
  pub key : plan.key < key_end
  pub updaters : IsFrom 1 most_updaters plan.updaters
  pub size : IsFrom 1 most_size plan.size
  pub window : IsFrom 1 most_lines (window_by plan.window)

-- numbers are read, one a line; a rank is written, which is off by at most the error that is written
abbrev pub rank_manner : Plan → Manner
rank_manner plan = record {
  kind = Raw;
  column = 0;
  window = plan.window;
  updaters = plan.updaters;
  size = buffer_size_by plan.window plan.size;
  numbers = quant_numbers plan.k plan.key;
  line = rank_line plan;
  lower = error_in plan.at plan.k plan.key;
  upper = λ items. rank_error (length items) plan.k;
}
