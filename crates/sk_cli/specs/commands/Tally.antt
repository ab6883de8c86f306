-- What `tally` is asked, and what it does.
use Rattle.std.specs.Prelude.{ℕ, List, Option, option_and_then, option_map}
use Rattle.sk_cms.specs.Limits.{most_rows, most_width, IsShape}
use Rattle.sk_model.specs.Murmur.{hash_of}
use Rattle.sk_tally.specs.Plans.{tally_manner}
use Rattle.sk_tally.specs.Headline.{TalliesAll}
use Rattle.sk_tally.specs.declared.plan.Plan.{Plan}
use Rattle.sk_cli.specs.Behaviour.{Behaviour}
use Rattle.sk_cli.specs.Beside.{NoHub}
use Rattle.sk_cli.specs.ByManner.{telling_by}
use Rattle.sk_cli.specs.Options.{Given, value_behind, required_in, word_in, seed_by, column_by}
use Rattle.sk_cli.specs.commands.Quantile.{how_by}
use Rattle.sk_cli.specs.declared.commands.quantile.How.{How}
use Rattle.sk_cli.specs.declared.commands.tally.What.{What}
use Rattle.sk_cli.specs.declared.options.Name.TheVariants as name

-- ---- its plan

-- which item's count is told, and by which sketch: the item of a line that is the word
abbrev pub what_by : List Given → Option What
what_by given =
    option_and_then (λ rows. option_and_then (λ width. option_and_then (λ word. option_and_then (λ seed.
    option_map (λ column. record { rows = rows; width = width; seed = seed; item = hash_of seed word; column = column })
    (column_by given)) (seed_by given)) (word_in (value_behind name.Item given)))
    (required_in 1 most_width (value_behind name.Width given))) (required_in 1 most_rows (value_behind name.Rows given))

abbrev pub plan_with : What → How → Plan
plan_with what how = record {
  rows = what.rows;
  width = what.width;
  seed = what.seed;
  item = what.item;
  column = what.column;
  size = how.size;
  updaters = how.updaters;
  window = how.window;
  propagator = how.propagator;
}

-- the plan that options spell
abbrev pub plan_by : List Given → Option Plan
plan_by given = option_and_then (λ what. option_map (λ how. plan_with what how) (how_by given)) (what_by given)

-- a sketch can have its rows and their width
abbrev pub IsWhat : What → Type 0
IsWhat what = IsShape what.rows what.width

-- ---- what it does

-- each line or field is hashed; it writes the interim text as it reads, and last the count of all; once that is written, the
-- headline is so of it
abbrev pub tallying : Plan → Behaviour
tallying plan = telling_by (tally_manner plan) NoHub (λ from units due to. TalliesAll plan units due)
