-- What `quantile` is asked, and what it does.
use Rattle.std.specs.Prelude.{◌≡◌, ℕ, ◌+◌, ◌-◌, ◌^◌, ◌<◌, ◌≤◌, List, [], ◌∷◌, ◌++◌, length, Option, Some, IfSome, option_and_then, option_map, unwrap_or}
use Rattle.std.specs.Int.{abs_diff}
use Rattle.sk_model.specs.Limits.{most_size, most_updaters, IsFrom}
use Rattle.sk_model.specs.Lines.{items_of}
use Rattle.sk_model.specs.Numbers.{number_of}
use Rattle.sk_model.specs.Width.{number_end}
use Rattle.sk_hub.specs.Hearts.{HeartState}
use Rattle.sk_quant.specs.Limits.{least_quantile_k, most_quantile_k, key_end}
use Rattle.sk_quant.specs.Ranks.{rank_of, rank_error}
use Rattle.sk_fill.specs.Windows.{most_lines}
use Rattle.sk_snap.specs.Versions.{Learnt}
use Rattle.sk_rank.specs.declared.plan.Plan.{Plan}
use Rattle.sk_rank.specs.Headline.{RanksNear}
use Rattle.sk_rank.specs.Plans.{rank_manner}
use Rattle.sk_rank.specs.Texts.{told_line}
use Rattle.sk_cli.specs.Behaviour.{Behaviour}
use Rattle.sk_cli.specs.Beside.{Beside, RankingHub}
use Rattle.sk_cli.specs.ByManner.{telling_by}
use Rattle.sk_cli.specs.Options.{Given, value_behind, number_in, required_in, size_by, updaters_by, window_by, propagator_by}
use Rattle.sk_cli.specs.declared.options.Name.TheVariants as name
use Rattle.sk_cli.specs.declared.commands.quantile.How.{How}
use Rattle.sk_cli.specs.declared.commands.quantile.What.{What}

-- ---- its plan

-- the greatest number whose rank is told
abbrev pub most_at : ℕ
most_at = 2 ^ 48 - 1

-- which number's rank is told, and by which sketch
abbrev pub what_by : List Given → Option What
what_by given =
    option_and_then (λ at. option_and_then (λ k. option_map (λ key. record { k = k; key = key; at = at }) (number_in 0 (key_end - 1) 0 (value_behind name.Key given)))
    (number_in least_quantile_k most_quantile_k 128 (value_behind name.K given))) (required_in 0 most_at (value_behind name.At given))

-- by which updaters, and what is told on the way
abbrev pub how_by : List Given → Option How
how_by given =
    option_and_then (λ size. option_and_then (λ updaters. option_and_then (λ window.
    option_map (λ propagator. record { size = size; updaters = updaters; window = window; propagator = propagator })
    (propagator_by given)) (window_by given)) (updaters_by given)) (size_by given)

-- the number's item is one more, and the items below that are those of the numbers below it
abbrev pub plan_with : What → How → Plan
plan_with what how = record {
  k = what.k;
  key = what.key;
  at = what.at + 1;
  size = how.size;
  updaters = how.updaters;
  window = how.window;
  propagator = how.propagator;
}

-- their numbers are within their limits
pub record IsWhat (what : What) : Type 0 where
  pub k : IsFrom least_quantile_k most_quantile_k what.k
  pub key : what.key < key_end
  pub at : what.at ≤ most_at

pub record IsHow (how : How) : Type 0 where
  pub size : IsFrom 1 most_size how.size
  pub updaters : IsFrom 1 most_updaters how.updaters
  pub window : IfSome how.window (IsFrom 1 most_lines)

-- the plan that options spell
abbrev pub plan_by : List Given → Option Plan
plan_by given = option_and_then (λ what. option_map (λ how. plan_with what how) (how_by given)) (what_by given)

-- ---- what it does

-- once this is written, a heart and a reader are left, and the headline is so of it
pub record LeavesRanks (plan : Plan) (from : Beside) (units : List (List ℕ)) (due : List ℕ) (to : Beside) : Type 0 where
  pub heart : HeartState
  pub reader : Learnt
  pub heart_left : to.remains.ranks ≡ Some heart
  pub reader_left : to.remains.reader ≡ Some reader
  pub ranks : RanksNear plan units heart reader due

-- each line spells a number, and its item is one more; it writes the interim text as it reads, and last the rank in all
abbrev pub ranking : Plan → Behaviour
ranking plan = telling_by (rank_manner plan) RankingHub (LeavesRanks plan)

-- what is due ends with a line of as many items as these, and of their rank up to the error that it tells
pub record TellsNear (plan : Plan) (items due : List ℕ) : Type 0 where
  pub front : List ℕ
  pub below : ℕ
  pub is : due ≡ front ++ told_line (length items) below (rank_error (length items) plan.k)
  pub near : abs_diff below (rank_of plan.at items) ≤ rank_error (length items) plan.k

-- the numbers that lines spell, without the empty ones
abbrev pub numbers_in : List (List ℕ) → List ℕ
numbers_in lines = items_of (λ line. unwrap_or (number_of number_end line) 0) lines
