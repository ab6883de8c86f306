-- What `make` is asked, and what it does.
use Rattle.std.specs.Prelude.{◌≡◌, ℕ, ◌-◌, ◌<◌, ◌≤◌, true, false, List, [], ◌∷◌, Option, None, Some, option_and_then, option_map}
use Rattle.sk_model.specs.Limits.{least_k, most_k, most_size, most_updaters, IsFrom}
use Rattle.sk_model.specs.Lines.{lines_of}
use Rattle.sk_model.specs.Sketch.{estimate_of}
use Rattle.sk_quant.specs.Limits.{key_end}
use Rattle.sk_make.specs.Made.{made_text, made_items, most_made}
use Rattle.sk_read.specs.declared.kind.Kind.TheVariants.{Raw}
use Rattle.sk_count.specs.declared.plan.Plan.{Plan}
use Rattle.sk_count.specs.Texts.{last_text}
use Rattle.sk_cli.specs.Behaviour.{Behaviour}
use Rattle.sk_cli.specs.Beside.{CountingHub}
use Rattle.sk_cli.specs.Options.{Given, value_behind, number_in, required_in, updaters_by, propagator_by}
use Rattle.sk_cli.specs.commands.Count.{LeavesHub}
use Rattle.sk_cli.specs.declared.options.Name.TheVariants as name
use Rattle.sk_cli.specs.declared.commands.make.MakePlan.{MakePlan}

-- ---- its plan

-- the plan that options spell
abbrev pub plan_by : List Given → Option MakePlan
plan_by given =
    option_and_then (λ n. option_and_then (λ key. option_and_then (λ k. option_and_then (λ size. option_and_then (λ updaters.
    option_map (λ propagator. record { n = n; key = key; k = k; size = size; updaters = updaters; propagator = propagator })
    (propagator_by given)) (updaters_by given)) (number_in 1 most_size 64 (value_behind name.B given)))
    (number_in least_k most_k 4096 (value_behind name.K given))) (number_in 0 (key_end - 1) 0 (value_behind name.Key given)))
    (required_in 0 most_made (value_behind name.N given))

-- its numbers are within their limits
pub record IsWithin (plan : MakePlan) : Type 0 where
  pub n : plan.n ≤ most_made
  pub key : plan.key < key_end
  pub k : IsFrom least_k most_k plan.k
  pub size : IsFrom 1 most_size plan.size
  pub updaters : IsFrom 1 most_updaters plan.updaters

-- ---- what it does

-- the text that it makes
abbrev pub text_by : MakePlan → List ℕ
text_by plan = made_text plan.n plan.key

-- how that is counted: the item of a line is one more than its number
abbrev pub counted_by : MakePlan → Plan
counted_by plan = record {
  k = plan.k;
  kind = Raw;
  column = 0;
  sizes = plan.size ∷ [];
  updaters = plan.updaters;
  window = None;
  eager = true;
  propagator = plan.propagator;
  alarms = [];
  made = Some plan.n;
}

-- how many lines it made, and one thread's estimate of their items
abbrev pub made_report : MakePlan → List ℕ
made_report plan = last_text (Some plan.n) (estimate_of plan.k (made_items plan.n plan.key))

-- it reads nothing, and writes its report last; the hub that counted is left, and shows this run
abbrev pub making : MakePlan → Behaviour
making plan = record {
  reads = false;
  takes_file = false;
  writes_last = true;
  writes_by_lines = false;
  arms = [];
  makes = CountingHub;
  IsFine = λ text. Unit {0};
  IsFineSoFar = λ taken. ⊥;
  Refuses = λ fault text. ⊥;
  IsDue = λ from to text due. due ≡ made_report plan;
  Leaves = λ from text due to. LeavesHub (counted_by plan) from (lines_of (text_by plan)) due to;
  IsDueSoFar = λ from to taken due. ⊥;
  IsDueAt = λ from to fault text due. ⊥;
  IsDueBefore = λ from to text due. due ≡ made_report plan;
}
