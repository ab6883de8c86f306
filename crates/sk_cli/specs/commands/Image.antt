-- What `image` is asked, and what it does.
use Rattle.std.specs.Prelude.{ℕ, List, Option, option_and_then, option_map}
use Rattle.sk_model.specs.Sketch.{k_smallest}
use Rattle.sk_image.specs.Images.{text_of}
use Rattle.sk_image.specs.Versions.{newest_version}
use Rattle.sk_cli.specs.Behaviour.{Behaviour}
use Rattle.sk_cli.specs.Options.{Given, seed_by}
use Rattle.sk_cli.specs.Told.{telling}
use Rattle.sk_cli.specs.commands.Count.{what_by, IsWhat}
use Rattle.sk_cli.specs.declared.commands.image.ImagePlan.{ImagePlan}

-- ---- its plan

-- the plan that options spell
abbrev pub plan_by : List Given → Option ImagePlan
plan_by given = option_and_then (λ what. option_map (λ seed. record { what = what; seed = seed }) (seed_by given)) (what_by given)

-- its numbers are within their limits
abbrev pub IsWithin : ImagePlan → Type 0
IsWithin plan = IsWhat plan.what

-- ---- what it does

-- the image of these items
abbrev pub image_of : ImagePlan → List ℕ → List ℕ
image_of plan items = text_of newest_version plan.what.k plan.seed (k_smallest plan.what.k items)

-- it reads what `count` reads, and once the text has ended it writes the image of its items
abbrev pub imaging : ImagePlan → Behaviour
imaging plan = telling plan.what.kind plan.what.column (image_of plan)
