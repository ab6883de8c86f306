-- What is written of a rank.
use Rattle.std.specs.Prelude.{ℕ, List, ◌++◌, length, codes}
use Rattle.sk_quant.specs.Held.{ranked}
use Rattle.sk_quant.specs.Ranks.{rank_error}
use Rattle.sk_tell.specs.Texts.{labelled}
use Rattle.sk_rank.specs.declared.plan.Plan.{Plan}

-- how many items there are, how many of them lie below a number, and by how much that may be off
abbrev pub told_line : ℕ → ℕ → ℕ → List ℕ
told_line n below within = labelled (codes "n ") n ++ (labelled (codes " below ") below ++ (labelled (codes " within ") within ++ codes "\n"))

-- the line for x of these items, by what the sketch with this k and key holds of them
abbrev pub line_by : ℕ → ℕ → ℕ → List ℕ → List ℕ
line_by x k key items = told_line (length items) (ranked x k key items) (rank_error (length items) k)

-- the line of a plan
abbrev pub rank_line : Plan → List ℕ → List ℕ
rank_line plan items = line_by plan.at plan.k plan.key items
