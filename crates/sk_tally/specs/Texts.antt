-- What is written of a tally.
use Rattle.std.proofs.Common.{ℕ, ◌≤◌, List, ◌++◌, length, codes, subst}
use Rattle.sk_cms.specs.Estimate.{least_of, times}
use Rattle.sk_cms.specs.Tallies.{IsTally}
use Rattle.sk_tell.specs.Texts.{labelled}

-- how many items there are, and how often one is among them
abbrev pub count_line : ℕ → ℕ → List ℕ
count_line n least = labelled (codes "n ") n ++ (labelled (codes " item ") least ++ codes "\n")

-- the line of these items for one of them, by the estimate of this many rows of this width
abbrev pub line_by : ℕ → ℕ → ℕ → List ℕ → List ℕ
line_by rows width x items = count_line (length items) (least_of rows width x items)

-- what a sketch returns is not below how often it is among them
pub at_least_so : (rows width x : ℕ) (items : List ℕ) (n least : ℕ) → IsTally x rows width items n least → times x items ≤ least_of rows width x items
at_least_so rows width x items n least is = subst (λ m. times x items ≤ m) is.value is.over
