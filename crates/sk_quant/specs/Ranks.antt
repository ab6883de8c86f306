-- Ranks, and by how much a sketch's may be off.
use Rattle.std.specs.Prelude.{ℕ, zero, suc, ◌+◌, ◌*◌, ◌/◌, ◌^◌, nat_lt, List, [], ◌∷◌, length}
use Rattle.std.specs.Prelude.{count_by}

-- how many members of a list are below x
abbrev pub rank_of : ℕ → List ℕ → ℕ
rank_of x items = count_by (λ y. nat_lt y x) items

-- the same of layers, where a member weighs twice as much in each as in the one before
unfoldable pub weighted_rank : ℕ → List (List ℕ) → ℕ
weighted_rank x [] = 0
weighted_rank x (layer ∷ layers) = rank_of x layer + 2 * weighted_rank x layers

-- the weight of all members together
unfoldable pub weight_of : List (List ℕ) → ℕ
weight_of [] = 0
weight_of (layer ∷ layers) = length layer + 2 * weight_of layers

-- how often n items make for a compaction: n / (2k * 2 ^ l) times of weight 2 ^ l, over each l below a bound
unfoldable pub compactions : ℕ → ℕ → ℕ → ℕ
compactions n k zero = 0
compactions n k (suc l) = compactions n k l + n / (2 * k * 2 ^ l)

-- the same with each times its weight
unfoldable pub error_terms : ℕ → ℕ → ℕ → ℕ
error_terms n k zero = 0
error_terms n k (suc l) = error_terms n k l + 2 ^ l * (n / (2 * k * 2 ^ l))

-- the sum of 2 ^ l * (n / (2k * 2 ^ l)) over all l; those from n on add nothing
abbrev pub rank_error : ℕ → ℕ → ℕ
rank_error n k = error_terms n k n
