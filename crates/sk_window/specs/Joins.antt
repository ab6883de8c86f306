-- The hashes of several sketches.
use Rattle.std.specs.Prelude.{ℕ, nat_lt, List, filter, flat_map}
use Rattle.sk_theta.specs.Kept.{Sketch}

-- all that these sketches keep
abbrev pub all_kept : List Sketch → List ℕ
all_kept sketches = flat_map (λ s. s.kept) sketches

-- those of these hashes that are below a bound
abbrev pub below : ℕ → List ℕ → List ℕ
below bound hashes = filter (λ hash. nat_lt hash bound) hashes
