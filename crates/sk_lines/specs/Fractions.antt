-- Fractions and estimates as text.
use Rattle.std.specs.Prelude.{ℕ, List, ◌++◌, codes, decimal}

-- the text of n/d
unfoldable pub fraction_text : ℕ → ℕ → List ℕ
fraction_text n d = decimal n ++ codes "/" ++ decimal d

-- the text of the estimate n/d
abbrev pub estimate_text : ℕ → ℕ → List ℕ
estimate_text n d = codes "estimate " ++ fraction_text n d

-- the line of an estimate, a numerator and a denominator
abbrev pub estimate_line : ℕ × ℕ → List ℕ
estimate_line estimate = estimate_text estimate.0 estimate.1 ++ codes "\n"
