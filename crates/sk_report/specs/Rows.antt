-- A few numbers in an array, with zeros after them.
use Rattle.std.specs.Prelude.{◌≡◌, ℕ, ◌-◌, ◌≤◌, List, ◌++◌, length, take, replicate}
use Rattle.sk_report.specs.Limits.{most_numbers}

-- the array of a list
abbrev pub row_of : List ℕ → List ℕ
row_of list = list ++ replicate (most_numbers - length list) 0

-- the first `len` numbers are the list
pub record IsRow (numbers : List ℕ) (len : ℕ) : Type 0 where
  pub count : length (take len numbers) ≡ len
  pub within : len ≤ most_numbers
  pub rest : numbers ≡ row_of (take len numbers)
