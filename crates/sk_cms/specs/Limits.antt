-- The limits of a Count-Min sketch.
use Rattle.std.specs.Prelude.{ℕ, ◌≤◌, ◌^◌}

-- a sketch has from 1 to this many rows
abbrev pub most_rows : ℕ
most_rows = 16

-- a row has from 1 to this many cells
abbrev pub most_width : ℕ
most_width = 1048576

-- a sketch takes at most this many items
abbrev pub most_counted : ℕ
most_counted = 2 ^ 46

-- a sketch can have these rows of this width
pub record IsShape (rows width : ℕ) : Type 0 where
  pub some_rows : 1 ≤ rows
  pub few_rows : rows ≤ most_rows
  pub some_width : 1 ≤ width
  pub few_width : width ≤ most_width
