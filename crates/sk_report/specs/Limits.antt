-- How many numbers stand in a row, and how long a window is.
use Rattle.std.specs.Prelude.{ℕ}

-- a row has at most this many numbers
abbrev pub most_numbers : ℕ
most_numbers = 64

-- a window has this many lines if no other number is asked for
abbrev pub usual_window : ℕ
usual_window = 2048
