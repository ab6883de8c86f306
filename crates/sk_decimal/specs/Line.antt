-- The memory for a line.
use Rattle.std.specs.Prelude.{ℕ, ◌+◌}
use Rattle.sk_decimal.specs.Rounded.{longest_line}

-- the most bytes that it holds
abbrev pub line_room : ℕ
line_room = longest_line + 64
