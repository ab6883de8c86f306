-- The limits of a quantiles sketch.
use Rattle.std.specs.Prelude.{ℕ, ◌^◌}

-- k is from the one to the other: the base has room for 2k items, and a level for k
abbrev pub least_quantile_k : ℕ
least_quantile_k = 2

abbrev pub most_quantile_k : ℕ
most_quantile_k = 4096

-- keys are below this
abbrev pub key_end : ℕ
key_end = 2 ^ 48

-- a sketch takes at most this many items
abbrev pub most_items : ℕ
most_items = 2 ^ 46

-- this many levels stand above the base
abbrev pub level_count : ℕ
level_count = 48

-- the coins of a key have places below this
abbrev pub coin_end : ℕ
coin_end = 2 ^ 68
