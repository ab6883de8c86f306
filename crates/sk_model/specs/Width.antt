-- How wide an item is. No other definition has these numbers.
use Rattle.std.specs.Prelude.{ℕ, ◌-◌, ◌<◌, ◌≤◌, ◌^◌, List, All}

-- items and hashes are from 1 and below this; as theta it stands for 1
abbrev pub item_end : ℕ
item_end = 2 ^ 63

-- an item's hash is the first half of the 128-bit hash divided by this, or 1 if that is 0
abbrev pub hash_cut : ℕ
hash_cut = 2

-- how many digits base 16 takes for an item
abbrev pub item_digits : ℕ
item_digits = 16

-- numbers that are read as items are below this: number n is item n + 1
abbrev pub number_end : ℕ
number_end = item_end - 1

-- a number is an item
abbrev pub IsItem : ℕ → Type 0
IsItem number = (1 ≤ number) × (number < item_end)

-- each member is an item
abbrev pub AreItems : List ℕ → Type 0
AreItems items = All IsItem items
