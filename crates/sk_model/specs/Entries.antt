-- Lists of updates that several updaters made.
use Rattle.std.specs.Prelude.{ℕ, List, map, filter, ◌==◌}

-- an updater's number and an item
abbrev pub Entry : Type 0
Entry = ℕ × ℕ

-- the items alone, in order
unfoldable pub items_of_entries : List Entry → List ℕ
items_of_entries entries = map (λ entry. entry.1) entries

-- the items of updater i, in order
unfoldable pub entries_by : ℕ → List Entry → List ℕ
entries_by i entries = items_of_entries (filter (λ entry. entry.0 == i) entries)

-- a batch as entries of updater i
abbrev pub tagged : ℕ → List ℕ → List Entry
tagged i batch = map (λ item. (i, item)) batch
