-- How lines become items.
use Rattle.std.specs.Prelude.{◌≡◌, ℕ, ◌+◌, ◌-◌, ◌<◌, List, length, take, All, Option, Some, IsSome, IsNone, option_map, unwrap_or}
use Rattle.sk_model.specs.Murmur.{hash_of}
use Rattle.sk_model.specs.Numbers.{number_of}
use Rattle.sk_model.specs.Lines.{open_lines_of, items_of}
use Rattle.sk_read.specs.declared.kind.Kind.{Kind}
use Rattle.sk_read.specs.declared.kind.Kind.TheVariants.{Hash, Raw}
use Rattle.sk_model.specs.Width.{number_end}
use Rattle.sk_read.specs.declared.fault.Fault.{Fault}
use Rattle.sk_read.specs.declared.fault.Fault.TheVariants.{BadItem}

-- the item of a line that is not empty, if it has one: number n is item n + 1
abbrev pub item_of : Kind → List ℕ → Option ℕ
item_of (Hash seed) line = Some (hash_of seed line)
item_of Raw line = option_map (λ n. n + 1) (number_of number_end line)

-- the items of lines, each empty or an item
unfoldable pub items_by : Kind → List (List ℕ) → List ℕ
items_by kind lines = items_of (λ line. unwrap_or (item_of kind line) 0) lines

-- a line is empty or an item
abbrev pub IsGood : Kind → List ℕ → Type 0
IsGood kind line = 0 < length line → IsSome (item_of kind line)

-- each of these units is empty or an item, and a taker stands for their items
abbrev pub Gave : Kind → (List ℕ → Type 0) → List (List ℕ) → Type 0
Gave kind Stands units = All (IsGood kind) units × Stands (items_by kind units)

-- after such units comes one that is neither, and is refused by its number, counted from 1
abbrev pub Missed : Kind → (List ℕ → Type 0) → Fault → List (List ℕ) → List ℕ → Type 0
Missed kind Stands fault given unit =
    (fault ≡ BadItem (length given + 1)) × Gave kind Stands given × (0 < length unit) × IsNone (item_of kind unit)

-- the lines of a text that may continue which LF has ended
abbrev pub complete_lines_of : List ℕ → List (List ℕ)
complete_lines_of text = take (length (open_lines_of text) - 1) (open_lines_of text)
