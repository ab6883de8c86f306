-- Lines of two parts: a label, and after the first space the text of an item.
use Rattle.std.specs.Prelude.{ℕ, Bool, ◌==◌, ◌&&◌, nat_lt, List, length}
use Rattle.std.specs.List.{before_first, after_first}

-- whether a byte is a space
abbrev pub is_space : ℕ → Bool
is_space byte = byte == 32

-- all bytes before the first space of a line, or all if it has none
abbrev pub label_of : List ℕ → List ℕ
label_of line = before_first is_space line

-- all bytes after the first space of a line, or none if it has none
abbrev pub item_text_of : List ℕ → List ℕ
item_text_of line = after_first is_space line

-- whether a line has a label and the text of an item, each of at least one byte
abbrev pub is_labelled : List ℕ → Bool
is_labelled line = nat_lt 0 (length (label_of line)) && nat_lt 0 (length (item_text_of line))
