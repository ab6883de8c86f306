-- What contracts see of a window, and the items of its lines.
use Rattle.std.specs.Prelude.{IsNone, ◌≡◌, ℕ, ◌+◌, ◌<◌, ◌≤◌, ◌==◌, ◌||◌, nat_le, Bool, true, false, List, [], ◌∷◌, ◌++◌, length, take, Option, None, filter_map, flat_map, All}
use Rattle.std.specs.List.{concat}
use Rattle.sk_fill.specs.Pages.{PageState}
use Rattle.sk_lines.specs.Spans.{AreBehind, lines_at}
use Rattle.sk_read.specs.Items.{item_of}
use Rattle.sk_read.specs.declared.kind.Kind.{Kind}
use Rattle.sk_lines.specs.declared.spans.Span.{Span}

pub record WindowState : Type 0 where
  pub lines : List (List ℕ)
  -- how many lines it takes at most
  pub most : ℕ
  -- how many of them, the last, lie apart from the others, and how many bytes the others have with what ended them
  pub apart : ℕ
  pub bytes : ℕ

-- lines of a window, on the way through them: those to come
pub record WindowLinesState : Type 0 where
  pub rest : List (List ℕ)

-- a window is of at most this many lines
abbrev pub most_lines : ℕ
most_lines = 1000000

-- as many bytes of lines as this fill it
abbrev pub full_bytes : ℕ
full_bytes = 67108864

-- there are as many lines as a window takes, or they have as many bytes as make it full, or more
abbrev pub fills : ℕ → List (List ℕ) → Bool
fills most lines = (length lines == most) || nat_le full_bytes (length (concat lines))

abbrev pub is_full : WindowState → Bool
is_full w = fills w.most w.lines

-- ---- a list of units as windows

-- neither these lines nor a beginning of them fill a window
abbrev pub FillsNone : ℕ → List (List ℕ) → Type 0
FillsNone most lines = (n : ℕ) → n ≤ length lines → fills most (take n lines) ≡ false

-- they fill a window, and no shorter beginning of them does
pub record IsFullWindow (most : ℕ) (lines : List (List ℕ)) : Type 0 where
  pub full : fills most lines ≡ true
  pub first : (n : ℕ) → n < length lines → fills most (take n lines) ≡ false

-- the lines of windows, in order
abbrev pub all_lines : List (List (List ℕ)) → List (List ℕ)
all_lines windows = flat_map (λ lines. lines) windows

-- units as windows that are full, in order, and a rest that is not
pub record AreWindows (most : ℕ) (units : List (List ℕ)) (windows : List (List (List ℕ))) (rest : List (List ℕ)) : Type 0 where
  pub joined : units ≡ all_lines windows ++ rest
  pub full : All (IsFullWindow most) windows
  pub unfilled : FillsNone most rest

-- ---- items

-- the item of a line, if it has one: an empty line has none
abbrev pub item_in : Kind → List ℕ → Option ℕ
item_in kind [] = None
item_in kind (byte ∷ line) = item_of kind (byte ∷ line)

-- the items of lines, in order, of those that have one
unfoldable pub items_in : Kind → List (List ℕ) → List ℕ
items_in kind lines = filter_map (item_in kind) lines

-- a line is neither empty nor an item
abbrev pub IsBad : Kind → List ℕ → Type 0
IsBad kind line = (0 < length line) × IsNone (item_of kind line)

-- ---- its fields

-- a window: a page of lines, and others after it that lie in a text
pub record IsWindow (page : PageState) (page_bytes : ℕ) (spans : List Span) (most : ℕ) (text : List ℕ) : Type 0 where
  pub within : AreBehind 0 spans text
  pub joined : length text ≡ length (concat (lines_at spans text))
  pub least : 1 ≤ most
  pub highest : most ≤ most_lines
  pub count : length page.lines + length spans ≤ most
  pub small : page.size < full_bytes
  pub bytes : 0 < length spans → page_bytes ≡ length (concat page.lines)
