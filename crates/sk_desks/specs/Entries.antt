-- Lines of a window, each of them empty or of a tenant.
use Rattle.std.specs.Prelude.{◌≡◌, ℕ, ◌+◌, ◌<◌, ◌≤◌, true, Some, List, Contains, length, drop, slice_get, slice_index, slice_range}
use Rattle.std.specs.List.{concat}
use Rattle.sk_fill.specs.Windows.{full_bytes}
use Rattle.sk_label.specs.Labels.{is_labelled, label_of, item_text_of}
use Rattle.sk_tenant.specs.Names.{HasNoSpace}

pub record LabelledState : Type 0 where
  -- the names of the tenants
  pub names : List (List ℕ)
  pub lines : List (List ℕ)
  -- how many of them lie apart from the others, and how many bytes the others have with what ended them
  pub apart : ℕ
  pub bytes : ℕ

-- a window has at most this many lines
abbrev pub window_lines : ℕ
window_lines = 8192

-- this many lines and bytes more can lie with the others
pub record HasRoomFor (lines bytes : ℕ) (w : LabelledState) : Type 0 where
  pub few : length w.lines + lines ≤ window_lines
  pub apart : w.apart ≡ 0
  pub small : w.bytes + bytes < full_bytes
  pub short : length (concat w.lines) ≤ w.bytes

-- at a place the name of a tenant stands, of this many bytes and without a space, and a space after it
pub record IsNamedAt (names : List (List ℕ)) (text : List ℕ) (at label : ℕ) : Type 0 where
  pub known : Contains names (slice_range text at (at + label))
  pub plain : HasNoSpace (slice_range text at (at + label))
  pub space : slice_index text (at + label) ≡ 32

-- a line is empty, or the text of its item begins here, and it is of the tenant at this place
pub record IsLabelledBy (names : List (List ℕ)) (line : List ℕ) (tenant item : ℕ) : Type 0 where
  pub within : item ≤ length line
  pub none : item ≡ length line → length line ≡ 0
  pub form : item < length line → is_labelled line ≡ true
  pub label : item < length line → slice_get names tenant ≡ Some (label_of line)
  pub text : item < length line → drop item line ≡ item_text_of line
