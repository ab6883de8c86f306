-- Texts that are read into items, by a kind and a column: which are readable, and which are refused at which line or
-- record.
use Rattle.std.specs.Prelude.{◌≡◌, ℕ, ◌<◌, ◌≤◌, ◌-◌, List, length, take, All, IsNone}
use Rattle.sk_read.specs.declared.kind.Kind.{Kind}
use Rattle.sk_read.specs.Items.{item_of, IsGood}
use Rattle.sk_read.specs.Units.{units_by, units_of, complete_units_of, IsSound, IsSoundUpTo, IsSoundSoFar, IsLongBehind, IsUnevenBehind}
use Rattle.sk_cli.specs.Lines.{line_at}
use Rattle.sk_cli.specs.declared.fault.Fault.{Fault}
use Rattle.sk_cli.specs.declared.fault.Fault.TheVariants.{LongLine, BadItem, BadField, BadCsv}

-- no line or field of a text is refused: none is too long, and each is an item or empty
abbrev pub IsReadable : Kind → ℕ → List ℕ → Type 0
IsReadable kind column text = IsSound (units_by column) text × All (IsGood kind) (units_of (units_by column) text)

-- none of these bytes of a text that may go on is refused so far
abbrev pub IsReadableSoFar : Kind → ℕ → List ℕ → Type 0
IsReadableSoFar kind column taken = IsSoundSoFar (units_by column) taken × All (IsGood kind) (complete_units_of (units_by column) taken)

-- each line or field before number n, counted from 1, is an item or empty
abbrev pub AreGoodBefore : Kind → ℕ → ℕ → List ℕ → Type 0
AreGoodBefore kind column n text = (1 ≤ n) × All (IsGood kind) (take (n - 1) (units_of (units_by column) text))

-- number n is the first line or field of a text that is refused, as no item
pub record IsBadUnit (kind : Kind) (column n : ℕ) (text : List ℕ) : Type 0 where
  pub before : AreGoodBefore kind column n text
  pub sound : IsSoundUpTo (units_by column) n text
  pub to : n ≤ length (units_of (units_by column) text)
  pub filled : 0 < length (line_at n (units_of (units_by column) text))
  pub bad : IsNone (item_of kind (line_at n (units_of (units_by column) text)))

-- the first line or record of a text that is refused is refused by this fault
abbrev pub IsRefusedBy : Kind → ℕ → Fault → List ℕ → Type 0
IsRefusedBy kind column (LongLine n) text = AreGoodBefore kind column n text × IsLongBehind (units_by column) (n - 1) text
IsRefusedBy kind column (BadItem n) text = (column ≡ 0) × IsBadUnit kind column n text
IsRefusedBy kind column (BadField n) text = (0 < column) × IsBadUnit kind column n text
IsRefusedBy kind column (BadCsv n) text = AreGoodBefore kind column n text × IsUnevenBehind (units_by column) (n - 1) text
IsRefusedBy kind column other text = ⊥
