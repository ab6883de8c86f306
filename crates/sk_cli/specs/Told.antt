-- A command that reads all items of a text: one that writes once that has ended, and one that writes on the way too.
use Rattle.std.specs.Prelude.{◌≡◌, ℕ, Bool, true, false, not, List, [], take}
use Rattle.sk_read.specs.declared.kind.Kind.{Kind}
use Rattle.sk_read.specs.Items.{items_by}
use Rattle.sk_read.specs.Units.{units_by, units_of, complete_units_of, IsSoundUpTo}
use Rattle.sk_cli.specs.Behaviour.{Behaviour}
use Rattle.sk_cli.specs.Beside.{Beside, MadeHub, NoHub}
use Rattle.sk_cli.specs.Lines.{lines_before}
use Rattle.sk_cli.specs.Readable.{IsReadable, IsReadableSoFar, IsRefusedBy}

-- the items of a text, by a kind and a column
abbrev pub items_of_text : Kind → ℕ → List ℕ → List ℕ
items_of_text kind column text = items_by kind (units_of (units_by column) text)

-- what it writes of the items is given
abbrev pub telling : Kind → ℕ → (List ℕ → List ℕ) → Behaviour
telling kind column tell = record {
  reads = true;
  takes_file = true;
  writes_last = true;
  writes_by_lines = false;
  arms = [];
  makes = NoHub;
  IsFine = IsReadable kind column;
  IsFineSoFar = IsReadableSoFar kind column;
  Refuses = IsRefusedBy kind column;
  IsDue = λ from to text due. due ≡ tell (items_of_text kind column text);
  Leaves = λ from text due to. Unit {0};
  IsDueSoFar = λ from to taken due. due ≡ [];
  IsDueAt = λ from to fault text due. due ≡ [];
  IsDueBefore = λ from to text due. due ≡ [];
}

-- the alarms and the hub, what is due on the way, for the units so far, and in all, with what is beside it by then, and
-- what is left once all is written, are given
abbrev pub telling_on : Kind → ℕ → Bool → List ℕ → MadeHub → (Beside → Beside → List (List ℕ) → List ℕ → Type 0) → (Beside → Beside → List (List ℕ) → List ℕ → Type 0) → (Beside → List (List ℕ) → List ℕ → Beside → Type 0) → Behaviour
telling_on kind column last arms makes Interim Whole Left = record {
  reads = true;
  takes_file = true;
  writes_last = last;
  writes_by_lines = not last;
  arms = arms;
  makes = makes;
  IsFine = IsReadable kind column;
  IsFineSoFar = IsReadableSoFar kind column;
  Refuses = IsRefusedBy kind column;
  IsDue = λ from to text due. Whole from to (units_of (units_by column) text) due;
  Leaves = λ from text due to. Left from (units_of (units_by column) text) due to;
  IsDueSoFar = λ from to taken due. Interim from to (complete_units_of (units_by column) taken) due;
  IsDueAt = λ from to fault text due. Interim from to (lines_before fault (units_of (units_by column) text)) due;
  IsDueBefore = λ from to text due. (n : ℕ) × IsSoundUpTo (units_by column) n text × Interim from to (take n (units_of (units_by column) text)) due;
}
