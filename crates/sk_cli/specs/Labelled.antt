-- Commands over labelled lines, which are refused and written for by rules.
use Rattle.std.specs.Prelude.{◌≡◌, ℕ, ◌-◌, ◌≤◌, true, not, List, [], take, length}
use Rattle.sk_label.specs.Rules.{Rules, IsBad, IsRefused, AreFine, due_so_far, whole_text}
use Rattle.sk_model.specs.Limits.{line_limit}
use Rattle.sk_model.specs.Lines.{lines_of, open_lines_of, AreWithin}
use Rattle.sk_read.specs.Items.{complete_lines_of}
use Rattle.sk_cli.specs.Behaviour.{Behaviour}
use Rattle.sk_cli.specs.Beside.{NoHub}
use Rattle.sk_cli.specs.Lines.{IsLongLine, line_at, lines_before}
use Rattle.sk_cli.specs.declared.fault.Fault.{Fault}
use Rattle.sk_cli.specs.declared.fault.Fault.TheVariants.{LongLine, BadLine, Backward, UnknownTenant}
use Rattle.sk_cli.specs.declared.fault.Refusal.{Refusal}
use Rattle.sk_cli.specs.declared.fault.Refusal.TheVariants.{Earlier, Unknown}

-- line n is the first of these that is refused, as this of the lines before it, and no line up to it is too long
pub record IsFirstRefused (rules : Rules) (Is : List (List ℕ) → List ℕ → Type 0) (n : ℕ) (lines : List (List ℕ)) : Type 0 where
  pub from : 1 ≤ n
  pub to : n ≤ length lines
  pub within : AreWithin line_limit (take n lines)
  pub before : AreFine rules (take (n - 1) lines)
  pub is : Is (take (n - 1) lines) (line_at n lines)

-- the first line of a text that is refused is refused by this fault: it is too long, has not the form, or is refused for
-- its label
abbrev pub IsRefusedLine : Rules → Refusal → Fault → List (List ℕ) → Type 0
IsRefusedLine rules why (LongLine n) lines = IsLongLine n lines × AreFine rules (take (n - 1) lines)
IsRefusedLine rules why (BadLine n) lines = IsFirstRefused rules (λ before line. IsBad rules line) n lines
IsRefusedLine rules Earlier (Backward n) lines = IsFirstRefused rules (IsRefused rules) n lines
IsRefusedLine rules Unknown (UnknownTenant n) lines = IsFirstRefused rules (IsRefused rules) n lines
IsRefusedLine rules why other lines = ⊥

-- what is due at each line is written before the next is examined, and the rest last
abbrev pub reading_labels : Rules → Refusal → Behaviour
reading_labels rules why = record {
  reads = true;
  takes_file = true;
  writes_last = rules.writes_last;
  writes_by_lines = not rules.writes_last;
  arms = [];
  makes = NoHub;
  IsFine = λ text. AreWithin line_limit (lines_of text) × AreFine rules (lines_of text);
  IsFineSoFar = λ taken. AreWithin line_limit (open_lines_of taken) × AreFine rules (complete_lines_of taken);
  Refuses = λ fault text. IsRefusedLine rules why fault (lines_of text);
  IsDue = λ from to text due. due ≡ whole_text rules (lines_of text);
  Leaves = λ from text due to. Unit {0};
  IsDueSoFar = λ from to taken due. due ≡ due_so_far rules (complete_lines_of taken);
  IsDueAt = λ from to fault text due. due ≡ due_so_far rules (lines_before fault (lines_of text));
  IsDueBefore = λ from to text due. (n : ℕ) × AreWithin line_limit (take n (lines_of text)) × AreFine rules (take n (lines_of text)) × (due ≡ due_so_far rules (take n (lines_of text)));
}
