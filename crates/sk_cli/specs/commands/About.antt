-- The commands that write a text about the program.
use Rattle.std.specs.Prelude.{◌≡◌, ℕ, true, false, List, []}
use Rattle.sk_cli.specs.Behaviour.{Behaviour}
use Rattle.sk_cli.specs.Beside.{NoHub}

-- it writes this page, and reads nothing
abbrev pub about : List ℕ → Behaviour
about page = record {
  reads = false;
  takes_file = false;
  writes_last = true;
  writes_by_lines = false;
  arms = [];
  makes = NoHub;
  IsFine = λ text. Unit {0};
  IsFineSoFar = λ taken. ⊥;
  Refuses = λ fault text. ⊥;
  IsDue = λ from to text due. due ≡ page;
  Leaves = λ from text due to. Unit {0};
  IsDueSoFar = λ from to taken due. ⊥;
  IsDueAt = λ from to fault text due. ⊥;
  IsDueBefore = λ from to text due. due ≡ page;
}
