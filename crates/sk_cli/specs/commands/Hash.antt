-- What `hash` is asked, and what it does.
use Rattle.std.specs.Prelude.{◌≡◌, ℕ, true, false, flat_map, List, [], take, Option, option_map}
use Rattle.sk_model.specs.Limits.{line_limit}
use Rattle.sk_model.specs.Lines.{lines_of, open_lines_of, AreWithin, filled}
use Rattle.sk_model.specs.Murmur.{hash_of}
use Rattle.sk_lines.specs.Hashes.{hash_line}
use Rattle.sk_read.specs.Items.{complete_lines_of}
use Rattle.sk_cli.specs.Behaviour.{Behaviour}
use Rattle.sk_cli.specs.Beside.{NoHub}
use Rattle.sk_cli.specs.Lines.{IsLongLine, lines_before}
use Rattle.sk_cli.specs.Options.{Given, seed_by}
use Rattle.sk_cli.specs.declared.commands.hash.HashPlan.{HashPlan}
use Rattle.sk_cli.specs.declared.fault.Fault.{Fault}
use Rattle.sk_cli.specs.declared.fault.Fault.TheVariants.{LongLine}

-- the plan that options spell
abbrev pub plan_by : List Given → Option HashPlan
plan_by given = option_map (λ seed. record { seed = seed }) (seed_by given)

-- the hash of each line that is not empty, a line each
unfoldable pub hash_text : ℕ → List (List ℕ) → List ℕ
hash_text seed lines = flat_map (λ line. hash_line (hash_of seed line)) (filled lines)

-- the first line of a text that is refused is refused by this fault
abbrev pub IsRefusedBy : Fault → List (List ℕ) → Type 0
IsRefusedBy (LongLine n) lines = IsLongLine n lines
IsRefusedBy other lines = ⊥

-- it writes the hashes of the lines of a read before it reads on
abbrev pub hashing : HashPlan → Behaviour
hashing plan = record {
  reads = true;
  takes_file = true;
  writes_last = false;
  writes_by_lines = true;
  arms = [];
  makes = NoHub;
  IsFine = λ text. AreWithin line_limit (lines_of text);
  IsFineSoFar = λ taken. AreWithin line_limit (open_lines_of taken);
  Refuses = λ fault text. IsRefusedBy fault (lines_of text);
  IsDue = λ from to text due. due ≡ hash_text plan.seed (lines_of text);
  Leaves = λ from text due to. Unit {0};
  IsDueSoFar = λ from to taken due. due ≡ hash_text plan.seed (complete_lines_of taken);
  IsDueAt = λ from to fault text due. due ≡ hash_text plan.seed (lines_before fault (lines_of text));
  IsDueBefore = λ from to text due. (n : ℕ) × AreWithin line_limit (take n (lines_of text)) × (due ≡ hash_text plan.seed (take n (lines_of text)));
}
