use Rattle.std.proofs.Common.{◌≡◌, ℕ, List, [], ◌++◌, refl, append-nil, ◌∙◌}
use Rattle.sk_model.specs.Entries.{items_of_entries}
use Rattle.sk_model.specs.Sketch.{placed, rising, k_smallest}
use Rattle.sk_lines.specs.Fractions.{fraction_text}
use Rattle.sk_watch.specs.Masks.{mask_of}
use Rattle.sk_report.specs.Texts.{alarm_lines, armed_with, interim_line}
use Rattle.sk_count.specs.Texts.{interim_text, places_after}
use Rattle.sk_count.proofs.laws.worked_interim_texts.Goals as goal

pub returns : goal.returns
unfolding placed rising k_smallest items_of_entries fraction_text mask_of alarm_lines armed_with interim_text places_after
returns c = record {
  two_of_five = bare (interim_line 5 (2, 1));
  five = bare (interim_line 5 (5, 1));
  two_windows = λ i. append-nil (interim_line 2 (2, 1)) i ++ bare (interim_line 4 (4, 1)) i;
  none = refl;
}
  where
    bare : (line : List ℕ) → (line ++ []) ++ [] ≡ line
    bare line = append-nil (line ++ []) ∙ append-nil line
