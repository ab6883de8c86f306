use Rattle.std.proofs.Common.{[], ◌++◌, ap, refl, append-nil, ◌∙◌}
use Rattle.sk_model.specs.Entries.{items_of_entries}
use Rattle.sk_model.specs.Sketch.{placed, rising, k_smallest}
use Rattle.sk_lines.specs.Fractions.{fraction_text}
use Rattle.sk_watch.specs.Masks.{mask_of}
use Rattle.sk_report.specs.Texts.{alarm_line, alarm_lines, armed_with, interim_line}
use Rattle.sk_count.specs.Texts.{interim_text, places_after}
use Rattle.sk_count.proofs.laws.worked_alarms.Goals as goal

pub returns : goal.returns
unfolding placed rising k_smallest items_of_entries fraction_text mask_of alarm_lines armed_with interim_text places_after
returns c = record {
  armed = refl;
  text = λ i. (interim_line 2 (2, 1) ++ append-nil (alarm_line 1) i) ++ (append-nil (interim_line 4 (4, 1) ++ (alarm_line 2 ++ [])) ∙ ap (λ l. interim_line 4 (4, 1) ++ l) (append-nil (alarm_line 2))) i;
  left = refl;
}
