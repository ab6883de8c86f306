-- How `tally` goes, and what it decides of a text.
use Rattle.std.proofs.Common.{◌≡◌, ℕ, ◌<◌, List, ◌++◌, None, sym, ap, ◌∙◌}
use Rattle.sk_cms.proofs.Estimates.{times_least}
use Rattle.sk_model.specs.Entries.{items_of_entries}
use Rattle.sk_read.specs.Items.{items_by}
use Rattle.sk_read.specs.Units.{units_by, units_of}
use Rattle.sk_read.specs.declared.fault.Fault.{Fault as ReadingFault}
use Rattle.sk_tally.specs.declared.plan.Plan.{Plan}
use Rattle.sk_tally.specs.Plans.{tally_manner, tally_line}
use Rattle.sk_tally.specs.Headline.{TalliesAll, WritesTally}
use Rattle.sk_tally.proofs.Totals.{of_all}
use Rattle.sk_tell.specs.Endings.{setting, EndsAt, ReadsUnits}
use Rattle.sk_tell.specs.Texts.{interim_text}
use Rattle.sk_cli.specs.Behaviour.{IsDecided, WritesOneText}
use Rattle.sk_cli.specs.Beside.{Beside, NoHub}
use Rattle.sk_cli.specs.ByManner.{IsWholeText}
use Rattle.sk_cli.specs.commands.Tally.{tallying}
use Rattle.sk_cli.specs.Fault.{fault_by}
use Rattle.sk_cli.specs.Outside.{Streams}
use Rattle.sk_cli.specs.Run.{Finishes, Ends}
use Rattle.sk_cli.proofs.ByManner.{ended_by_manner}
use Rattle.sk_cli.proofs.MannerDeciding.{manner_decides, last_alone, one_text_by}

module _ (plan : Plan) (most : ℕ) (from to : Beside) (a b : Streams) where
  pub tally_ended : (f : ReadingFault) → EndsAt (tally_manner plan) b.last most (setting a.left a.written) (setting b.left b.written) f → Ends (tallying plan) most from to a b (fault_by plan.column f)
  tally_ended f ends = ended_by_manner (tally_manner plan) NoHub (λ from units due to. TalliesAll plan units due) most from to a b f ends

  pub tally_finished : 0 < plan.updaters → ReadsUnits plan.column most (WritesTally plan (setting a.left a.written) (setting b.left b.written)) a.left b.left → Finishes (tallying plan) most from to a b
  tally_finished some (n, all) =
      let told = all.gave.tallies in
      let units : List (List ℕ) = units_of (units_by plan.column) all.taken in
      record {
        text = all.taken;
        due = all.gave.text;
        consumed = all.consumed;
        end = all.end;
        size = all.size;
        fine = (all.sound, told.course.good);
        is_due = record {
          course = told.course;
          list = told.list;
          has_all = told.has_all;
          goes = told.goes;
          holds = times_least plan.rows plan.width plan.item (items_of_entries told.list);
          is = told.written ∙ ap (λ (l : List ℕ). interim_text (tally_manner plan) told.course.moments ++ l) (sym (of_all plan units told.course told.list some told.has_all));
        };
        leaves = told;
        written = all.gave.written;
      }

pub tally_decides : (plan : Plan) → IsDecided (tallying plan)
tally_decides plan = manner_decides (tally_manner plan) NoHub (λ from units due to. TalliesAll plan units due)

-- the items of all lines in any order give one line
pub one_tally : (plan : Plan) → 0 < plan.updaters → plan.window ≡ None → WritesOneText (tallying plan)
one_tally plan some none = one_text_by (tally_manner plan) NoHub (λ from units due to. TalliesAll plan units due) none line
  where
    line : (from to : Beside) (units : List (List ℕ)) (due : List ℕ) → IsWholeText (tally_manner plan) from to units due → due ≡ tally_line plan (items_by (tally_manner plan).kind units)
    line from to units due whole = last_alone (tally_manner plan) none from to units due whole ∙ of_all plan units whole.course whole.list some whole.has_all
