-- How a command goes that writes by a manner.
use Rattle.std.proofs.Common.{◌≡◌, ◌⊎◌, inl, inr, ℕ, List, [], ◌∷◌, ◌++◌, Some, is_none, refl}
use Rattle.sk_model.specs.Entries.{items_of_entries}
use Rattle.sk_hub.specs.Hearts.{HeartState}
use Rattle.sk_model.proofs.Missing.{begins_more}
use Rattle.sk_read.specs.Items.{IsGood}
use Rattle.sk_read.specs.Reads.{ReadsAll}
use Rattle.sk_read.specs.Units.{units_by, units_of}
use Rattle.sk_read.specs.declared.fault.Fault.{Fault as ReadingFault}
use Rattle.sk_read.specs.declared.fault.Fault.TheVariants as reading
use Rattle.sk_snap.specs.History.{entries_in}
use Rattle.sk_snap.specs.Versions.{Learnt}
use Rattle.sk_tell.specs.Manners.{Manner}
use Rattle.sk_tell.specs.Endings.{Setting, setting, TellsSoFar, TellsAll, TellsPartOfAll, StopsFor, EndsAt, EndsAfter, ReadsUnits}
use Rattle.sk_tell.specs.Headline.{TellsLines}
use Rattle.sk_tell.specs.Texts.{interim_text}
use Rattle.sk_tell.proofs.HeadlineLaws.{course_of}
use Rattle.sk_ingest.proofs.Endings.{ends_so, all_so}
use Rattle.sk_cli.specs.Beside.{Beside, MadeHub}
use Rattle.sk_cli.specs.ByManner.{IsInterimText, IsWholeText, telling_by}
use Rattle.sk_cli.specs.Fault.{fault_by}
use Rattle.sk_cli.specs.Outside.{Streams}
use Rattle.sk_cli.specs.Run.{Finishes, Ends}
use Rattle.sk_cli.proofs.MannerFronts.{due_in_all, due_before_last}
use Rattle.sk_cli.proofs.Units.{all_front}
use Rattle.sk_cli.proofs.OnTheWay.{ToldSoFar, ToldPart, Stopped, ended_before, gave_up_behind, broke_off_behind}

module _ (manner : Manner) (makes : MadeHub) (Left : Beside → List (List ℕ) → List ℕ → Beside → Type 0) (most : ℕ) (from to : Beside) (a b : Streams) where
  abbrev old : Setting
  old = setting a.left a.written

  abbrev new : Setting
  new = setting b.left b.written

  so_far : (units : List (List ℕ)) → TellsSoFar manner old new units → ToldSoFar manner.kind (IsInterimText manner from to) a b units
  so_far units told = record { due = interim_text manner told.course.moments; is = record { course = told.course; is = refl }; good = told.course.good; written = told.written }

  stopped : (f : ReadingFault) (units : List (List ℕ)) (unit : List ℕ) → StopsFor manner old new f units unit → Stopped manner.kind (IsInterimText manner from) to a b f units unit
  stopped (reading.BadItem n) units unit stop = (so_far units stop.0, stop.1, stop.2)
  stopped reading.WriteFault units unit part = record {
    due = interim_text manner part.course.moments;
    is = record { course = part.course; is = refl };
    good = part.course.good;
    earlier = λ front begins.
        due_before_last manner old new from units front unit part begins (all_front (IsGood manner.kind) front (units ++ unit ∷ []) (begins_more front units (unit ∷ []) begins) part.course.good) (interim_text manner part.course.moments) part.written;
  }
  stopped reading.OutOfMemory units unit told = so_far units told
  stopped f units unit stop = absurd stop

  part_of_all : (units : List (List ℕ)) → TellsPartOfAll manner old new units → ToldPart manner.kind (IsInterimText manner from) (IsWholeText manner from to) a b units units
  part_of_all units part = record {
    due = interim_text manner part.course.moments ++ manner.line (items_of_entries part.whole);
    is = record { course = part.course; list = part.whole; has_all = part.list; goes = part.goes; holds = part.holds; is = refl };
    good = part.course.good;
    earlier = λ front begins.
        due_in_all manner old new from units front part begins (all_front (IsGood manner.kind) front units begins part.course.good) (interim_text manner part.course.moments ++ manner.line (items_of_entries part.whole)) part.written;
  }

  all_told : (P Q : List (List ℕ) → Type 0) → ((units : List (List ℕ)) → P units → Q units) → (n : ℕ) → ReadsAll (units_by manner.column) most n P a.left b.left → ReadsAll (units_by manner.column) most n Q a.left b.left
  all_told P Q so n all = all_so (units_by manner.column) most P Q (λ f units unit. ⊥) (λ f units unit. ⊥) so (λ f units unit no. no) n a.left b.left all

  -- it had read all
  ended_after : (f : ReadingFault) → EndsAfter manner most old new f → Ends (telling_by manner makes Left) most from to a b (fault_by manner.column f)
  ended_after reading.WriteFault (n, all) = broke_off_behind manner.kind manner.column (is_none manner.window) [] makes (IsInterimText manner) (IsWholeText manner) Left most from to a b n (all_told _ _ part_of_all n all)
  ended_after reading.OutOfMemory (n, all) = gave_up_behind manner.kind manner.column (is_none manner.window) [] makes (IsInterimText manner) (IsWholeText manner) Left most from to a b n (all_told _ _ so_far n all)
  ended_after f ends = absurd ends

  pub ended_by_manner : (f : ReadingFault) → EndsAt manner b.last most old new f → Ends (telling_by manner makes Left) most from to a b (fault_by manner.column f)
  ended_by_manner f (inl ends) =
      ended_before manner.kind manner.column (is_none manner.window) [] makes (IsInterimText manner) (IsWholeText manner) Left most from to a b f
      (ends_so (units_by manner.column) most _ _ _ _ so_far stopped _ a.left b.left f ends)
  ended_by_manner f (inr ends) = ended_after f ends

  -- it ended well, and left what it has to
  pub finished_by_manner : (heart : HeartState) (reader : Learnt) → ((units : List (List ℕ)) (text : List ℕ) → TellsLines manner units heart reader text → Left from units text to) →
      ReadsUnits manner.column most (TellsAll manner old new heart reader) a.left b.left → Finishes (telling_by manner makes Left) most from to a b
  finished_by_manner heart reader leaves (n, all) =
      let gave = all.gave in
      let told = gave.exactly in
      record {
        text = all.taken;
        due = gave.text;
        consumed = all.consumed;
        end = all.end;
        size = all.size;
        fine = (all.sound, told.good);
        is_due = record {
          course = course_of manner (units_of (units_by manner.column) all.taken) heart reader gave.text told;
          list = entries_in reader.known;
          has_all = told.list;
          goes = told.goes;
          holds = told.holds;
          is = told.written;
        };
        leaves = leaves (units_of (units_by manner.column) all.taken) gave.text told;
        written = gave.written;
      }
