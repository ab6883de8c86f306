-- How `count` goes.
use Rattle.std.proofs.Common.{◌≡◌, ◌⊎◌, inl, inr, ℕ, List, [], ◌∷◌, ◌++◌, is_none, refl, sym, subst}
use Rattle.sk_model.proofs.Missing.{begins_more}
use Rattle.sk_read.specs.Items.{IsGood}
use Rattle.sk_read.specs.Reads.{ReadsAll}
use Rattle.sk_read.specs.Units.{units_of}
use Rattle.sk_read.specs.declared.fault.Fault.{Fault as ReadingFault}
use Rattle.sk_read.specs.declared.fault.Fault.TheVariants as reading
use Rattle.sk_count.specs.declared.plan.Plan.{Plan}
use Rattle.sk_report.specs.declared.remains.Remains.{Remains}
use Rattle.sk_count.specs.Headline.{CountsExactly}
use Rattle.sk_count.specs.Texts.{interim_by, last_lines}
use Rattle.sk_count.proofs.HeadlineLaws.{course_of}
use Rattle.sk_count.specs.Counts.{Setting, setting, TellsSoFar, TellsAll, TellsPartOfAll, StopsFor, EndsBefore, EndsBehind}
use Rattle.sk_ingest.proofs.Endings.{ends_so, all_so}
use Rattle.sk_cli.specs.Beside.{Beside, CountingHub}
use Rattle.sk_cli.specs.commands.Count.{counted, counting, IsInterim, IsWhole, LeavesHub}
use Rattle.sk_cli.specs.Fault.{fault_by}
use Rattle.sk_cli.specs.Outside.{Streams}
use Rattle.sk_cli.specs.Run.{Finishes, Ends}
use Rattle.sk_cli.proofs.CountFronts.{due_in_all, due_before_last}
use Rattle.sk_cli.proofs.Units.{all_front}
use Rattle.sk_cli.proofs.OnTheWay.{ToldSoFar, ToldPart, Stopped, ended_before, gave_up_behind, broke_off_behind}

module _ (plan : Plan) (most : ℕ) (from to : Beside) (a b : Streams) where
  abbrev old : Setting
  old = setting a.left a.written from.board

  abbrev new : Setting
  new = setting b.left b.written to.board

  so_far : (units : List (List ℕ)) → TellsSoFar plan old new units → ToldSoFar plan.kind (IsInterim plan from to) a b units
  so_far units told = record { due = interim_by plan from.board told.course.moments; is = record { course = told.course; is = refl; board = told.places }; good = told.course.good; written = told.written }

  stopped : (f : ReadingFault) (units : List (List ℕ)) (unit : List ℕ) → StopsFor plan old new f units unit → Stopped plan.kind (IsInterim plan from) to a b f units unit
  stopped (reading.BadItem n) units unit stop = (so_far units stop.0, stop.1, stop.2)
  stopped reading.WriteFault units unit part = record {
    due = interim_by plan from.board part.course.moments;
    is = record { course = part.course; is = refl; board = part.places };
    good = part.course.good;
    earlier = λ front begins.
        due_before_last plan old new from units front unit refl part begins (all_front (IsGood plan.kind) front (units ++ unit ∷ []) (begins_more front units (unit ∷ []) begins) part.course.good) (interim_by plan from.board part.course.moments) part.written;
  }
  stopped reading.OutOfMemory units unit told = so_far units told
  stopped f units unit stop = absurd stop

  part_of_all : (units : List (List ℕ)) → TellsPartOfAll plan old new units → ToldPart plan.kind (IsInterim plan from) (IsWhole plan from to) a b units units
  part_of_all units part = record {
    due = interim_by plan from.board part.course.moments ++ last_lines plan units;
    is = record { course = part.course; is = refl; board = part.places };
    good = part.course.good;
    earlier = λ front begins.
        due_in_all plan old new from units front refl part begins (all_front (IsGood plan.kind) front units begins part.course.good) (interim_by plan from.board part.course.moments ++ last_lines plan units) part.written;
  }

  -- what was told of all units, in other words
  all_told : (P Q : List (List ℕ) → Type 0) → ((units : List (List ℕ)) → P units → Q units) → (n : ℕ) → ReadsAll (counted plan) most n P a.left b.left → ReadsAll (counted plan) most n Q a.left b.left
  all_told P Q so n all = all_so (counted plan) most P Q (λ f units unit. ⊥) (λ f units unit. ⊥) so (λ f units unit no. no) n a.left b.left all

  -- a count that had read all
  ended_behind : (f : ReadingFault) → EndsBehind plan most old new f → Ends (counting plan) most from to a b (fault_by plan.column f)
  ended_behind reading.WriteFault (n, all) = broke_off_behind plan.kind plan.column (is_none plan.window) plan.alarms CountingHub (IsInterim plan) (IsWhole plan) (LeavesHub plan) most from to a b n (all_told _ _ part_of_all n all)
  ended_behind reading.OutOfMemory (n, all) = gave_up_behind plan.kind plan.column (is_none plan.window) plan.alarms CountingHub (IsInterim plan) (IsWhole plan) (LeavesHub plan) most from to a b n (all_told _ _ so_far n all)
  ended_behind f ends = absurd ends

  pub count_ended : (f : ReadingFault) → EndsBefore plan b.last most old new f ⊎ EndsBehind plan most old new f → Ends (counting plan) most from to a b (fault_by plan.column f)
  count_ended f (inl ends) =
      ended_before plan.kind plan.column (is_none plan.window) plan.alarms CountingHub (IsInterim plan) (IsWhole plan) (LeavesHub plan) most from to a b f
      (ends_so (counted plan) most _ _ _ _ so_far stopped _ a.left b.left f ends)
  count_ended f (inr ends) = ended_behind f ends

  -- a count that ended well
  pub count_finished : (left : Remains) → to.remains.heart ≡ left.heart → to.remains.token ≡ left.token → (n : ℕ) → ReadsAll (counted plan) most n (TellsAll plan old new left) a.left b.left → Finishes (counting plan) most from to a b
  count_finished left heart token n all =
      let gave = all.gave in
      let left_is : left ≡ record { heart = to.remains.heart; token = to.remains.token } = λ i. record { heart = sym heart i; token = sym token i } in
      record {
        text = all.taken;
        due = gave.text;
        consumed = all.consumed;
        end = all.end;
        size = all.size;
        fine = (all.sound, gave.exactly.good);
        is_due = record { course = course_of plan (units_of (counted plan) all.taken) from.board to.board left gave.text gave.exactly; is = gave.exactly.written; board = gave.exactly.alarms };
        leaves = subst (λ (r : Remains). CountsExactly plan (units_of (counted plan) all.taken) from.board to.board r gave.text) left_is gave.exactly;
        written = gave.written;
      }
