-- How a count of made lines goes, by how the count of their text goes.
use Rattle.std.proofs.Common.{◌≡◌, ◌≢◌, ◌⊎◌, inl, inr, ℕ, List, [], ◌++◌, length, take, Option, Some, Result, Ok, Err, IfErr, refl, sym, ap, ◌∙◌, subst, arith}
use Rattle.std.proofs.KnownBytes.{Consumes-nil}
use Rattle.std.proofs.lemmas.List.Elements.{All-cons, All-nil}
use Rattle.sk_model.specs.Causes.{AppendsPart, Rose}
use Rattle.sk_model.specs.Limits.{source_limit, most_size, IsFrom}
use Rattle.sk_model.specs.Lines.{lines_of}
use Rattle.sk_model.specs.Sketch.{estimate_of}
use Rattle.sk_make.specs.Made.{made_items}
use Rattle.sk_make.proofs.Texts.{size_is, lines_are_short, lines_are_read, items_are}
use Rattle.sk_read.specs.Items.{items_by}
use Rattle.sk_read.specs.declared.kind.Kind.TheVariants.{Raw}
use Rattle.sk_count.specs.declared.plan.Plan.{Plan}
use Rattle.sk_count.specs.Moments.{Moment}
use Rattle.sk_count.specs.Texts.{interim_text, last_text, armed_by, last_lines}
use Rattle.sk_cli.specs.Beside.{Beside}
use Rattle.sk_cli.specs.Outside.{Streams}
use Rattle.sk_cli.specs.Run.{Finishes, BreaksOff, IsDueWhole, IsDueOnTheWay, Refuses, Stops, Ends, Executes, HasCauses}
use Rattle.sk_cli.specs.Readable.{IsReadable, IsRefusedBy}
use Rattle.sk_cli.specs.commands.Count.{counting, counted, IsWhole, IsInterim, LeavesHub}
use Rattle.sk_cli.specs.commands.Count as count
use Rattle.sk_cli.specs.commands.Make.{IsWithin, text_by, counted_by, made_report, making}
use Rattle.sk_cli.specs.declared.commands.make.MakePlan.{MakePlan}
use Rattle.sk_cli.specs.declared.fault.Fault.{Fault}
use Rattle.sk_cli.specs.declared.fault.Fault.TheVariants as fault
use Rattle.sk_cli.proofs.Completing.{settled_told, whole_told, no_more_told}
use Rattle.sk_cli.proofs.CountDeciding.{count_decides, no_moments}
use Rattle.sk_cli.proofs.Endings.{nothing_more}

-- the plan of the count keeps to its limits
pub counted_within : (plan : MakePlan) → IsWithin plan → count.IsWithin (counted_by plan)
counted_within plan within = record {
  numbers = record {
    k = within.k;
    updaters = within.updaters;
    some = omega arith;
    sizes = All-cons (IsFrom 1 most_size) plan.size [] within.size (All-nil (IsFrom 1 most_size));
    window = (omega arith, omega arith);
  };
  alarms = omega arith;
}

-- nothing of the text is refused
text_is_readable : (plan : MakePlan) → IsReadable Raw 0 (text_by plan)
text_is_readable plan = (
  λ k d below. let short = lines_are_short plan.n plan.key k d below in omega (arith, short),
  λ k d below some. lines_are_read plan.n plan.key k d below,
)

-- its items are those of the numbers
text_items : (plan : MakePlan) → items_by Raw (lines_of (text_by plan)) ≡ made_items plan.n plan.key
unfolding items_by
text_items plan = items_are plan.n plan.key

no_interim : (k : ℕ) (from : Beside) (plan : Plan) (text : List ℕ) → interim_text k (armed_by plan from.board) [] ++ text ≡ text
unfolding interim_text
no_interim k from plan text = refl

nothing_interim : (k : ℕ) (from : Beside) (plan : Plan) → interim_text k (armed_by plan from.board) [] ≡ []
unfolding interim_text
nothing_interim k from plan = refl

never_rose : Rose 0 0 → ⊥
never_rose rose = absurd (omega (arith, rose))

no_part_of_nothing : (old new : Option (List ℕ)) (text : List ℕ) → text ≡ [] → AppendsPart old new text → ⊥
no_part_of_nothing old new text none part = absurd (omega (arith, ap length none, part.1))

-- a source that never failed, and a sink
abbrev pub made_streams : List ℕ → ℕ → Option (List ℕ) → ℕ → Streams
made_streams left last written faults = record { left = Some left; last = last; read_faults = 0; written = written; write_faults = faults }

-- the text was handed in as a source, and this is left of it; the source of the run stays
module _ (plan : MakePlan) (within : IsWithin plan) (from to : Beside) (text rest : List ℕ) (is : text ≡ text_by plan) (left w w' : Option (List ℕ)) (faults v v' most first last own : ℕ) where
  abbrev pub x : Streams
  x = made_streams text first w v

  abbrev pub y : Streams
  y = made_streams rest last w' v'

  abbrev pub a : Streams
  a = record { left = left; last = own; read_faults = faults; written = w; write_faults = v }

  abbrev pub b : Streams
  b = record { left = left; last = own; read_faults = faults; written = w'; write_faults = v' }

  due_is : (taken due : List ℕ) → taken ≡ text_by plan → IsWhole (counted_by plan) from to (lines_of taken) due → due ≡ made_report plan
  due_is taken due same whole =
      whole.is
      ∙ ap (λ (m : List Moment). interim_text plan.k (armed_by (counted_by plan) from.board) m ++ last_lines (counted_by plan) (lines_of taken)) (no_moments (counted_by plan) (lines_of taken) refl whole.course)
      ∙ no_interim plan.k from (counted_by plan) (last_lines (counted_by plan) (lines_of taken))
      ∙ ap (λ (t : List ℕ). last_lines (counted_by plan) (lines_of t)) same
      ∙ ap (λ (items : List ℕ). last_text (Some plan.n) (estimate_of plan.k items)) (text_items plan)

  finishes : Finishes (counting (counted_by plan)) source_limit from to x y → Finishes (making plan) most from to a b
  finishes done =
      let took : done.text ≡ text_by plan = whole_told text done.text (Some rest) done.consumed done.end ∙ is in
      record {
        text = [];
        due = done.due;
        consumed = Consumes-nil left;
        end = tt;
        size = tt;
        fine = tt;
        is_due = due_is done.text done.due took done.is_due;
        leaves = subst (λ (t : List ℕ). LeavesHub (counted_by plan) from (lines_of t) done.due to) took done.leaves;
        written = done.written;
      }

  -- without a window nothing is due before the end
  nothing_on_the_way : (n : ℕ) (due : List ℕ) → IsInterim (counted_by plan) from to (take n (lines_of text)) due → due ≡ []
  nothing_on_the_way n due interim =
      interim.is ∙ ap (λ (m : List Moment). interim_text plan.k (armed_by (counted_by plan) from.board) m) (no_moments (counted_by plan) (take n (lines_of text)) refl interim.course)
      ∙ nothing_interim plan.k from (counted_by plan)

  part_of_report : (taken due : List ℕ) → IsDueWhole (counting (counted_by plan)) from to (Some rest) taken due ⊎ IsDueOnTheWay (counting (counted_by plan)) from to (Some rest) taken due
      → text ≡ taken ++ rest → AppendsPart w w' due → AppendsPart w w' (made_report plan)
  part_of_report taken due (inl whole) consumed part = subst (AppendsPart w w') (due_is taken due (whole_told text taken (Some rest) consumed whole.end ∙ is) whole.is_due) part
  part_of_report taken due (inr on_way) consumed part =
      let before = settled_told (λ (t : List ℕ). (counting (counted_by plan)).IsDueBefore from to t due) text taken (Some rest) consumed on_way in
      absurd (no_part_of_nothing w w' due (nothing_on_the_way before.0 due before.2) part)

  breaks_off : BreaksOff (counting (counted_by plan)) source_limit from to x y → BreaksOff (making plan) most from to a b
  breaks_off off = record {
    taken = [];
    due = made_report plan;
    consumed = Consumes-nil left;
    size = omega arith;
    is_due = inr (tt, inl (λ later. refl));
    written = part_of_report off.taken off.due (whole_or_not off.is_due) off.consumed off.written;
    by_lines = tt;
  }
    where
      whole_or_not : {P Q R : Type 0} → P ⊎ (Q × R) → P ⊎ R
      whole_or_not (inl p) = inl p
      whole_or_not (inr qr) = inr qr.1

  too_much : Stops (counting (counted_by plan)) (λ size. size ≡ source_limit) from to x y → ⊥
  too_much stop =
      let size = size_is plan.n plan.key in
      no_more_told text stop.taken (Some rest) stop.consumed (omega (arith, ap length is, size, within.n, stop.size))

  refused : (f : Fault) → Refuses (counting (counted_by plan)) source_limit f from to x y → ⊥
  refused f off =
      (count_decides (counted_by plan)).apart f text (subst (IsReadable Raw 0) (sym is) (text_is_readable plan))
      (settled_told (λ (t : List ℕ). IsRefusedBy Raw 0 f t × (counting (counted_by plan)).IsDueAt from to f t off.due) text off.taken (Some rest) off.consumed off.refused).0

  ends : (f : Fault) → Ends (counting (counted_by plan)) source_limit from to x y f → (f ≡ fault.ReadFault → ⊥) → (f ≢ fault.WriteFault → w' ≡ w) → Ends (making plan) most from to a b f
  ends fault.OutOfMemory off no_read quiet = nothing_more (making plan) most from to a b [] (made_report plan) (Consumes-nil left) (omega arith) (quiet (λ same. cc)) (λ later. refl)
  ends fault.Usage off no_read quiet = absurd off
  ends fault.ReadFault off no_read quiet = absurd (no_read refl)
  ends fault.WriteFault off no_read quiet = breaks_off off
  ends fault.OpenFault off no_read quiet = absurd off
  ends fault.NetFault off no_read quiet = absurd off
  ends fault.TooMuch off no_read quiet = absurd (too_much off)
  ends f off no_read quiet = absurd (refused f off)

  made_by : (r : Result (Unit {0}) Fault) → Executes (counting (counted_by plan)) source_limit from to x y r → HasCauses x y r → IfErr r (λ f. f ≢ fault.WriteFault → w' ≡ w) → Executes (making plan) most from to a b r
  made_by (Ok u) went causes quiet = finishes went
  made_by (Err f) went causes quiet = ends f went (λ same. never_rose (causes.read.failed (ap (λ (g : Fault). Err g) same))) quiet

  pub made_so : (p : Plan) (r : Result (Unit {0}) Fault) → p ≡ counted_by plan → Executes (counting p) source_limit from to x y r → HasCauses x y r → IfErr r (λ f. f ≢ fault.WriteFault → w' ≡ w) → Executes (making plan) most from to a b r
  made_so p r made went causes quiet = made_by r (subst (λ (q : Plan). Executes (counting q) source_limit from to x y r) made went) causes quiet

  pub made_causes : (r : Result (Unit {0}) Fault) → HasCauses x y r → HasCauses a b r
  made_causes r causes = record {
    read = record { steady = λ other. refl; failed = λ same. absurd (never_rose (causes.read.failed same)) };
    write = causes.write;
  }

-- an equation of outputs is one of what they were written
pub written_same : {O : Type 0} (of : O → Option (List ℕ)) (old new : O) (r : Result (Unit {0}) Fault) → IfErr r (λ f. f ≢ fault.WriteFault → new ≡ old) → IfErr r (λ f. f ≢ fault.WriteFault → of new ≡ of old)
written_same of old new (Ok u) quiet = tt
written_same of old new (Err f) quiet = λ other. ap of (quiet other)
