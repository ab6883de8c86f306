-- How a command goes that reads line by line.
use Rattle.std.proofs.Common.{◌≡◌, inr, ℕ, ◌-◌, ◌<◌, ◌≤◌, Bool, true, false, List, [], ◌∷◌, ◌++◌, length, take, Option, Result, Ok, Err, refl, sym, ap, ◌∙◌, subst, arith}
use Rattle.std.specs.Bool.{OnTrue}
use Rattle.std.specs.Io.KnownBytes.{Appends, Consumes, IsAtEnd}
use Rattle.std.proofs.KnownBytes.{Consumes-nil, Consumes-trans}
use Rattle.std.proofs.lemmas.List.Elements.{All-take}
use Rattle.sk_model.specs.Causes.{AppendsFront, AppendsPart}
use Rattle.sk_model.specs.Limits.{line_limit}
use Rattle.sk_model.specs.Lines.{lines_of, open_lines_of, AreWithin, IsFirstLong}
use Rattle.sk_model.specs.Missing.{Begins}
use Rattle.sk_model.proofs.Missing.{begins_append, begins_trans}
use Rattle.sk_read.specs.Items.{complete_lines_of}
use Rattle.sk_read.specs.Reading.{Reading, HasRead, Goes}
use Rattle.sk_read.specs.Reads.{IsSettled, IsInTime as IsReadInTime}
use Rattle.sk_read.specs.declared.reader.LineFault.{LineFault}
use Rattle.sk_read.specs.declared.reader.LineFault.TheVariants as stop
use Rattle.sk_read.specs.declared.units.Units.TheVariants.{Lines}
use Rattle.sk_read.proofs.ItemLaws.{front_is}
use Rattle.sk_read.proofs.LineEnds.{settled_so}
use Rattle.sk_read.proofs.Readings.{given_settled, in_time_within}
use Rattle.sk_cli.specs.Answering.{ByLines}
use Rattle.sk_cli.specs.Behaviour.{Behaviour}
use Rattle.sk_cli.specs.Beside.{Beside}
use Rattle.sk_cli.specs.Fault.{fault_by_line}
use Rattle.sk_cli.specs.Outside.{Streams}
use Rattle.sk_cli.specs.Run.{Finishes, Stops, IsInTime, WritesOn, IsDueOnTheWay, BreaksOff, GivesUp, Ends}
use Rattle.sk_cli.specs.declared.fault.Fault.TheVariants as fault
use Rattle.sk_report.proofs.Fronts.{part_on}

-- how far a command has come with the lines of a source
pub record Reads (r : Reading) (left now : Option (List ℕ)) (most : ℕ) (given : List (List ℕ)) (taken : List ℕ) : Type 0 where
  pub read : HasRead r now given taken
  pub consumed : Consumes left now taken
  pub most_is : r.most ≡ most

pub reads_none : (r : Reading) (left : Option (List ℕ)) (most : ℕ) → ((left : Option (List ℕ)) → HasRead r left [] []) → r.most ≡ most → Reads r left left most [] []
reads_none r left most read most_is = record { read = read left; consumed = Consumes-nil left; most_is = most_is }

-- how a call of `next` went
pub record Went (r : Reading) (left rest : Option (List ℕ)) (most : ℕ) (given : List (List ℕ)) (result : Result Bool LineFault) : Type 0 where
  pub taken : List ℕ
  pub consumed : Consumes left rest taken
  pub goes : Goes r rest given taken result
  pub most_is : r.most ≡ most

pub went : (old r : Reading) (left now rest : Option (List ℕ)) (most : ℕ) (given : List (List ℕ)) (taken : List ℕ) (result answer : Result Bool LineFault) → Reads old left now most given taken →
    ((given : List (List ℕ)) (taken : List ℕ) → HasRead old now given taken → (more : List ℕ) × Consumes now rest more × Goes r rest given (taken ++ more) result) →
    r.most ≡ old.most → result ≡ answer → Went r left rest most given answer
went old r left now rest most given taken result answer reads goes most_is is =
    let on = goes given taken reads.read in
    record {
      taken = taken ++ on.0;
      consumed = Consumes-trans left now rest taken on.0 reads.consumed on.1;
      goes = subst (λ (a : Result Bool LineFault). Goes r rest given (taken ++ on.0) a) is on.2;
      most_is = most_is ∙ reads.most_is;
    }

-- a call that answered so
pub went_so : (old r : Reading) (left now rest : Option (List ℕ)) (most : ℕ) (given : List (List ℕ)) (taken : List ℕ) (result : Result Bool LineFault) (b answer : Bool) → Reads old left now most given taken →
    ((given : List (List ℕ)) (taken : List ℕ) → HasRead old now given taken → (more : List ℕ) × Consumes now rest more × Goes r rest given (taken ++ more) result) →
    r.most ≡ old.most → result ≡ Ok b → b ≡ answer → Went r left rest most given (Ok answer)
went_so old r left now rest most given taken result b answer reads goes most_is was is =
    went old r left now rest most given taken result (Ok answer) reads goes most_is (was ∙ ap (λ (t : Bool). Ok t) is)

-- one line more was given
pub reads_line : (r : Reading) (left rest : Option (List ℕ)) (most : ℕ) (given : List (List ℕ)) → (on : Went r left rest most given (Ok true)) → Reads r left rest most (given ++ r.cutter.line ∷ []) on.taken
reads_line r left rest most given on = record { read = on.goes.0; consumed = on.consumed; most_is = on.most_is }

-- a call of `next` that gave the line behind these
pub record GotLine (r : Reading) (left rest : Option (List ℕ)) (most : ℕ) (given : List (List ℕ)) : Type 0 where
  pub taken : List ℕ
  pub time : IsReadInTime r.last Lines given taken
  pub reads : Reads r left rest most (given ++ r.cutter.line ∷ []) taken

pub got_line : (old r : Reading) (left now rest : Option (List ℕ)) (most : ℕ) (given : List (List ℕ)) (taken : List ℕ) (result : Result Bool LineFault) (b : Bool) → Reads old left now most given taken →
    ((given : List (List ℕ)) (taken : List ℕ) → HasRead old now given taken → (more : List ℕ) × Consumes now rest more × Goes r rest given (taken ++ more) result) →
    r.most ≡ old.most → result ≡ Ok b → b ≡ true → GotLine r left rest most given
got_line old r left now rest most given taken result b reads goes most_is was is =
    let on = went_so old r left now rest most given taken result b true reads goes most_is was is in
    record { taken = on.taken; time = on.goes.1; reads = reads_line r left rest most given on }

-- a text that begins with these lines has them as its first
pub first_are : (given lines : List (List ℕ)) (n : ℕ) → n ≡ length given → Begins given lines → take n lines ≡ given
first_are given lines n is begins = ap (λ (m : ℕ). take m lines) is ∙ front_is given lines begins

pub within_given : (r : Reading) (left now : Option (List ℕ)) (most : ℕ) (given : List (List ℕ)) (taken : List ℕ) → Reads r left now most given taken → AreWithin line_limit given
within_given r left now most given taken reads = subst (λ (m : ℕ). AreWithin m given) reads.read.limit reads.read.has.within

-- of these bytes, behind which this is left, these lines were given
pub record WereGiven (left : Option (List ℕ)) (most : ℕ) (given : List (List ℕ)) (taken : List ℕ) : Type 0 where
  pub settled : IsSettled (λ text. Begins given (lines_of text)) left taken
  pub within : AreWithin line_limit given
  pub size : length taken ≤ most

pub were_given : (r : Reading) (left : Option (List ℕ)) (most : ℕ) (given : List (List ℕ)) (taken : List ℕ) → r.most ≡ most → HasRead r left given taken → WereGiven left most given taken
were_given r left most given taken is read = record {
  settled = given_settled r left given taken read;
  within = subst (λ (m : ℕ). AreWithin m given) read.limit read.has.within;
  size = omega (arith, read.has.count, read.bound, is);
}

-- the first of them too
pub first_were_given : (left : Option (List ℕ)) (most : ℕ) (given more : List (List ℕ)) (taken : List ℕ) → WereGiven left most (given ++ more) taken → WereGiven left most given taken
first_were_given left most given more taken were = record {
  settled = settled_so (λ (text : List ℕ). Begins (given ++ more) (lines_of text)) (λ (text : List ℕ). Begins given (lines_of text)) left taken
      (λ text begins. begins_trans given (given ++ more) (lines_of text) (begins_append given more) begins) were.settled;
  within = subst (AreWithin line_limit) (front_is given (given ++ more) (begins_append given more)) (All-take (λ (l : List ℕ). length l ≤ line_limit) (length given) (given ++ more) were.within);
  size = were.size;
}

pub on_true : (t : Bool) (P : Type 0) → P → OnTrue t P
on_true true P holds = holds
on_true false P holds = tt

-- what was due before the last read
record Earlier (how : Behaviour) (from to : Beside) (last : ℕ) (taken due : List ℕ) : Type 0 where
  pub text : List ℕ
  pub begins : Begins text due
  pub was_due : IsInTime last (λ front. how.IsFineSoFar front × how.IsDueSoFar from to front text) taken

module _ (how : Behaviour) (from to : Beside) (Due : List (List ℕ) → List ℕ → Type 0) (by : ByLines how from to Due) (most : ℕ) (a b : Streams) where
  -- nothing before the last read is refused, since it was given
  earlier : (given : List (List ℕ)) (due taken : List ℕ) → IsReadInTime b.last Lines given taken → Due given due → Earlier how from to b.last taken due
  earlier given due taken is is_due =
      let part = by.front (complete_lines_of is.front) is.earlier.0 due (subst (λ (l : List (List ℕ)). Due l due) is.earlier.1 is_due) in
      record {
        text = part.0;
        begins = part.2;
        was_due = record {
          front = is.front;
          piece = is.piece;
          joined = is.joined;
          size = is.size;
          few = is.few;
          so_far = (by.fine is.front part.0 is.sound part.1, by.so_far is.front part.0 part.1);
        };
      }

  pub in_time : (given : List (List ℕ)) (due taken : List ℕ) → IsReadInTime b.last Lines given taken → Due given due → IsInTime b.last how.IsFineSoFar taken
  in_time given due taken is is_due =
      let was = (earlier given due taken is is_due).was_due in
      record { front = was.front; piece = was.piece; joined = was.joined; size = was.size; few = was.few; so_far = was.so_far.0 }

  -- no line came
  stopped : (IsSize : ℕ → Type 0) (r : Reading) (given : List (List ℕ)) (due taken : List ℕ) → Consumes a.left b.left taken → IsSize (length taken) → complete_lines_of taken ≡ given → AreWithin line_limit (open_lines_of taken) →
      Due given due → Appends a.written b.written due → Stops how IsSize from to a b
  stopped IsSize r given due taken consumed size is within is_due written =
      let here : Due (complete_lines_of taken) due = subst (λ (l : List (List ℕ)). Due l due) (sym is) is_due in
      record {
        taken = taken;
        due = due;
        reads = by.reads_it;
        consumed = consumed;
        size = size;
        fine = by.fine taken due within here;
        is_due = by.so_far taken due here;
        written = written;
      }

  pub failed : (r : Reading) (given : List (List ℕ)) (due : List ℕ) (f : LineFault) → r.last ≤ b.last → Went r a.left b.left most given (Err f) → Due given due → Appends a.written b.written due → Ends how most from to a b (fault_by_line f)
  failed r given due stop.ReadFault within on is_due written =
      stopped (λ size. size < most) r given due on.taken on.consumed (omega (arith, on.goes.1, on.most_is)) on.goes.0.0 on.goes.0.1 is_due written
  failed r given due stop.TooMuch within on is_due written = stopped (λ size. size ≡ most) r given due on.taken on.consumed (on.goes.1 ∙ on.most_is) on.goes.0.0 on.goes.0.1 is_due written
  failed r given due (stop.LongLine n) within on is_due written = record {
    taken = on.taken;
    due = due;
    consumed = on.consumed;
    size = omega (arith, on.goes.1, on.most_is);
    in_time = in_time given due on.taken (in_time_within Lines given on.taken within on.goes.2) is_due;
    refused = settled_so (λ (text : List ℕ). Begins given (lines_of text) × IsFirstLong line_limit (length given) (lines_of text)) (λ (text : List ℕ). how.Refuses (fault.LongLine n) text × how.IsDueAt from to (fault.LongLine n) text due) b.left on.taken
        (λ text found.
        let place : length given ≡ n - 1 = omega (arith, on.goes.0) in
        by.long n text due (omega (arith, on.goes.0), subst (λ (m : ℕ). IsFirstLong line_limit m (lines_of text)) place found.1)
        (subst (λ (l : List (List ℕ)). Due l due) (sym (first_are given (lines_of text) (n - 1) (sym place) found.0)) is_due)) on.goes.3;
    written = written;
  }

  -- what is due for the lines given is due for the first lines of each text that goes on so
  due_before : (given : List (List ℕ)) (due taken : List ℕ) → WereGiven b.left most given taken → Due given due → IsDueOnTheWay how from to b.left taken due
  due_before given due taken were is_due =
      settled_so (λ (text : List ℕ). Begins given (lines_of text)) (λ (text : List ℕ). how.IsDueBefore from to text due) b.left taken
      (λ text begins.
      let first : take (length given) (lines_of text) ≡ given = first_are given (lines_of text) (length given) refl begins in
      by.before (length given) text due (subst (AreWithin line_limit) (sym first) were.within) (subst (λ (l : List (List ℕ)). Due l due) (sym first) is_due))
      were.settled

  -- a write that ends early, of what is due for some lines more
  pub cut_short : (given more : List (List ℕ)) (due text taken : List ℕ) (mid : Option (List ℕ)) → WereGiven b.left most (given ++ more) taken → Consumes a.left b.left taken → IsReadInTime b.last Lines given taken → Due given due →
      Due (given ++ more) (due ++ text) → Appends a.written mid due → AppendsPart mid b.written text → BreaksOff how most from to a b
  cut_short given more due text taken mid were consumed time was_due is_due whole part =
      let before = earlier given due taken time was_due in
      let on = part_on a.written mid b.written before.text due text before.begins whole part in
      let by_lines : WritesOn how from b.last taken (due ++ text) a.written b.written = record { earlier = before.text; beside = to; was_due = before.was_due; written = on } in
      record {
        taken = taken;
        due = due ++ text;
        consumed = consumed;
        size = were.size;
        is_due = inr (on_true how.reads (IsInTime b.last how.IsFineSoFar taken) (in_time given due taken time was_due), due_before (given ++ more) (due ++ text) taken were is_due);
        written = (on.size, on.most, on.written);
        by_lines = on_true how.writes_by_lines (WritesOn how from b.last taken (due ++ text) a.written b.written) by_lines;
      }

  -- no memory for what is due next
  pub gives_up : (given : List (List ℕ)) (due taken : List ℕ) → WereGiven b.left most given taken → Consumes a.left b.left taken → Due given due → AppendsFront a.written b.written due → GivesUp how most from to a b
  gives_up given due taken were consumed is_due front = record {
    taken = taken;
    due = due;
    consumed = consumed;
    size = were.size;
    is_due = inr (due_before given due taken were is_due);
    written = front;
  }

  -- the source has ended
  pub read_to_end : (r : Reading) (given : List (List ℕ)) (due : List ℕ) → (on : Went r a.left b.left most given (Ok false)) → ((text : List ℕ) → lines_of text ≡ given → how.IsFine text × how.IsDue from to text due × how.Leaves from text due to) →
      Appends a.written b.written due → Finishes how most from to a b
  read_to_end r given due on is_due written =
      let read = on.goes.0 in
      let here = is_due on.taken (read.has.whole on.goes.1) in
      record {
        text = on.taken;
        due = due;
        consumed = on.consumed;
        end = on_true how.reads (IsAtEnd b.left) (read.end on.goes.1);
        size = on_true how.reads (length on.taken < most) (omega (arith, read.has.size on.goes.1, read.has.count, on.most_is));
        fine = here.0;
        is_due = here.1;
        leaves = here.2;
        written = written;
      }
