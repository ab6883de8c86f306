-- How a command goes that answers to lines.
use Rattle.std.proofs.Common.{◌≡◌, ◌≢◌, inl, inr, ℕ, ◌+◌, ◌≤◌, Bool, true, false, List, [], ◌∷◌, ◌++◌, length, Option, Result, Ok, Err, IsErrAnd, refl, sym, ap, ◌∙◌, subst, arith, append-nil, append_assoc, length-append}
use Rattle.std.specs.Io.KnownBytes.{Appends, Consumes}
use Rattle.std.proofs.KnownBytes.{Appends-nil, Appends-trans}
use Rattle.sk_model.specs.Causes.{AppendsFront, AppendsPart}
use Rattle.sk_model.specs.Limits.{line_limit}
use Rattle.sk_model.specs.Lines.{lines_of, AreWithin, IsFirstLong}
use Rattle.sk_model.specs.Missing.{Begins}
use Rattle.sk_model.proofs.Missing.{begins_more}
use Rattle.sk_read.specs.Reading.{Reading, HasRead, GoesHeld}
use Rattle.sk_read.specs.Reads.{IsSettled, IsInTime as IsReadInTime}
use Rattle.sk_read.specs.Units.{complete_units_of}
use Rattle.sk_read.specs.declared.reader.LineFault.{LineFault}
use Rattle.sk_read.specs.declared.reader.LineFault.TheVariants as stop
use Rattle.sk_read.specs.declared.units.Units.TheVariants.{Lines}
use Rattle.sk_read.proofs.ItemLaws.{has_few}
use Rattle.sk_read.proofs.LineEnds.{settled_so}
use Rattle.sk_read.proofs.Readings.{in_time_within}
use Rattle.sk_cli.specs.Answering.{Answers, AnswersHeld, EndsHeld, GoesByAnswers}
use Rattle.sk_cli.specs.Behaviour.{Behaviour}
use Rattle.sk_cli.specs.Beside.{Beside}
use Rattle.sk_cli.specs.Fault.{fault_by_line}
use Rattle.sk_cli.specs.Outside.{Streams}
use Rattle.sk_cli.specs.Run.{Refuses, Ends, Finishes}
use Rattle.sk_cli.specs.declared.fault.Fault.{Fault}
use Rattle.sk_cli.specs.declared.fault.Fault.TheVariants as fault
use Rattle.sk_cli.proofs.Endings.{front_of_any}
use Rattle.sk_cli.proofs.Fronts.{front_of_all}
use Rattle.sk_cli.proofs.Reading.{Reads, Went, GotLine, WereGiven, within_given, were_given, first_were_given, first_are, in_time, failed, gives_up, cut_short, read_to_end}

-- ---- lines that were held

-- so many of them were answered, and one more was given
pub record CameHeld (Led : List (List ℕ) → List ℕ → Type 0) (r : Reading) (left : Option (List ℕ)) (given : List (List ℕ)) (taken due text : List ℕ) : Type 0 where
  pub more : List (List ℕ)
  pub led : Led (given ++ more) (due ++ text)
  pub read : HasRead r left ((given ++ more) ++ r.cutter.line ∷ []) taken

-- that one was answered too
pub record AnsweredHeld (Led : List (List ℕ) → List ℕ → Type 0) (r : Reading) (left : Option (List ℕ)) (given : List (List ℕ)) (taken due text : List ℕ) : Type 0 where
  pub more : List (List ℕ)
  pub led : Led (given ++ more) (due ++ text)
  pub read : HasRead r left (given ++ more) taken

-- the number of the line behind these
number_behind : (r : Reading) (left : Option (List ℕ)) (given : List (List ℕ)) (line taken : List ℕ) (n : ℕ) → HasRead r left (given ++ line ∷ []) taken → n ≡ r.cutter.number → n ≡ length given + 1
number_behind r left given line taken n read number =
    omega (arith, number, read.has.number, has_few r (given ++ line ∷ []) taken read.has, read.has.count, read.bound, read.few, length-append given (line ∷ []))

pub came_none : (Led : List (List ℕ) → List ℕ → Type 0) (r : Reading) (left : Option (List ℕ)) (given : List (List ℕ)) (taken due text : List ℕ) → text ≡ [] → HasRead r left (given ++ r.cutter.line ∷ []) taken → Led given due → CameHeld Led r left given taken due text
came_none Led r left given taken due text empty read led = record {
  more = [];
  led = subst (λ (l : List (List ℕ)). Led l (due ++ text)) (sym (append-nil given)) (subst (Led given) (sym (append-nil due) ∙ ap (λ (t : List ℕ). due ++ t) (sym empty)) led);
  read = subst (λ (l : List (List ℕ)). HasRead r left (l ++ r.cutter.line ∷ []) taken) (sym (append-nil given)) read;
}

pub answered_more : (Was Is : List (List ℕ) → List ℕ → Type 0) (r : Reading) (left : Option (List ℕ)) (given : List (List ℕ)) (taken due old new line : List ℕ) → CameHeld Was r left given taken due old → line ≡ r.cutter.line → Answers Was Is line old new →
    AnsweredHeld Is r left given taken due new
answered_more Was Is r left given taken due old new line came own answers =
    let lines : (given ++ came.more) ++ line ∷ [] ≡ given ++ (came.more ++ line ∷ []) = append_assoc given came.more (line ∷ []) in
    let text : (due ++ old) ++ answers.said ≡ due ++ new = append_assoc due old answers.said ∙ ap (λ (t : List ℕ). due ++ t) (sym answers.text) in
    record {
      more = came.more ++ line ∷ [];
      led = subst (λ (l : List (List ℕ)). Is l (due ++ new)) lines (subst (Is ((given ++ came.more) ++ line ∷ [])) text (answers.on (given ++ came.more) (due ++ old) came.led));
      read = subst (λ (l : List (List ℕ)). HasRead r left l taken) (ap (λ (l : List ℕ). (given ++ came.more) ++ l ∷ []) (sym own) ∙ lines) came.read;
    }

pub came_more : (Led : List (List ℕ) → List ℕ → Type 0) (old r : Reading) (left : Option (List ℕ)) (given : List (List ℕ)) (taken due text : List ℕ) (result : Result Bool LineFault) → AnsweredHeld Led old left given taken due text →
    ((given : List (List ℕ)) (taken : List ℕ) → HasRead old left given taken → GoesHeld r left given taken result) → result ≡ Ok true → CameHeld Led r left given taken due text
came_more Led old r left given taken due text result on goes was = record {
  more = on.more;
  led = on.led;
  read = subst (GoesHeld r left (given ++ on.more) taken) was (goes (given ++ on.more) taken on.read);
}

-- what is due by one is due by another
pub due_too : (Due Too Led : List (List ℕ) → List ℕ → Type 0) (Refused : List (List ℕ) → List ℕ → Type 0) (r : Reading) (left : Option (List ℕ)) (given : List (List ℕ)) (taken due text : List ℕ) (result : Result (Unit {0}) Fault) →
    ((lines : List (List ℕ)) (text : List ℕ) → Due lines text → Too lines text) → AnswersHeld Due Led Refused r left given taken due text result → AnswersHeld Too Led Refused r left given taken due text result
due_too Due Too Led Refused r left given taken due text result so held = record { more = held.more; is_due = so (given ++ held.more) (due ++ text) held.is_due; led = held.led; ends = held.ends }

module _ (Due Led Now : List (List ℕ) → List ℕ → Type 0) (Refused : List (List ℕ) → List ℕ → Type 0) (is_due : (lines : List (List ℕ)) (text : List ℕ) → Led lines text → Due lines text) (left : Option (List ℕ)) (given : List (List ℕ)) (taken due text : List ℕ) where
  -- a fault behind them
  pub fault_behind : (r : Reading) (result : Result (Unit {0}) Fault) (f : Fault) (more : List (List ℕ)) → IsErrAnd result (λ (x : Fault). x ≡ f) → Led (given ++ more) (due ++ text) → EndsHeld Refused r left (given ++ more) taken (Err f) →
      AnswersHeld Due Now Refused r left given taken due text result
  fault_behind r (Ok x) f more is led ends = absurd is
  fault_behind r (Err e) f more is led ends = record {
    more = more;
    is_due = is_due (given ++ more) (due ++ text) led;
    led = tt;
    ends = subst (λ (x : Fault). EndsHeld Refused r left (given ++ more) taken (Err x)) (sym is) ends;
  }

  pub refused_held : (r : Reading) (n : ℕ) (line : List ℕ) → line ≡ r.cutter.line → n ≡ r.cutter.number → CameHeld Led r left given taken due text →
      ((lines : List (List ℕ)) (text : List ℕ) → Led lines text → Refused lines line) → AnswersHeld Due Now Refused r left given taken due text (Err (fault.BadEvent n))
  refused_held r n line own number came refused =
      let lines = given ++ came.more in
      fault_behind r (Err (fault.BadEvent n)) (fault.BadEvent n) came.more refl came.led
      (r.cutter.line, came.read, number_behind r left lines r.cutter.line taken n came.read number, subst (Refused lines) own (refused lines (due ++ text) came.led))

  pub no_memory_held : (r : Reading) (result : Result (Unit {0}) Fault) → IsErrAnd result (λ (x : Fault). x ≡ fault.OutOfMemory) → CameHeld Led r left given taken due text → AnswersHeld Due Now Refused r left given taken due text result
  no_memory_held r result is came = fault_behind r result fault.OutOfMemory came.more is came.led (r.cutter.line, came.read)

  -- a line that is too long
  pub long_held : (old r : Reading) (result : Result (Unit {0}) Fault) (answer : Result Bool LineFault) (s : LineFault) → AnsweredHeld Led old left given taken due text →
      ((given : List (List ℕ)) (taken : List ℕ) → HasRead old left given taken → GoesHeld r left given taken answer) → answer ≡ Err s → (answer ≢ Err stop.ReadFault) × (answer ≢ Err stop.TooMuch) →
      IsErrAnd result (λ (x : Fault). x ≡ fault_by_line s) → AnswersHeld Due Now Refused r left given taken due text result
  long_held old r result answer stop.ReadFault on goes was other is = absurd (other.0 was)
  long_held old r result answer stop.TooMuch on goes was other is = absurd (other.1 was)
  long_held old r result answer (stop.LongLine n) on goes was other is =
      fault_behind r result (fault.LongLine n) on.more is on.led (subst (GoesHeld r left (given ++ on.more) taken) was (goes (given ++ on.more) taken on.read))

module _ (Due Led : List (List ℕ) → List ℕ → Type 0) (Refused : List (List ℕ) → List ℕ → Type 0) (is_due : (lines : List (List ℕ)) (text : List ℕ) → Led lines text → Due lines text) (left : Option (List ℕ)) (given : List (List ℕ)) (taken due text : List ℕ) where
  -- the text is full
  pub full_held : (r : Reading) → AnsweredHeld Led r left given taken due text → AnswersHeld Due Led Refused r left given taken due text (Ok tt)
  full_held r on = record { more = on.more; is_due = is_due (given ++ on.more) (due ++ text) on.led; led = on.led; ends = on.read }

  -- no more were held
  pub none_held : (old r : Reading) (answer : Result Bool LineFault) → AnsweredHeld Led old left given taken due text → ((given : List (List ℕ)) (taken : List ℕ) → HasRead old left given taken → GoesHeld r left given taken answer) → answer ≡ Ok false →
      AnswersHeld Due Led Refused r left given taken due text (Ok tt)
  none_held old r answer on goes was =
      full_held r (record { more = on.more; led = on.led; read = (subst (GoesHeld r left (given ++ on.more) taken) was (goes (given ++ on.more) taken on.read)).0 })

-- ---- the reads

-- so many lines were answered, and this was written
pub record CameTo (Led : List (List ℕ) → List ℕ → Type 0) (r : Reading) (start : Streams) (now : Option (List ℕ)) (most : ℕ) (written : Option (List ℕ)) (given : List (List ℕ)) : Type 0 where
  pub more : List (List ℕ)
  pub text : List ℕ
  pub taken : List ℕ
  pub reads : Reads r start.left now most (given ++ more) taken
  pub led : Led (given ++ more) text
  pub whole : Appends start.written written text

pub came_to_start : (Led : List (List ℕ) → List ℕ → Type 0) (r : Reading) (start : Streams) (now written : Option (List ℕ)) (given : List (List ℕ)) (taken : List ℕ) → HasRead r now given taken → Consumes start.left now taken → start.written ≡ written → Led given [] →
    CameTo Led r start now r.most written given
came_to_start Led r start now written given taken read consumed same led =
    let all : given ≡ given ++ [] = sym (append-nil given) in
    record {
      more = [];
      text = [];
      taken = taken;
      reads = record { read = subst (λ (l : List (List ℕ)). HasRead r now l taken) all read; consumed = consumed; most_is = refl };
      led = subst (λ (l : List (List ℕ)). Led l []) all led;
      whole = subst (λ (w : Option (List ℕ)). Appends start.written w []) same (Appends-nil start.written);
    }

-- the lines of one read more
pub came_on : (Was Due Is : List (List ℕ) → List ℕ → Type 0) (Refused : List (List ℕ) → List ℕ → Type 0) (old at r : Reading) (start : Streams) (before now : Option (List ℕ)) (most : ℕ) (mid written : Option (List ℕ)) (given : List (List ℕ)) (text : List ℕ) →
    (came : CameTo Was old start before most mid given) → (got : GotLine at start.left now most (given ++ came.more)) → r.most ≡ at.most → AnswersHeld Due Is Refused r now (given ++ came.more) got.taken came.text text (Ok tt) → Appends mid written text →
    CameTo Is r start now most written given
came_on Was Due Is Refused old at r start before now most mid written given text came got same held wrote =
    let lines : (given ++ came.more) ++ held.more ≡ given ++ (came.more ++ held.more) = append_assoc given came.more held.more in
    record {
      more = came.more ++ held.more;
      text = came.text ++ text;
      taken = got.taken;
      reads = record { read = subst (λ (l : List (List ℕ)). HasRead r now l got.taken) lines held.ends; consumed = got.reads.consumed; most_is = same ∙ got.reads.most_is };
      led = subst (λ (l : List (List ℕ)). Is l (came.text ++ text)) lines held.led;
      whole = Appends-trans start.written mid written came.text text came.whole wrote;
    }

-- lines behind them do not hinder that they were examined in time
time_longer : {last : ℕ} (given more : List (List ℕ)) (taken : List ℕ) → IsReadInTime last Lines given taken → IsReadInTime last Lines (given ++ more) taken
time_longer given more taken is = record {
  front = is.front;
  piece = is.piece;
  joined = is.joined;
  size = is.size;
  few = is.few;
  sound = is.sound;
  earlier = begins_more (complete_units_of Lines is.front) given more is.earlier;
}

settled_gives : (P : List ℕ → Type 0) (Q : Type 0) (left : Option (List ℕ)) (taken : List ℕ) → ((text : List ℕ) → P text → Q) → IsSettled P left taken → Q
settled_gives P Q left taken gives (inl always) = gives (taken ++ []) (always [])
settled_gives P Q left taken gives (inr here) = gives taken here.1

-- the lines that were answered were given
held_given : (Refused : List (List ℕ) → List ℕ → Type 0) (r : Reading) (left : Option (List ℕ)) (most : ℕ) (lines : List (List ℕ)) (taken : List ℕ) (result : Result (Unit {0}) Fault) → r.most ≡ most → EndsHeld Refused r left lines taken result → WereGiven left most lines taken
held_given Refused r left most lines taken (Ok x) is ends = were_given r left most lines taken is ends
held_given Refused r left most lines taken (Err fault.OutOfMemory) is ends = first_were_given left most lines (ends.0 ∷ []) taken (were_given r left most (lines ++ ends.0 ∷ []) taken is ends.1)
held_given Refused r left most lines taken (Err (fault.BadEvent n)) is ends = first_were_given left most lines (ends.0 ∷ []) taken (were_given r left most (lines ++ ends.0 ∷ []) taken is ends.1)
held_given Refused r left most lines taken (Err (fault.LongLine n)) is ends =
    let P : List ℕ → Type 0 = λ text. Begins lines (lines_of text) × IsFirstLong line_limit (length lines) (lines_of text) in
    record {
      settled = settled_so P (λ (text : List ℕ). Begins lines (lines_of text)) left taken (λ text found. found.0) ends.3;
      within = settled_gives P (AreWithin line_limit lines) left taken (λ text found. subst (AreWithin line_limit) (first_are lines (lines_of text) (length lines) refl found.0) found.1.1) ends.3;
      size = omega (arith, ends.1, is);
    }
held_given Refused r left most lines taken (Err f) is ends = absurd ends

module _ (how : Behaviour) (from to : Beside) (Due : List (List ℕ) → List ℕ → Type 0) (Refused : List (List ℕ) → List ℕ → Type 0) (given : List (List ℕ)) (by : GoesByAnswers how from to Due Refused given) (most : ℕ) (a b : Streams) where
  -- a fault behind the answers, which were written
  pub ends_behind : (f : Fault) (r : Reading) (lines : List (List ℕ)) (due taken : List ℕ) → r.most ≡ most → r.last ≤ b.last → Consumes a.left b.left taken → IsReadInTime b.last Lines lines taken → EndsHeld Refused r b.left lines taken (Err f) → Due lines due →
      Appends a.written b.written due → Ends how most from to a b f
  ends_behind fault.OutOfMemory r lines due taken is within consumed time ends is_due written =
      gives_up how from to Due by.by_lines most a b lines due taken (held_given Refused r b.left most lines taken (Err fault.OutOfMemory) is ends) consumed is_due (front_of_all a.written b.written due written)
  ends_behind (fault.LongLine n) r lines due taken is within consumed time ends is_due written =
      let on : Went r a.left b.left most lines (Err (stop.LongLine n)) = record { taken = taken; consumed = consumed; goes = ends; most_is = is } in
      failed how from to Due by.by_lines most a b r lines due (stop.LongLine n) within on is_due written
  ends_behind (fault.BadEvent n) r lines due taken is within consumed time ends is_due written =
      let were = were_given r b.left most (lines ++ ends.0 ∷ []) taken is ends.1 in
      let refused : Refuses how most (fault.BadEvent (length lines + 1)) from to a b = record {
        taken = taken;
        due = due;
        consumed = consumed;
        size = were.size;
        in_time = in_time how from to Due by.by_lines most a b lines due taken time is_due;
        refused = settled_so (λ (text : List ℕ). Begins (lines ++ ends.0 ∷ []) (lines_of text)) (λ (text : List ℕ). how.Refuses (fault.BadEvent (length lines + 1)) text × how.IsDueAt from to (fault.BadEvent (length lines + 1)) text due) b.left taken
            (λ text begins. by.refused lines ends.0 due is_due ends.3 text begins were.within) were.settled;
        written = written;
      } in
      subst (λ (m : ℕ). Refuses how most (fault.BadEvent m) from to a b) (sym ends.2) refused
  ends_behind f r lines due taken is within consumed time ends is_due written = absurd ends

  module _ (Led : List (List ℕ) → List ℕ → Type 0) (is_due : (lines : List (List ℕ)) (text : List ℕ) → Led lines text → Due lines text) where
    -- no memory for the first of them
    pub no_room : (r : Reading) (taken : List ℕ) → r.most ≡ most → HasRead r b.left given taken → Consumes a.left b.left taken → a.written ≡ b.written → Led given [] → Ends how most from to a b fault.OutOfMemory
    no_room r taken is read consumed same led =
        gives_up how from to Due by.by_lines most a b given [] taken (were_given r b.left most given taken is read) consumed (is_due given [] led) (subst (λ (w : Option (List ℕ)). AppendsFront a.written w []) same (front_of_any a.written []))

    module _ (old : Reading) (before mid : Option (List ℕ)) (came : CameTo Led old a before most mid given) where
      -- no further line came
      pub no_line : (r : Reading) (s : LineFault) → r.last ≤ b.last → Went r a.left b.left most (given ++ came.more) (Err s) → b.written ≡ mid → Ends how most from to a b (fault_by_line s)
      no_line r s within on same =
          failed how from to Due by.by_lines most a b r (given ++ came.more) came.text s within on (is_due (given ++ came.more) came.text came.led) (subst (λ (w : Option (List ℕ)). Appends a.written w came.text) (sym same) came.whole)

      -- the source has ended
      pub ended : (r : Reading) → Went r a.left b.left most (given ++ came.more) (Ok false) → b.written ≡ mid → Finishes how most from to a b
      ended r on same =
          read_to_end how from to Due by.by_lines most a b r (given ++ came.more) came.text on
          (λ text is. by.whole came.more came.text (is_due (given ++ came.more) came.text came.led) text is (within_given old a.left before most (given ++ came.more) came.taken came.reads))
          (subst (λ (w : Option (List ℕ)). Appends a.written w came.text) (sym same) came.whole)

      module _ (Is : List (List ℕ) → List ℕ → Type 0) (at r : Reading) (text : List ℕ) (result : Result (Unit {0}) Fault) (got : GotLine at a.left b.left most (given ++ came.more)) (same : r.most ≡ at.most) (within : at.last ≤ b.last) (piece : r.last ≡ at.last)
          (held : AnswersHeld Due Is Refused r b.left (given ++ came.more) got.taken came.text text result) where
        -- the answers to the lines of a read were written in part or not at all
        pub answers_cut_short : AppendsPart mid b.written text → Ends how most from to a b fault.WriteFault
        answers_cut_short part =
            let were = held_given Refused r b.left most ((given ++ came.more) ++ held.more) got.taken result (same ∙ got.reads.most_is) held.ends in
            cut_short how from to Due by.by_lines most a b (given ++ came.more) held.more came.text text got.taken mid were got.reads.consumed (in_time_within Lines (given ++ came.more) got.taken within got.time) (is_due (given ++ came.more) came.text came.led) held.is_due came.whole part

        -- they were written, and a fault stands behind them
        pub fault_behind_answers : (f : Fault) → result ≡ Err f → Appends mid b.written text → Ends how most from to a b f
        fault_behind_answers f was wrote =
            let lines = (given ++ came.more) ++ held.more in
            ends_behind f r lines (came.text ++ text) got.taken (same ∙ got.reads.most_is) (omega (arith, piece, within)) got.reads.consumed (time_longer (given ++ came.more) held.more got.taken (in_time_within Lines (given ++ came.more) got.taken within got.time))
            (subst (EndsHeld Refused r b.left lines got.taken) was held.ends) held.is_due (Appends-trans a.written mid b.written came.text text came.whole wrote)
