-- How the reading of a source ends.
use Rattle.std.proofs.Common.{◌≡◌, ℕ, ◌+◌, ◌≤◌, List, [], ◌∷◌, ◌++◌, length, take, false, Option, None, Some, IfSome, Result, Ok, Err, IsErrAnd, inl, inr, refl, sym, ap, ◌∙◌, subst, arith, append-nil, append_assoc, length-append}
use Rattle.std.specs.Io.KnownBytes.{Consumes}
use Rattle.std.proofs.KnownBytes.{Consumes-nil}
use Rattle.std.proofs.lemmas.List.Elements.{All-nil, All-take}
use Rattle.sk_model.specs.Limits.{line_limit}
use Rattle.sk_model.specs.Lines.{lines_of, AreWithin, IsFirstLong}
use Rattle.sk_model.specs.Missing.{Begins}
use Rattle.sk_model.proofs.Missing.{begins_refl, begins_append, begins_trans}
use Rattle.sk_read.specs.declared.reader.LineFault.{LineFault}
use Rattle.sk_read.specs.declared.reader.LineFault.TheVariants as stop
use Rattle.sk_read.specs.declared.fault.Fault.{Fault}
use Rattle.sk_read.specs.declared.fault.Fault.TheVariants as fault
use Rattle.sk_read.specs.declared.units.Units.{Units}
use Rattle.sk_read.specs.declared.units.Units.TheVariants.{Lines}
use Rattle.sk_read.specs.Faults.{fault_by, IsOfTaker}
use Rattle.sk_read.specs.Reading.{Reading, HasRead, Goes}
use Rattle.sk_read.specs.Reads.{IsSettled, IsInTime, BreaksOff, ReadsAll, StopsAt, StopsAmong, Ends, Reads}
use Rattle.sk_read.specs.Units.{IsSoundUpTo}
use Rattle.sk_read.proofs.ItemLaws.{front_is, has_few}
use Rattle.sk_read.proofs.Readings.{given_settled, in_time_within, in_time_more, nothing_read}

pub settled_so : (P Q : List ℕ → Type 0) (left : Option (List ℕ)) (taken : List ℕ) → ((text : List ℕ) → P text → Q text) → IsSettled P left taken → IsSettled Q left taken
settled_so P Q left taken so (inl always) = inl (λ later. so (taken ++ later) (always later))
settled_so P Q left taken so (inr here) = inr (here.0, so taken here.1)

-- a fact of every text that continues the bytes taken is one of the text read, if the source reports it
pub settled_told : (P : List ℕ → Type 0) (old left : Option (List ℕ)) (taken : List ℕ) → Consumes old left taken → IsSettled P left taken → IfSome old P
settled_told P None left taken consumed settled = tt
settled_told P (Some text) None taken consumed settled = absurd consumed
settled_told P (Some text) (Some rest) taken consumed (inl always) = subst P (sym consumed) (always rest)
settled_told P (Some text) (Some rest) taken consumed (inr here) = subst P (sym (consumed ∙ ap (λ (l : List ℕ). taken ++ l) here.0 ∙ append-nil taken)) here.1

-- a taker stopped at a line, and lines after it may have been given too
line_stops : (Stopped : List (List ℕ) → List ℕ → Type 0) (most : ℕ) (r : Reading) (old left : Option (List ℕ)) (given : List (List ℕ)) (line : List ℕ) (all : List (List ℕ)) (taken : List ℕ) → r.most ≡ most →
    Consumes old left taken → Stopped given line → Begins (given ++ line ∷ []) all → HasRead r left all taken → IsInTime r.last Lines given taken → StopsAt r.last Lines most Stopped old left
line_stops Stopped most r old left given line all taken is consumed stopped among read in_time = (
  line,
  record {
    given = given;
    taken = taken;
    consumed = consumed;
    size = omega (arith, read.has.count, read.bound, is);
    in_time = in_time;
    known = stopped;
    comes = settled_so (λ (text : List ℕ). Begins all (lines_of text))
        (λ (text : List ℕ). Begins given (lines_of text) × (Begins (given ++ line ∷ []) (lines_of text) × IsSoundUpTo Lines (length given + 1) text)) left taken (λ text begins.
        let first = begins_trans (given ++ line ∷ []) all (lines_of text) among begins in (
          begins_trans given (given ++ line ∷ []) (lines_of text) (begins_append given (line ∷ [])) first,
          (first, within text first),
        )) (given_settled r left all taken read);
  },
)
  where
    short : AreWithin line_limit (given ++ line ∷ [])
    short =
        let Short : List ℕ → Type 0 = λ (l : List ℕ). length l ≤ line_limit in
        let every : AreWithin line_limit all = subst (λ (m : ℕ). AreWithin m all) read.limit read.has.within in
        subst (AreWithin line_limit) (front_is (given ++ line ∷ []) all among) (All-take Short (length (given ++ line ∷ [])) all every)

    within : (text : List ℕ) → Begins (given ++ line ∷ []) (lines_of text) → IsSoundUpTo Lines (length given + 1) text
    within text begins =
        let front : take (length given + 1) (lines_of text) ≡ given ++ line ∷ [] =
        ap (λ (m : ℕ). take m (lines_of text)) (omega (arith, length-append given (line ∷ []))) ∙ front_is (given ++ line ∷ []) (lines_of text) begins in
        subst (AreWithin line_limit) (sym front) short

-- after other lines they come so too
begins_behind : (given front more : List (List ℕ)) (unit : List ℕ) → Begins (front ++ unit ∷ []) more → Begins ((given ++ front) ++ unit ∷ []) (given ++ more)
begins_behind given front more unit begins = (
  begins.0,
  ap (λ (l : List (List ℕ)). given ++ l) begins.1 ∙ sym (append_assoc given (front ++ unit ∷ []) begins.0) ∙ ap (λ (l : List (List ℕ)). l ++ begins.0) (sym (append_assoc given front (unit ∷ []))),
)

-- a read of more bytes is as good
pub breaks_within : (a b : ℕ) (units : Units) (most : ℕ) (Known : List (List ℕ) → Type 0) (Comes : List (List ℕ) → List ℕ → Type 0) (old new : Option (List ℕ)) → a ≤ b →
    BreaksOff a units most Known Comes old new → BreaksOff b units most Known Comes old new
breaks_within a b units most Known Comes old new within off = record {
  given = off.given;
  taken = off.taken;
  consumed = off.consumed;
  size = off.size;
  in_time = in_time_within units off.given off.taken within off.in_time;
  known = off.known;
  comes = off.comes;
}

module _ (Gave : List (List ℕ) → Type 0) (Stopped : Fault → List (List ℕ) → List ℕ → Type 0) (most : ℕ) where
  -- with a read of more bytes it ended so too
  pub ends_within : (a b : ℕ) (units : Units) (old new : Option (List ℕ)) (f : Fault) → a ≤ b → Ends a units most Gave Stopped old new f → Ends b units most Gave Stopped old new f
  ends_within a b units old new fault.OutOfMemory within (inl off) = inl (breaks_within a b units most Gave _ old new within off)
  ends_within a b units old new fault.OutOfMemory within (inr stops) = inr (stops.0, breaks_within a b units most _ _ old new within stops.1)
  ends_within a b units old new fault.ReadFault within ends = ends
  ends_within a b units old new fault.TooMuch within ends = ends
  ends_within a b units old new (fault.LongLine n) within off = breaks_within a b units most Gave _ old new within off
  ends_within a b units old new (fault.BadCsv n) within off = breaks_within a b units most Gave _ old new within off
  ends_within a b units old new (fault.BadItem n) within stops = (stops.0, breaks_within a b units most _ _ old new within stops.1)
  ends_within a b units old new fault.WriteFault within stops = (stops.0, breaks_within a b units most _ _ old new within stops.1)

  -- a taker stopped at a unit, for this fault
  pub taker_ends : (last : ℕ) (units : Units) (old new : Option (List ℕ)) (given : List (List ℕ)) (unit : List ℕ) (n : ℕ) (f : Fault) → n ≡ length given + 1 → IsOfTaker n f → Stopped f given unit →
      ((Known : List (List ℕ) → List ℕ → Type 0) → Known given unit → StopsAt last units most Known old new) → Ends last units most Gave Stopped old new f
  taker_ends last units old new given unit n (fault.BadItem m) place of stopped stops = stops (λ given unit. (m ≡ length given + 1) × Stopped (fault.BadItem m) given unit) (of ∙ place, stopped)
  taker_ends last units old new given unit n fault.OutOfMemory place of stopped stops = inr (stops (Stopped fault.OutOfMemory) stopped)
  taker_ends last units old new given unit n fault.WriteFault place of stopped stops = stops (Stopped fault.WriteFault) stopped
  taker_ends last units old new given unit n _ place of stopped stops = absurd of

  -- the fault of the whole
  pub ends_read : (a b : ℕ) (units : Units) (old new : Option (List ℕ)) (f : Fault) (r : Result ℕ Fault) → IsErrAnd r (λ (x : Fault). x ≡ f) → a ≤ b → Ends a units most Gave Stopped old new f → Reads b units most Gave Stopped old new r
  ends_read a b units old new f (Ok n) is within ends = absurd is
  ends_read a b units old new f (Err e) is within ends = subst (λ (x : Fault). Ends b units most Gave Stopped old new x) (sym is) (ends_within a b units old new f within ends)

  -- no memory before the first read
  pub nothing_came : (last : ℕ) (left : Option (List ℕ)) → Gave [] → Ends last Lines most Gave Stopped left left fault.OutOfMemory
  nothing_came last left gave = inl (record {
    given = [];
    taken = [];
    consumed = Consumes-nil left;
    size = omega arith;
    in_time = nothing_read last;
    known = gave;
    comes = inl (λ later. ((lines_of later, refl), All-nil (λ (l : List ℕ). length l ≤ line_limit)));
  })

  -- out of memory after the lines given
  pub no_memory : (r : Reading) (old left : Option (List ℕ)) (given : List (List ℕ)) (taken : List ℕ) → r.most ≡ most → Consumes old left taken → Gave given → HasRead r left given taken →
      Ends r.last Lines most Gave Stopped old left fault.OutOfMemory
  no_memory r old left given taken is consumed gave read = inl (record {
    given = given;
    taken = taken;
    consumed = consumed;
    size = omega (arith, read.has.count, read.bound, is);
    in_time = read.in_time;
    known = gave;
    comes = settled_so (λ (text : List ℕ). Begins given (lines_of text)) (λ (text : List ℕ). Begins given (lines_of text) × IsSoundUpTo Lines (length given) text) left taken
        (λ text begins. (begins, subst (AreWithin line_limit) (sym (front_is given (lines_of text) begins)) (subst (λ (m : ℕ). AreWithin m given) read.limit read.has.within)))
        (given_settled r left given taken read);
  })

  -- no line came
  pub no_line : (r : Reading) (old left : Option (List ℕ)) (given : List (List ℕ)) (taken : List ℕ) (s : LineFault) → r.most ≡ most → Consumes old left taken → Gave given → Goes r left given taken (Err s) →
      Ends r.last Lines most Gave Stopped old left (fault_by s)
  no_line r old left given taken stop.ReadFault is consumed gave goes = record {
    taken = taken;
    consumed = consumed;
    size = omega (arith, goes.1, is);
    sound = goes.0.1;
    gave = subst Gave (sym goes.0.0) gave;
  }
  no_line r old left given taken stop.TooMuch is consumed gave goes = record {
    taken = taken;
    consumed = consumed;
    size = goes.1 ∙ is;
    sound = goes.0.1;
    gave = subst Gave (sym goes.0.0) gave;
  }
  no_line r old left given taken (stop.LongLine n) is consumed gave goes = record {
    given = given;
    taken = taken;
    consumed = consumed;
    size = omega (arith, goes.1, is);
    in_time = goes.2;
    known = gave;
    comes = settled_so (λ (text : List ℕ). Begins given (lines_of text) × IsFirstLong line_limit (length given) (lines_of text))
        (λ (text : List ℕ). Begins given (lines_of text) × ((n ≡ length given + 1) × IsFirstLong line_limit (length given) (lines_of text))) left taken (λ text first. (first.0, (goes.0, first.1))) goes.3;
  }

  -- a taker stopped at a line, for this fault
  pub line_missed : (r : Reading) (old left : Option (List ℕ)) (given : List (List ℕ)) (line taken : List ℕ) (n : ℕ) (f : Fault) → r.most ≡ most → Consumes old left taken → n ≡ length given + 1 → IsOfTaker n f →
      Stopped f given line → HasRead r left (given ++ line ∷ []) taken → IsInTime r.last Lines given taken → Ends r.last Lines most Gave Stopped old left f
  line_missed r old left given line taken n f is consumed place of stopped read in_time =
      taker_ends r.last Lines old left given line n f place of stopped (λ (Known : List (List ℕ) → List ℕ → Type 0) known.
      line_stops Known most r old left given line (given ++ line ∷ []) taken is consumed known (begins_refl (given ++ line ∷ [])) read in_time)

  -- a taker of lines that come after those given stopped at one of them, for this fault
  pub line_missed_among : (r : Reading) (old left : Option (List ℕ)) (given more : List (List ℕ)) (taken : List ℕ) (f : Fault) → r.most ≡ most → Consumes old left taken → StopsAmong Stopped f given more →
      HasRead r left (given ++ more) taken → IsInTime r.last Lines given taken → Ends r.last Lines most Gave Stopped old left f
  line_missed_among r old left given more taken f is consumed stops read in_time =
      let before = given ++ stops.front in
      taker_ends r.last Lines old left before stops.unit (length given + length stops.front + 1) f (omega (arith, length-append given stops.front)) stops.fault stops.stopped
      (λ (Known : List (List ℕ) → List ℕ → Type 0) known.
      line_stops Known most r old left before stops.unit (given ++ more) taken is consumed known (begins_behind given stops.front more stops.unit stops.begins) read (in_time_more Lines given stops.front taken (omega arith) in_time))

  -- the last line was given
  pub all_lines : (r : Reading) (old left : Option (List ℕ)) (given : List (List ℕ)) (taken : List ℕ) (n : ℕ) → r.most ≡ most → Consumes old left taken → Gave given → Goes r left given taken (Ok false) →
      n ≡ r.cutter.number → ReadsAll Lines most n Gave old left
  all_lines r old left given taken n is consumed gave goes number =
      let read = goes.0 in
      let whole : lines_of taken ≡ given = read.has.whole goes.1 in
      record {
        taken = taken;
        consumed = consumed;
        end = read.end goes.1;
        size = omega (arith, read.has.size goes.1, read.has.count, is);
        sound = subst (AreWithin line_limit) (sym whole) (subst (λ (m : ℕ). AreWithin m given) read.limit read.has.within);
        number = omega (arith, number, read.has.number, ap length whole, has_few r given taken read.has, read.has.count, read.bound, read.few);
        gave = subst Gave (sym whole) gave;
      }
