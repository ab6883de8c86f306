-- The lines that a reader held, taken into a window one after another.
use Rattle.std.proofs.Common.{◌≡◌, ℕ, ◌+◌, ◌<◌, ◌≤◌, Bool, true, false, List, [], ◌∷◌, ◌++◌, length, All, Option, IsNone, Result, Ok, Err, IsErrAnd, refl, sym, ap, ◌∙◌, subst, arith, append_assoc, length-append}
use Rattle.std.specs.Io.KnownBytes.{Consumes}
use Rattle.sk_model.specs.Limits.{line_limit, most_kept}
use Rattle.sk_model.specs.Missing.{Begins}
use Rattle.sk_model.proofs.Missing.{begins_more}
use Rattle.sk_read.specs.Faults.{fault_by}
use Rattle.sk_read.specs.Items.{item_of, IsGood}
use Rattle.sk_read.specs.Reading.{Reading, HasRead, HoldsNone, Goes}
use Rattle.sk_read.specs.Reads.{Ends}
use Rattle.sk_read.specs.declared.fault.Fault.{Fault}
use Rattle.sk_read.specs.declared.fault.Fault.TheVariants as fault
use Rattle.sk_read.specs.declared.kind.Kind.{Kind}
use Rattle.sk_read.specs.declared.reader.LineFault.{LineFault}
use Rattle.sk_read.specs.declared.units.Units.TheVariants.{Lines}
use Rattle.sk_read.proofs.ItemLaws.{has_few, last_within}
use Rattle.sk_read.proofs.LineEnds.{no_line, line_missed}
use Rattle.sk_read.proofs.Readings.{in_time_within}
use Rattle.sk_fill.specs.Windows.{FillsNone, IsFullWindow}
use Rattle.sk_fill.specs.Fills.{RefusesLine, EndsWithLine, TakesHeld, TakesMore}
use Rattle.sk_fill.proofs.Filled.{read_few}

not_then : (result : Result Bool Fault) (why : Fault) (b : Bool) → result ≡ Err why → result ≡ Ok b → ⊥
not_then result why b one other = cc

not_now : (result : Result Bool Fault) → result ≡ Ok false → result ≡ Ok true → ⊥
not_now result one other = cc

-- the result that a fault makes
err_is : (result : Result Bool Fault) (why : Fault) → IsErrAnd result (λ x. x ≡ why) → result ≡ Err why
err_is (Ok b) why is = absurd is
err_is (Err x) why is = ap (λ (e : Fault). Err e) is

-- the window is full
pub full_held : (kind : Kind) (most : ℕ) (old new : List (List ℕ)) (r0 r' : Reading) → IsFullWindow most new → All (IsGood kind) new → EndsWithLine old new
    → ((left : Option (List ℕ)) (given : List (List ℕ)) (taken : List ℕ) → HasRead r0 left (given ++ old) taken → HasRead r' left (given ++ new) taken) → TakesHeld kind most old new r0 r' (Ok true)
full_held kind most old new r0 r' full good last read = record {
  full = λ _. full;
  unfilled = λ other. absurd (other refl);
  good = good;
  last = λ _. last;
  read = read;
  none = λ other. absurd (not_now (Ok true) other refl);
  few = λ left given taken has. read_few r' left (given ++ new) taken (read left given taken has);
  stopped = tt;
}

module _ (kind : Kind) (most : ℕ) (lines_before lines_found : List (List ℕ)) (r0 r r' : Reading) (m : TakesMore kind most lines_before lines_found r0 r) where
  few_found : (left : Option (List ℕ)) (given : List (List ℕ)) (taken : List ℕ) → HasRead r0 left (given ++ lines_before) taken → length (given ++ lines_found) ≤ most_kept
  few_found left given taken has = read_few r left (given ++ lines_found) taken (m.read left given taken has)

  -- none was held
  pub none_held : ((left : Option (List ℕ)) (given : List (List ℕ)) (taken : List ℕ) → HasRead r left given taken → HasRead r' left given taken × HoldsNone r' given taken) → TakesHeld kind most lines_before lines_found r0 r' (Ok false)
  none_held stays = record {
    full = λ is. absurd (not_now (Ok false) refl is);
    unfilled = λ _. m.unfilled;
    good = m.good;
    last = λ is. absurd (not_now (Ok false) refl is);
    read = λ left given taken has. (stays left (given ++ lines_found) taken (m.read left given taken has)).0;
    none = λ _ left given taken has. (stays left (given ++ lines_found) taken (m.read left given taken has)).1;
    few = few_found;
    stopped = tt;
  }

  -- a fault came after them
  fault_held : (why : Fault) → ((first left : Option (List ℕ)) (given : List (List ℕ)) (taken : List ℕ) → Consumes first left taken → HasRead r0 left (given ++ lines_before) taken
      → Ends r'.last Lines r0.most (λ lines. lines ≡ given ++ lines_found) (RefusesLine kind (given ++ lines_found)) first left why) → TakesHeld kind most lines_before lines_found r0 r' (Err why)
  fault_held why ends = record {
    full = λ is. absurd (not_then (Err why) why true refl is);
    unfilled = λ _. m.unfilled;
    good = m.good;
    last = λ is. absurd (not_then (Err why) why true refl is);
    read = tt;
    none = λ is. absurd (not_then (Err why) why false refl is);
    few = few_found;
    stopped = ends;
  }

  -- one that is too long
  pub long_held : (why : LineFault) (result : Result Bool Fault) → r'.most ≡ r0.most → IsErrAnd result (λ x. x ≡ fault_by why)
      → ((left : Option (List ℕ)) (given : List (List ℕ)) (taken : List ℕ) → HasRead r left given taken → Goes r' left given taken (Err why)) → TakesHeld kind most lines_before lines_found r0 r' result
  long_held why result bound is goes =
      subst (TakesHeld kind most lines_before lines_found r0 r') (sym (err_is result (fault_by why) is)) (fault_held (fault_by why) (λ first left given taken consumed has.
      no_line (λ lines. lines ≡ given ++ lines_found) (RefusesLine kind (given ++ lines_found)) r0.most r' first left (given ++ lines_found) taken why bound consumed refl (goes left (given ++ lines_found) taken (m.read left given taken has))))

  -- one that is no item
  pub bad_held : (line : List ℕ) (n : ℕ) → r'.most ≡ r0.most → r'.last ≡ r.last → line ≡ r'.cutter.line → n ≡ r'.cutter.number → 0 < length line → IsNone (item_of kind line)
      → ((left : Option (List ℕ)) (given : List (List ℕ)) (taken : List ℕ) → HasRead r left given taken → HasRead r' left (given ++ r'.cutter.line ∷ []) taken) → TakesHeld kind most lines_before lines_found r0 r' (Err (fault.BadItem n))
  bad_held line n bound same_read own number some bad gave = fault_held (fault.BadItem n) (λ first left given taken consumed has.
      let before = m.read left given taken has in
      let read = gave left (given ++ lines_found) taken before in
      let few = has_few r' ((given ++ lines_found) ++ r'.cutter.line ∷ []) taken read.has in
      let place : n ≡ length (given ++ lines_found) + 1 = omega (arith, number, read.has.number, few, read.has.count, read.bound, read.few, length-append (given ++ lines_found) (r'.cutter.line ∷ [])) in
      line_missed (λ lines. lines ≡ given ++ lines_found) (RefusesLine kind (given ++ lines_found)) r0.most r' first left (given ++ lines_found) r'.cutter.line taken n (fault.BadItem n) bound consumed place refl
      (subst (λ l. RefusesLine kind (given ++ lines_found) (fault.BadItem n) (given ++ lines_found) l) own (refl, some, bad)) read (in_time_within Lines (given ++ lines_found) taken (omega (arith, same_read)) before.in_time))

  -- one for which no memory was found
  pub no_room_held : (new : List (List ℕ)) (result : Result Bool Fault) → new ≡ lines_found → r'.most ≡ r0.most → r'.last ≡ r.last → IsErrAnd result (λ x. x ≡ fault.OutOfMemory)
      → ((left : Option (List ℕ)) (given : List (List ℕ)) (taken : List ℕ) → HasRead r left given taken → HasRead r' left (given ++ r'.cutter.line ∷ []) taken) → TakesHeld kind most lines_before new r0 r' result
  no_room_held new result same bound same_read is gave = subst (λ l. TakesHeld kind most lines_before l r0 r' result) (sym same)
      (subst (TakesHeld kind most lines_before lines_found r0 r') (sym (err_is result fault.OutOfMemory is)) (fault_held fault.OutOfMemory (λ first left given taken consumed has.
      let before = m.read left given taken has in
      let read = gave left (given ++ lines_found) taken before in
      let few = has_few r' ((given ++ lines_found) ++ r'.cutter.line ∷ []) taken read.has in
      let place : r'.cutter.number ≡ length (given ++ lines_found) + 1 = omega (arith, read.has.number, few, read.has.count, read.bound, read.few, length-append (given ++ lines_found) (r'.cutter.line ∷ [])) in
      line_missed (λ lines. lines ≡ given ++ lines_found) (RefusesLine kind (given ++ lines_found)) r0.most r' first left (given ++ lines_found) r'.cutter.line taken r'.cutter.number fault.OutOfMemory bound consumed place tt refl read (in_time_within Lines (given ++ lines_found) taken (omega (arith, same_read)) before.in_time))))

  -- a line went to the window
  line_gave : (lines' : List (List ℕ)) (own : List ℕ) → own ≡ r'.cutter.line → lines' ≡ lines_found ++ own ∷ []
      → ((left : Option (List ℕ)) (given : List (List ℕ)) (taken : List ℕ) → HasRead r left given taken → HasRead r' left (given ++ r'.cutter.line ∷ []) taken)
      → (left : Option (List ℕ)) (given : List (List ℕ)) (taken : List ℕ) → HasRead r0 left (given ++ lines_before) taken → HasRead r' left (given ++ lines') taken
  line_gave lines' own same added gave left given taken has =
      subst (λ l. HasRead r' left l taken) (append_assoc given lines_found (r'.cutter.line ∷ []) ∙ ap (λ l. given ++ (lines_found ++ l ∷ [])) (sym same) ∙ ap (λ l. given ++ l) (sym added)) (gave left (given ++ lines_found) taken (m.read left given taken has))

  pub line_taken : (lines' : List (List ℕ)) (own : List ℕ) → own ≡ r'.cutter.line → lines' ≡ lines_found ++ own ∷ [] → FillsNone most lines' → All (IsGood kind) lines'
      → ((left : Option (List ℕ)) (given : List (List ℕ)) (taken : List ℕ) → HasRead r left given taken → HasRead r' left (given ++ r'.cutter.line ∷ []) taken) → TakesMore kind most lines_before lines' r0 r'
  line_taken lines' own same added unfilled good gave = record {
    begins = subst (Begins lines_before) (sym added) (begins_more lines_before lines_found (own ∷ []) m.begins);
    unfilled = unfilled;
    good = good;
    read = line_gave lines' own same added gave;
  }

  pub last_taken : (lines' : List (List ℕ)) (own : List ℕ) → own ≡ r'.cutter.line → lines' ≡ lines_found ++ own ∷ [] → IsFullWindow most lines' → All (IsGood kind) lines'
      → ((left : Option (List ℕ)) (given : List (List ℕ)) (taken : List ℕ) → HasRead r left given taken → HasRead r' left (given ++ r'.cutter.line ∷ []) taken) → TakesHeld kind most lines_before lines' r0 r' (Ok true)
  last_taken lines' own same added full good gave =
      full_held kind most lines_before lines' r0 r' full good (lines_found, own, added, m.begins) (line_gave lines' own same added gave)

-- a line that was given is no longer than it may be
pub short_line : (r : Reading) (left : Option (List ℕ)) (given : List (List ℕ)) (line own taken : List ℕ) → own ≡ line → HasRead r left (given ++ line ∷ []) taken → length own ≤ line_limit
short_line r left given line own taken is read = subst (λ l. length l ≤ line_limit) (sym is) (subst (λ m. length line ≤ m) read.limit (last_within r.cutter.limit given line read.has.within))
