-- Lines of a source that are examined one after another, and gathered.
use Rattle.std.proofs.Common.{◌≡◌, ℕ, ◌+◌, ◌<◌, ◌≤◌, Bool, true, false, not, Option, None, Result, Ok, Err, IsErrAnd, inl, inr, List, [], ◌∷◌, ◌++◌, All, length, refl, sym, ap, subst, ◌∙◌, arith, append-nil, append_assoc}
use Rattle.std.proofs.lemmas.List.Elements.{All-head, All-tail, All-take}
use Rattle.std.specs.Io.KnownBytes.{Consumes}
use Rattle.std.proofs.KnownBytes.{Consumes-nil, Consumes-trans}
use Rattle.sk_model.specs.Causes.{HasCauseIn}
use Rattle.sk_model.specs.Limits.{line_limit}
use Rattle.sk_model.specs.Lines.{lines_of, AreWithin}
use Rattle.sk_model.specs.Missing.{Begins}
use Rattle.sk_model.proofs.Missing.{begins_append, begins_trans}
use Rattle.sk_read.specs.Faults.{fault_by}
use Rattle.sk_read.specs.Reading.{Reading, HasRead, Goes, remaining_of}
use Rattle.sk_read.specs.Reads.{IsInTime, Ends}
use Rattle.sk_read.specs.Units.{IsSoundUpTo}
use Rattle.sk_read.specs.declared.fault.Fault.{Fault}
use Rattle.sk_read.specs.declared.fault.Fault.TheVariants as fault
use Rattle.sk_read.specs.declared.reader.LineFault.{LineFault}
use Rattle.sk_read.specs.declared.reader.LineFault.TheVariants as line_fault
use Rattle.sk_read.specs.declared.units.Units.TheVariants.{Lines}
use Rattle.sk_read.proofs.ItemLaws.{front_is}
use Rattle.sk_read.proofs.Readings.{given_settled, in_time_within}
use Rattle.sk_read.proofs.LineEnds.{no_line, settled_so, line_missed_among}
use Rattle.sk_fill.specs.Fills.{ReadsLine}
use Rattle.sk_fill.proofs.Filled.{line_read, line_number, line_added, read_number}
use Rattle.sk_label.specs.Faults.{fault_of_lines}
use Rattle.sk_label.specs.Goes.{setting, EndsBefore, WroteSoFar}
use Rattle.sk_label.specs.Rules.{Rules, IsBad, IsRefused, AreFine}
use Rattle.sk_label.specs.declared.fault.LabelFault.{LabelFault}
use Rattle.sk_label.specs.declared.fault.LabelFault.TheVariants as label
use Rattle.sk_label.proofs.CarryLaws.{stops_so}
use Rattle.sk_label.proofs.QuietLaws.{wrote_none}
use Rattle.sk_label.proofs.RuleLaws.{fine_more}
use Rattle.sk_desks.specs.declared.plan.Plan.{Plan}
use Rattle.sk_desks.specs.Desks.{desk_rules}
use Rattle.sk_desks.specs.Gathers.{IsOfTenant, RefusesAs, GivesNext, GivesHeld, GoOnFine, EndsReading, StopsWithin, StopsHeld, TakesHeld, Gathers}

-- nothing is written at a line
pub never : (plan : Plan) (names : List (List ℕ)) (before : List (List ℕ)) (line : List ℕ) → (desk_rules plan names).due_at before line ≡ []
never plan names before line = refl

-- ---- lines that are fine

none_fine : (names : List (List ℕ)) → GoOnFine names []
none_fine names plan before fine = subst (AreFine (desk_rules plan names)) (sym (append-nil before)) fine

pub no_line_fine : (names lines : List (List ℕ)) → lines ≡ [] → GoOnFine names lines
no_line_fine names lines empty = subst (GoOnFine names) (sym empty) (none_fine names)

pub line_fine : (names lines lines' : List (List ℕ)) (line : List ℕ) → GoOnFine names lines → IsOfTenant names line → lines' ≡ lines ++ line ∷ [] → GoOnFine names lines'
line_fine names lines lines' line on fine added = λ plan before before_fine.
    let next = fine_more (desk_rules plan names) (before ++ lines) line (on plan before before_fine) (λ filled. let is = fine filled in (is.0, ap not is.1)) in
    subst (AreFine (desk_rules plan names)) (append_assoc before lines (line ∷ []) ∙ ap (λ (l : List (List ℕ)). before ++ l) (sym added)) next

-- some lines more
pub lines_fine : (names lines group : List (List ℕ)) → GoOnFine names lines → All (IsOfTenant names) group → GoOnFine names (lines ++ group)
lines_fine names lines [] on fine = subst (GoOnFine names) (sym (append-nil lines)) on
lines_fine names lines (line ∷ group) on fine =
    subst (GoOnFine names) (append_assoc lines (line ∷ []) group)
    (lines_fine names (lines ++ line ∷ []) group (line_fine names lines (lines ++ line ∷ []) line on (All-head (IsOfTenant names) line group fine) refl) (All-tail (IsOfTenant names) line group fine))

-- ---- lines that a reader gave, of which one is refused

module _ (names : List (List ℕ)) (plan : Plan) (r : Reading) (most : ℕ) (first left : Option (List ℕ)) (given group : List (List ℕ)) (taken : List ℕ) (bound : r.most ≡ most) (consumed : Consumes first left taken)
    (read : HasRead r left (given ++ group) taken) (in_time : IsInTime r.last Lines given taken) (fine : AreFine (desk_rules plan names) given)
  where
    wrote_then : (more : List (List ℕ)) → All (IsOfTenant names) more → WroteSoFar (desk_rules plan names) None None (given ++ more)
    wrote_then more are = wrote_none (desk_rules plan names) (never plan names) None (given ++ more) (lines_fine names [] more (none_fine names) are plan given fine)

    -- memory ran out before any of them was taken
    memory_ends : EndsBefore (desk_rules plan names) r.last most (setting first None) (setting left None) label.OutOfMemory
    memory_ends = record {
      given = given;
      taken = taken;
      consumed = consumed;
      size = omega (arith, read.has.count, read.bound, bound);
      in_time = in_time;
      known = wrote_none (desk_rules plan names) (never plan names) None given fine;
      comes = settled_so (λ (text : List ℕ). Begins (given ++ group) (lines_of text)) (λ (text : List ℕ). Begins given (lines_of text) × IsSoundUpTo Lines (length given) text) left taken
          (λ text begins.
          let front : Begins given (lines_of text) = begins_trans given (given ++ group) (lines_of text) (begins_append given group) begins in
          (front, subst (AreWithin line_limit) (sym (front_is given (lines_of text) front)) short))
          (given_settled r left (given ++ group) taken read);
    }
      where
        short : AreWithin line_limit given
        short =
            let every : AreWithin line_limit (given ++ group) = subst (λ (m : ℕ). AreWithin m (given ++ group)) read.limit read.has.within in
            subst (AreWithin line_limit) (front_is given (given ++ group) (begins_append given group)) (All-take (λ (l : List ℕ). length l ≤ line_limit) (length given) (given ++ group) every)

    pub stops_within : (n : ℕ) → n ≡ length given + 1 → (f : LabelFault) → StopsWithin names group n f → EndsBefore (desk_rules plan names) r.last most (setting first None) (setting left None) f
    stops_within n place f (inl memory) = subst (λ (x : LabelFault). EndsBefore (desk_rules plan names) r.last most (setting first None) (setting left None) x) (sym memory) memory_ends
    stops_within n place (label.BadLine m) (inr r1) =
        stops_so (λ ls l. (m ≡ length ls + 1) × (WroteSoFar (desk_rules plan names) None None ls × IsBad (desk_rules plan names) l)) (λ ls l. (m ≡ length ls + 1) × WroteSoFar (desk_rules plan names) None None ls × IsBad (desk_rules plan names) l) most first left (λ ls l at. (at.0, at.1.0, at.1.1))
        (line_missed_among (WroteSoFar (desk_rules plan names) None None) (λ (why : Fault) ls l. WroteSoFar (desk_rules plan names) None None ls × IsBad (desk_rules plan names) l) most r first left given group taken (fault.BadItem m) bound consumed
        (record { front = r1.before; unit = r1.line; begins = r1.begins; stopped = (wrote_then r1.before r1.fine, (r1.refused.1, r1.refused.2)); fault = omega (arith, r1.refused.0, place) }) read in_time)
    stops_within n place (label.Refused m) (inr r1) =
        stops_so (λ ls l. (m ≡ length ls + 1) × (WroteSoFar (desk_rules plan names) None None ls × IsRefused (desk_rules plan names) ls l)) (λ ls l. (m ≡ length ls + 1) × WroteSoFar (desk_rules plan names) None None ls × IsRefused (desk_rules plan names) ls l) most first left (λ ls l at. (at.0, at.1.0, at.1.1))
        (line_missed_among (WroteSoFar (desk_rules plan names) None None) (λ (why : Fault) ls l. WroteSoFar (desk_rules plan names) None None ls × IsRefused (desk_rules plan names) ls l) most r first left given group taken (fault.BadItem m) bound consumed
        (record { front = r1.before; unit = r1.line; begins = r1.begins; stopped = (wrote_then r1.before r1.fine, (r1.refused.1, r1.refused.2, ap not r1.refused.3)); fault = omega (arith, r1.refused.0, place) }) read in_time)
    stops_within n place label.OutOfMemory (inr r1) = absurd r1.refused
    stops_within n place label.ReadFault (inr r1) = absurd r1.refused
    stops_within n place label.WriteFault (inr r1) = absurd r1.refused
    stops_within n place label.TooMuch (inr r1) = absurd r1.refused
    stops_within n place (label.LongLine m) (inr r1) = absurd r1.refused

-- ---- lines that were given

none_given : (r : Reading) (left : Option (List ℕ)) → GivesNext [] r r left left
none_given r left given taken has = (
  [],
  Consumes-nil left,
  subst (λ (l : List (List ℕ)). HasRead r left l (taken ++ [])) (sym (append-nil given)) (subst (HasRead r left given) (sym (append-nil taken)) has),
)

pub no_line_given : (r : Reading) (left : Option (List ℕ)) (lines : List (List ℕ)) → lines ≡ [] → GivesNext lines r r left left
no_line_given r left lines empty = subst (λ (l : List (List ℕ)). GivesNext l r r left left) (sym empty) (none_given r left)

-- what a call of `next` gave
abbrev NextGoes : Reading → Reading → Option (List ℕ) → Option (List ℕ) → Result Bool LineFault → Type 0
NextGoes r r' old new result = (given : List (List ℕ)) (taken : List ℕ) → HasRead r old given taken → (more : List ℕ) × Consumes old new more × Goes r' new given (taken ++ more) result

module _ (names lines : List (List ℕ)) (r r1 r2 : Reading) (old mid new : Option (List ℕ)) (result : Result Bool LineFault) (gives : GivesNext lines r r1 old mid) (next : NextGoes r1 r2 mid new result) where
  -- a line more
  pub one_line : result ≡ Ok true → (given : List (List ℕ)) (taken : List ℕ) → HasRead r old given taken → ReadsLine r2 old new (given ++ lines) r2.cutter.line taken
  one_line is given taken has =
      let before = gives given taken has in
      let on = next (given ++ lines) (taken ++ before.0) before.2 in
      line_read r2 old mid new (given ++ lines) r2.cutter.line taken before.0 on.0 before.1 on.1 (subst (Goes r2 new (given ++ lines) ((taken ++ before.0) ++ on.0)) is on.2)

  pub line_given : result ≡ Ok true → (lines' : List (List ℕ)) (line : List ℕ) → line ≡ r2.cutter.line → lines' ≡ lines ++ line ∷ [] → GivesNext lines' r r2 old new
  line_given is lines' line own added given taken has =
      let one = one_line is given taken has in
      (one.more, one.consumed, line_added r2 new given lines lines' r2.cutter.line line (taken ++ one.more) own added one.read)

  -- the source ended
  pub end_given : result ≡ Ok false → GivesNext lines r r2 old new
  end_given is given taken has =
      let before = gives given taken has in
      let on = next (given ++ lines) (taken ++ before.0) before.2 in
      let goes : Goes r2 new (given ++ lines) ((taken ++ before.0) ++ on.0) (Ok false) = subst (Goes r2 new (given ++ lines) ((taken ++ before.0) ++ on.0)) is on.2 in
      (before.0 ++ on.0, Consumes-trans _ _ _ _ _ before.1 on.1, subst (HasRead r2 new (given ++ lines)) (append_assoc taken before.0 on.0) goes.0)

  pub has_ended : result ≡ Ok false → (given : List (List ℕ)) (taken : List ℕ) → HasRead r old given taken → r2.ended ≡ true
  has_ended is given taken has =
      let before = gives given taken has in
      let on = next (given ++ lines) (taken ++ before.0) before.2 in
      let goes : Goes r2 new (given ++ lines) ((taken ++ before.0) ++ on.0) (Ok false) = subst (Goes r2 new (given ++ lines) ((taken ++ before.0) ++ on.0)) is on.2 in
      goes.1

  -- ---- why the reading ended

  by_lines : (rules : Rules) (most : ℕ) (first : Option (List ℕ)) (s : LineFault) → Ends r2.last Lines most (WroteSoFar rules None None) (λ why given unit. ⊥) first new (fault_by s) → EndsBefore rules r2.last most (setting first None) (setting new None) (fault_of_lines s)
  by_lines rules most first line_fault.ReadFault ends = ends
  by_lines rules most first line_fault.TooMuch ends = ends
  by_lines rules most first (line_fault.LongLine n) ends = ends

  module _ (fine : GoOnFine names lines) (bound : r2.most ≡ r.most) where
    wrote : (plan : Plan) (given : List (List ℕ)) → AreFine (desk_rules plan names) given → WroteSoFar (desk_rules plan names) None None (given ++ lines)
    wrote plan given given_fine = wrote_none (desk_rules plan names) (never plan names) None (given ++ lines) (fine plan given given_fine)

    -- no line came
    pub stops_at_fault : (s : LineFault) → result ≡ Err s → EndsReading names r2.last r old new (fault_of_lines s)
    stops_at_fault s is = λ plan first given taken consumed has given_fine.
        let rules = desk_rules plan names in
        let before = gives given taken has in
        let on = next (given ++ lines) (taken ++ before.0) before.2 in
        let goes : Goes r2 new (given ++ lines) ((taken ++ before.0) ++ on.0) (Err s) = subst (Goes r2 new (given ++ lines) ((taken ++ before.0) ++ on.0)) is on.2 in
        by_lines rules r.most first s
        (no_line (WroteSoFar rules None None) (λ why given unit. ⊥) r.most r2 first new (given ++ lines) ((taken ++ before.0) ++ on.0) s bound
        (Consumes-trans _ _ _ _ _ (Consumes-trans _ _ _ _ _ consumed before.1) on.1) (wrote plan given given_fine) goes)

    -- the line is refused, or memory ran out for it
    pub stops_at_line : result ≡ Ok true → (line : List ℕ) (n : ℕ) → line ≡ r2.cutter.line → n ≡ r2.cutter.number → (f : LabelFault) → StopsWithin names (line ∷ []) n f → EndsReading names r2.last r old new f
    stops_at_line is line n own count f stops = λ plan first given taken consumed has given_fine.
        let one = one_line is given taken has in
        stops_within names plan r2 r.most first new (given ++ lines) (r2.cutter.line ∷ []) (taken ++ one.more) bound (Consumes-trans _ _ _ _ _ consumed one.consumed) one.read one.in_time (fine plan given given_fine)
        n (line_number r2 old new (given ++ lines) r2.cutter.line taken n one count) f (subst (λ (l : List ℕ). StopsWithin names (l ∷ []) n f) own stops)

-- ---- lines that a reader holds

-- those that it held went to those that it had given
pub held_given : (lines lines' : List (List ℕ)) (r r2 r3 : Reading) (old new : Option (List ℕ)) → GivesNext lines r r2 old new → GivesHeld lines lines' r2 r3 → GivesNext lines' r r3 old new
held_given lines lines' r r2 r3 old new gives held given taken has =
    let on = gives given taken has in
    (on.0, on.1, held new given (taken ++ on.0) on.2)

pub held_stops : (last : ℕ) (names lines : List (List ℕ)) (r r2 : Reading) (old new : Option (List ℕ)) → GivesNext lines r r2 old new → GoOnFine names lines → r2.most ≡ r.most → (f : LabelFault) → (GoOnFine names lines → StopsHeld names lines last r2 f) → EndsReading names last r old new f
held_stops last names lines r r2 old new gives fine bound f stops = λ plan first given taken consumed has given_fine.
    let on = gives given taken has in
    subst (λ (m : ℕ). EndsBefore (desk_rules plan names) last m (setting first None) (setting new None) f) bound
    (stops fine plan first new given (taken ++ on.0) (Consumes-trans _ _ _ _ _ consumed on.1) on.2 given_fine)

-- what a call of `next_lines` gave
abbrev GroupGoes : Reading → Reading → List (List ℕ) → Type 0
GroupGoes r r' group = (left : Option (List ℕ)) (given : List (List ℕ)) (taken : List ℕ) → HasRead r left given taken → HasRead r' left (given ++ group) taken

module _ (names lines0 lines group : List (List ℕ)) (r0 r r' : Reading) (held : GivesHeld lines0 lines r0 r) (goes : GroupGoes r r' group) where
  pub group_given : (lines' : List (List ℕ)) → lines' ≡ lines ++ group → GivesHeld lines0 lines' r0 r'
  group_given lines' added left given taken has =
      subst (λ (l : List (List ℕ)). HasRead r' left l taken) (append_assoc given lines group ∙ ap (λ (l : List (List ℕ)). given ++ l) (sym added)) (goes left (given ++ lines) taken (held left given taken has))

  -- one of them is refused, or memory ran out
  pub group_stops : (n : ℕ) → n ≡ r.cutter.number + 1 → r'.most ≡ r0.most → r'.last ≡ r.last → (GoOnFine names lines0 → GoOnFine names lines) → (f : LabelFault) → StopsWithin names group n f → GoOnFine names lines0 → StopsHeld names lines0 r'.last r0 f
  group_stops n count bound piece on f stops fine0 = λ plan first left given taken consumed has given_fine.
      let before : HasRead r left (given ++ lines) taken = held left given taken has in
      let read : HasRead r' left ((given ++ lines) ++ group) taken = goes left (given ++ lines) taken before in
      stops_within names plan r' r0.most first left (given ++ lines) group taken bound consumed read (in_time_within Lines (given ++ lines) taken (omega (arith, piece)) before.in_time) (on fine0 plan given given_fine)
      n (omega (arith, count, read_number r left (given ++ lines) taken before)) f stops

pub not_written : {T : Type 0} (result : Result T LabelFault) (f : LabelFault) → IsErrAnd result (λ x. x ≡ f) → (f ≡ label.WriteFault → ⊥) → result ≡ Err label.WriteFault → ⊥
not_written (Ok x) f is quiet same = absurd is
not_written (Err e) f is quiet same = let written : e ≡ label.WriteFault = cc in quiet (sym is ∙ written)

-- what was taken then, after lines that were taken
pub held_then : (names a b c : List (List ℕ)) (r s t : Reading) (result : Result Bool LabelFault) → TakesHeld names a b r s (Ok true) → TakesHeld names b c s t result → TakesHeld names a c r t result
held_then names a b c r s t (Ok x) one two = record {
  gives = λ left given taken has. two.gives left given taken (one.gives left given taken has);
  fine = λ fine. two.fine (one.fine fine);
  stopped = tt;
  bound = two.bound ∙ one.bound;
  piece = two.piece ∙ one.piece;
  fewer = omega (arith, one.fewer, two.fewer);
  quiet = two.quiet;
  no_read = two.no_read;
}
held_then names a b c r s t (Err f) one two = record {
  gives = tt;
  fine = tt;
  stopped = λ fine plan first left given taken consumed has given_fine.
      subst (λ (m : ℕ). EndsBefore (desk_rules plan names) t.last m (setting first None) (setting left None) f) one.bound (two.stopped (one.fine fine) plan first left given taken consumed (one.gives left given taken has) given_fine);
  bound = two.bound ∙ one.bound;
  piece = two.piece ∙ one.piece;
  fewer = omega (arith, one.fewer, two.fewer);
  quiet = two.quiet;
  no_read = two.no_read;
}

pub held_passed : (names a b : List (List ℕ)) (r s : Reading) (f : LabelFault) (result : Result Bool LabelFault) → IsErrAnd result (λ x. x ≡ f) → TakesHeld names a b r s (Err f) → TakesHeld names a b r s result
held_passed names a b r s f (Ok x) is takes = absurd is
held_passed names a b r s f (Err e) is takes = subst (λ (x : LabelFault). TakesHeld names a b r s (Err x)) (sym is) takes

pub held_all : (names lines lines' : List (List ℕ)) (r r' : Reading) (x : Bool) → GivesHeld lines lines' r r' → (GoOnFine names lines → GoOnFine names lines') → r'.most ≡ r.most → r'.last ≡ r.last → remaining_of r' ≤ remaining_of r → TakesHeld names lines lines' r r' (Ok x)
held_all names lines lines' r r' x gives fine bound piece fewer = record { gives = gives; fine = fine; stopped = tt; bound = bound; piece = piece; fewer = fewer; quiet = λ is. cc; no_read = λ is. cc }

pub held_none : (names lines : List (List ℕ)) (r : Reading) (x : Bool) → TakesHeld names lines lines r r (Ok x)
held_none names lines r x = held_all names lines lines r r x (λ left given taken has. has) (λ fine. fine) refl refl (omega arith)

-- nothing stood in the way of more
pub held_again : (names a b : List (List ℕ)) (r s : Reading) → TakesHeld names a b r s (Ok false) → TakesHeld names a b r s (Ok true)
held_again names a b r s takes = held_all names a b r s true takes.gives takes.fine takes.bound takes.piece takes.fewer

pub stops_quiet : (names lines : List (List ℕ)) (n : ℕ) (f : LabelFault) → StopsWithin names lines n f → f ≡ label.WriteFault → ⊥
stops_quiet names lines n f (inl memory) is = let no : label.OutOfMemory ≡ label.WriteFault = sym memory ∙ is in cc
stops_quiet names lines n f (inr r) is = absurd (subst (RefusesAs names r.line (n + length r.before)) is r.refused)

stops_unread : (names lines : List (List ℕ)) (n : ℕ) (f : LabelFault) → StopsWithin names lines n f → f ≡ label.ReadFault → ⊥
stops_unread names lines n f (inl memory) is = let no : label.OutOfMemory ≡ label.ReadFault = sym memory ∙ is in cc
stops_unread names lines n f (inr r) is = absurd (subst (RefusesAs names r.line (n + length r.before)) is r.refused)

pub held_not : (names lines lines' group : List (List ℕ)) (r r' : Reading) (n : ℕ) (result : Result Bool LabelFault) (f : LabelFault) → IsErrAnd result (λ x. x ≡ f) → StopsWithin names group n f → (GoOnFine names lines → StopsHeld names lines r'.last r f) → r'.most ≡ r.most → r'.last ≡ r.last → remaining_of r' ≤ remaining_of r → TakesHeld names lines lines' r r' result
held_not names lines lines' group r r' n (Ok x) f is stops stopped bound piece fewer = absurd is
held_not names lines lines' group r r' n (Err e) f is stops stopped bound piece fewer = record {
  gives = tt;
  fine = tt;
  stopped = subst (λ (x : LabelFault). GoOnFine names lines → StopsHeld names lines r'.last r x) (sym is) stopped;
  bound = bound;
  piece = piece;
  fewer = fewer;
  quiet = not_written (Err e) f is (stops_quiet names group n f stops);
  no_read = λ same. let read : e ≡ label.ReadFault = cc in stops_unread names group n f stops (sym is ∙ read);
}

-- no read failed
pub no_cause : {T : Type 0} (result : Result T LabelFault) (f : LabelFault) (before now : ℕ) → IsErrAnd result (λ x. x ≡ f) → (f ≡ label.ReadFault → ⊥) → now ≡ before → HasCauseIn label.ReadFault before now result
no_cause (Ok x) f before now is never_read same = absurd is
no_cause (Err e) f before now is never_read same = record { steady = λ _. same; failed = λ other. let read : e ≡ label.ReadFault = cc in absurd (never_read (sym is ∙ read)) }

-- ---- how it went

pub lines_quiet : (s : LineFault) → fault_of_lines s ≡ label.WriteFault → ⊥
lines_quiet line_fault.ReadFault is = cc
lines_quiet line_fault.TooMuch is = cc
lines_quiet (line_fault.LongLine n) is = cc

module _ (names : List (List ℕ)) (r r' : Reading) (old new : Option (List ℕ)) (lines : List (List ℕ)) (bound : r'.most ≡ r.most) where
  pub gathers_full : GivesNext lines r r' old new → GoOnFine names lines → remaining_of r' < remaining_of r → Gathers names r r' old new lines (Ok true)
  gathers_full gives fine less = record { gives = gives; fine = fine; end = λ is. cc; progress = λ is. less; bound = bound; stopped = tt; quiet = λ is. cc }

  pub gathers_last : GivesNext lines r r' old new → GoOnFine names lines → r'.ended ≡ true → Gathers names r r' old new lines (Ok false)
  gathers_last gives fine ended = record { gives = gives; fine = fine; end = λ is. ended; progress = λ is. cc; bound = bound; stopped = tt; quiet = λ is. cc }

  pub gathers_not : (result : Result Bool LabelFault) (f : LabelFault) → IsErrAnd result (λ x. x ≡ f) → (f ≡ label.WriteFault → ⊥) → EndsReading names r'.last r old new f → Gathers names r r' old new lines result
  gathers_not (Ok b) f is quiet stops = absurd is
  gathers_not (Err e) f is quiet stops = record {
    gives = tt;
    fine = tt;
    end = λ same. cc;
    progress = λ same. cc;
    bound = bound;
    stopped = subst (EndsReading names r'.last r old new) (sym is) stops;
    quiet = not_written (Err e) f is quiet;
  }
