-- A taker of labelled lines as one of units: one line more, and what its end says.
use Rattle.std.proofs.Common.{◌≡◌, ℕ, zero, suc, ◌+◌, ◌≤◌, List, [], ◌∷◌, ◌++◌, length, take, Option, None, Some, Result, Ok, Err, inl, inr, refl, sym, ap, ◌∙◌, subst, arith}
use Rattle.std.proofs.lemmas.List.Elements.{All-take}
use Rattle.sk_model.specs.Causes.{HasCauseIn}
use Rattle.sk_model.specs.Limits.{line_limit}
use Rattle.sk_model.specs.Lines.{lines_of, AreWithin}
use Rattle.sk_model.specs.Missing.{Begins}
use Rattle.sk_read.specs.Reads.{IsSettled, BreaksOff, StopsAt, Ends}
use Rattle.sk_read.specs.Units.{units_by, units_of, IsSoundUpTo, IsUnevenBehind}
use Rattle.sk_read.specs.declared.fault.Fault.{Fault}
use Rattle.sk_read.specs.declared.fault.Fault.TheVariants as fault
use Rattle.sk_read.specs.declared.units.Units.TheVariants.{Lines}
use Rattle.sk_read.proofs.LineEnds.{settled_so, breaks_within}
use Rattle.sk_label.specs.declared.fault.LineStop.{LineStop}
use Rattle.sk_label.specs.declared.fault.LineStop.TheVariants as stop
use Rattle.sk_label.specs.Rules.{Rules, IsBad, IsRefused}
use Rattle.sk_label.specs.declared.fault.LabelFault.{LabelFault}
use Rattle.sk_label.specs.declared.fault.LabelFault.TheVariants as label
use Rattle.sk_label.specs.Goes.{Setting, setting, EndsBefore, WroteSoFar, WrotePartAt}
use Rattle.sk_label.specs.Stops.{Takes, StopsBy}
use Rattle.sk_label.specs.Faults.{fault_at}
use Rattle.sk_label.specs.Carrying.{Shown, Carried, BreaksAt, Broke, Dropped, fault_by}
use Rattle.sk_label.proofs.RuleLaws.{wrote_more, wrote_part}

not_failed : {A E : Type 0} (v : A) (fault : E) → Ok v ≡ Err fault → ⊥
not_failed v fault is = cc

-- a call that did not fail leaves the count
pub steady_ok : {A E : Type 0} (fault : E) (before now : ℕ) (r : Result A E) (v : A) → HasCauseIn fault before now r → r ≡ Ok v → now ≡ before
steady_ok fault before now r v cause ok = cause.steady (λ failed. not_failed v fault (sym ok ∙ failed))

-- one line more was taken
pub carried_more : (Went Went' : List (List ℕ) → Type 0) (a b c : Shown) (lines : List (List ℕ)) (line : List ℕ) → Carried Went a b lines → Takes b.rules Went' b.written c.written lines line → c.rules ≡ b.rules → c.faults ≡ b.faults →
    Carried Went' a c (lines ++ line ∷ [])
carried_more Went Went' a b c lines line carried takes rules steady =
    let takes' : Takes a.rules Went' b.written c.written lines line = subst (λ (r : Rules). Takes r Went' b.written c.written lines line) carried.rules takes in
    record {
      wrote = wrote_more a.rules Went' a.written b.written c.written lines line carried.wrote takes';
      went = takes.went;
      rules = rules ∙ carried.rules;
      steady = steady ∙ carried.steady;
    }

-- it wrote nothing since
wrote_still : (rules : Rules) (a b c : Option (List ℕ)) (lines : List (List ℕ)) → c ≡ b → WroteSoFar rules a b lines → WroteSoFar rules a c lines
wrote_still rules a b c lines same wrote = subst (λ (w : Option (List ℕ)). WroteSoFar rules a w lines) (sym same) wrote

breaks_at : (rules : Rules) (a b c : Option (List ℕ)) (lines : List (List ℕ)) (line : List ℕ) (why : LineStop) → WroteSoFar rules a b lines → StopsBy rules b c lines line why → BreaksAt rules a c lines line why
breaks_at rules a b c lines line stop.OutOfMemory wrote stops = wrote_still rules a b c lines stops wrote
breaks_at rules a b c lines line stop.WriteFault wrote stops = wrote_part rules a b c lines line wrote stops.0 stops.1
breaks_at rules a b c lines line stop.BadLine wrote stops = (wrote_still rules a b c lines stops.1 wrote, stops.0)
breaks_at rules a b c lines line stop.Refused wrote stops = (wrote_still rules a b c lines stops.1 wrote, stops.0)

-- it stopped at a line
pub broke_at : (Went : List (List ℕ) → Type 0) (a b c : Shown) (lines : List (List ℕ)) (line : List ℕ) (why : LineStop) → Carried Went a b lines → StopsBy b.rules b.written c.written lines line why →
    HasCauseIn {T = Unit {0}} stop.WriteFault b.faults c.faults (Err why) → Broke a c lines line why
broke_at Went a b c lines line why carried stops cause = record {
  breaks = breaks_at a.rules a.written b.written c.written lines line why carried.wrote (subst (λ (r : Rules). StopsBy r b.written c.written lines line why) carried.rules stops);
  cause = subst (λ (n : ℕ). HasCauseIn {T = Unit {0}} stop.WriteFault n c.faults (Err why)) carried.steady cause;
}

-- ---- its end

pub stops_so : {last : ℕ} (Known Known' : List (List ℕ) → List ℕ → Type 0) (most : ℕ) (old new : Option (List ℕ)) → ((lines : List (List ℕ)) (line : List ℕ) → Known lines line → Known' lines line) → StopsAt last Lines most Known old new →
    StopsAt last Lines most Known' old new
stops_so Known Known' most old new so (line, off) = (
  line,
  record { given = off.given; taken = off.taken; consumed = off.consumed; size = off.size; in_time = off.in_time; known = so off.given line off.known; comes = off.comes },
)

pub breaks_so : {last : ℕ} (Known Known' : List (List ℕ) → Type 0) (Comes Comes' : List (List ℕ) → List ℕ → Type 0) (most : ℕ) (old new : Option (List ℕ)) → ((lines : List (List ℕ)) → Known lines → Known' lines) →
    ((lines : List (List ℕ)) (text : List ℕ) → Comes lines text → Comes' lines text) → BreaksOff last Lines most Known Comes old new → BreaksOff last Lines most Known' Comes' old new
breaks_so Known Known' Comes Comes' most old new so on off = record {
  given = off.given;
  taken = off.taken;
  consumed = off.consumed;
  size = off.size;
  in_time = off.in_time;
  known = so off.given off.known;
  comes = settled_so (λ (text : List ℕ). Begins off.given (lines_of text) × Comes off.given text) (λ (text : List ℕ). Begins off.given (lines_of text) × Comes' off.given text) new off.taken
      (λ text here. (here.0, on off.given text here.1)) off.comes;
}

-- with a read of more bytes it ended so too
pub ends_within : (rules : Rules) (a b most : ℕ) (old new : Setting) (f : LabelFault) → a ≤ b → EndsBefore rules a most old new f → EndsBefore rules b most old new f
ends_within rules a b most old new label.OutOfMemory within off = breaks_within a b (units_by 0) most _ _ old.left new.left within off
ends_within rules a b most old new label.ReadFault within some = some
ends_within rules a b most old new label.TooMuch within some = some
ends_within rules a b most old new (label.LongLine n) within off = breaks_within a b (units_by 0) most _ _ old.left new.left within off
ends_within rules a b most old new (label.BadLine n) within stops = (stops.0, breaks_within a b (units_by 0) most _ _ old.left new.left within stops.1)
ends_within rules a b most old new (label.Refused n) within stops = (stops.0, breaks_within a b (units_by 0) most _ _ old.left new.left within stops.1)
ends_within rules a b most old new label.WriteFault within stops = (stops.0, breaks_within a b (units_by 0) most _ _ old.left new.left within stops.1)

take_within : (m n : ℕ) (xs : List (List ℕ)) → m ≤ n → take m (take n xs) ≡ take m xs
take_within zero n xs within = refl
take_within (suc m) zero xs within = absurd (omega arith)
take_within (suc m) (suc n) [] within = refl
take_within (suc m) (suc n) (x ∷ xs) within = ap (λ (l : List (List ℕ)). x ∷ l) (take_within m n xs (omega arith))

-- the lines before the last of those that are sound are so
sound_before : (n : ℕ) (text : List ℕ) → IsSoundUpTo Lines (n + 1) text → IsSoundUpTo Lines n text
sound_before n text sound =
    let Short : List ℕ → Type 0 = λ (l : List ℕ). length l ≤ line_limit in
    subst (AreWithin line_limit) (take_within n (n + 1) (lines_of text) (omega arith)) (All-take Short n (take (n + 1) (lines_of text)) sound)

-- no column of records is read
no_record : {last : ℕ} (Known : List (List ℕ) → Type 0) (n most : ℕ) (old new : Option (List ℕ)) → BreaksOff last Lines most Known (λ lines text. (n ≡ length lines + 1) × IsUnevenBehind Lines (length lines) text) old new → ⊥
no_record Known n most old new off = go off.comes
  where
    go : IsSettled (λ text. Begins off.given (units_of Lines text) × ((n ≡ length off.given + 1) × IsUnevenBehind Lines (length off.given) text)) new off.taken → ⊥
    go (inl always) = (always []).1.1
    go (inr here) = here.1.1.1

module _ (Went : List (List ℕ) → Type 0) (a b : Shown) (most : ℕ) (old new : Option (List ℕ)) where
  known : (lines : List (List ℕ)) → Carried Went a b lines → WroteSoFar a.rules a.written b.written lines
  known lines carried = carried.wrote

  same : (Comes : List (List ℕ) → List ℕ → Type 0) (lines : List (List ℕ)) (text : List ℕ) → Comes lines text → Comes lines text
  same Comes lines text comes = comes

  -- it stopped at a line of this number
  stop_ends : {last : ℕ} (n : ℕ) (why : LineStop) → StopsAt last Lines most (λ lines line. (n ≡ length lines + 1) × Broke a b lines line why) old new →
      EndsBefore a.rules last most (setting old a.written) (setting new b.written) (fault_at why n)
  stop_ends n stop.OutOfMemory stops =
      breaks_so (λ lines. (n ≡ length lines + 1) × Broke a b lines stops.0 stop.OutOfMemory) (WroteSoFar a.rules a.written b.written)
      (λ lines text. Begins (lines ++ stops.0 ∷ []) (units_of Lines text) × IsSoundUpTo Lines (length lines + 1) text) (λ lines text. IsSoundUpTo Lines (length lines) text) most old new
      (λ lines at. at.1.breaks) (λ lines text comes. sound_before (length lines) text comes.1) stops.1
  stop_ends n stop.WriteFault stops =
      stops_so (λ lines line. (n ≡ length lines + 1) × Broke a b lines line stop.WriteFault) (WrotePartAt a.rules a.written b.written) most old new (λ lines line at. at.1.breaks) stops
  stop_ends n stop.BadLine stops =
      stops_so (λ lines line. (n ≡ length lines + 1) × Broke a b lines line stop.BadLine) (λ lines line. (n ≡ length lines + 1) × WroteSoFar a.rules a.written b.written lines × IsBad a.rules line) most old new
      (λ lines line at. (at.0, at.1.breaks.0, at.1.breaks.1)) stops
  stop_ends n stop.Refused stops =
      stops_so (λ lines line. (n ≡ length lines + 1) × Broke a b lines line stop.Refused) (λ lines line. (n ≡ length lines + 1) × WroteSoFar a.rules a.written b.written lines × IsRefused a.rules lines line) most old new
      (λ lines line at. (at.0, at.1.breaks.0, at.1.breaks.1)) stops

  pub ends_before : (last : ℕ) (carried : Option LineStop) (f : Fault) → Ends last Lines most (Carried Went a b) (Dropped a b carried) old new f →
      EndsBefore a.rules last most (setting old a.written) (setting new b.written) (fault_by f carried)
  ends_before last carried fault.OutOfMemory (inl off) =
      breaks_so (Carried Went a b) (WroteSoFar a.rules a.written b.written) (λ lines text. IsSoundUpTo Lines (length lines) text) (λ lines text. IsSoundUpTo Lines (length lines) text) most old new known
      (same (λ lines text. IsSoundUpTo Lines (length lines) text)) off
  ends_before last carried fault.OutOfMemory (inr stops) = absurd stops.1.known
  ends_before last carried fault.ReadFault some = record { taken = some.taken; consumed = some.consumed; size = some.size; sound = some.sound; gave = some.gave.wrote }
  ends_before last carried fault.TooMuch some = record { taken = some.taken; consumed = some.consumed; size = some.size; sound = some.sound; gave = some.gave.wrote }
  ends_before last carried (fault.LongLine n) off = record {
    given = off.given;
    taken = off.taken;
    consumed = off.consumed;
    size = off.size;
    in_time = off.in_time;
    known = off.known.wrote;
    comes = off.comes;
  }
  ends_before last carried (fault.BadCsv n) off = absurd (no_record (Carried Went a b) n most old new off)
  ends_before last carried fault.WriteFault stops = absurd stops.1.known
  ends_before last None (fault.BadItem n) stops = absurd stops.1.known.1
  ends_before last (Some why) (fault.BadItem n) stops = stop_ends n why stops
