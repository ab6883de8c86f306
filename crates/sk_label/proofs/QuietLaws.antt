-- Commands that write nothing at a line, and readings of which something else is so.
use Rattle.std.proofs.Common.{◌≡◌, ◌≢◌, ℕ, ◌+◌, ◌≤◌, List, [], ◌∷◌, ◌++◌, length, Option, Result, Ok, Err, IsErrAnd, inl, refl, sym, ap, ◌∙◌, subst, arith}
use Rattle.std.proofs.lemmas.List.Elements.{All-nil}
use Rattle.std.specs.Io.KnownBytes.{Appends}
use Rattle.std.proofs.KnownBytes.{Appends-nil, Consumes-nil}
use Rattle.sk_model.specs.Causes.{AppendsPart}
use Rattle.sk_model.specs.Limits.{line_limit}
use Rattle.sk_model.proofs.Missing.{begins_nil}
use Rattle.sk_model.specs.Lines.{lines_of}
use Rattle.sk_read.specs.Units.{IsSoundUpTo, IsLongBehind}
use Rattle.sk_read.specs.declared.units.Units.TheVariants.{Lines}
use Rattle.sk_read.proofs.Readings.{nothing_read}
use Rattle.sk_label.specs.declared.fault.LabelFault.{LabelFault}
use Rattle.sk_label.specs.declared.fault.LabelFault.TheVariants.{OutOfMemory, ReadFault, WriteFault, LongLine, TooMuch, BadLine, Refused}
use Rattle.sk_label.specs.Rules.{Rules, IsBad, IsRefused, AreFine, due_from, due_so_far}
use Rattle.sk_label.specs.Goes.{Setting, setting, WroteSoFar, WroteAll, WrotePartLast, ReadsLines, EndsBefore, EndsAt, Goes}
use Rattle.sk_label.proofs.RuleLaws.{wrote_nothing, wrote_last, wrote_part_last}
use Rattle.sk_label.proofs.CarryLaws.{stops_so, breaks_so}

-- ---- any command

-- what is so of the lines that were given may be said in another way
pub reads_so : (Gave Gave' : List (List ℕ) → Type 0) (most : ℕ) (old new : Option (List ℕ)) → ((lines : List (List ℕ)) → Gave lines → Gave' lines) → ReadsLines most Gave old new → ReadsLines most Gave' old new
reads_so Gave Gave' most old new so (n, all) = (n, record { taken = all.taken; consumed = all.consumed; end = all.end; size = all.size; sound = all.sound; number = all.number; gave = so _ all.gave })

-- the fault of the whole
pub goes_by : {T : Type 0} (last : ℕ) (rules : Rules) (most : ℕ) (old new : Setting) (r : Result T LabelFault) (f : LabelFault) → IsErrAnd r (λ x. x ≡ f) → EndsAt rules last most old new f → Goes rules last most old new r
goes_by {T} last rules most old new (Ok x) f is ends = absurd is
goes_by {T} last rules most old new (Err e) f is ends = subst (λ (x : LabelFault). EndsAt rules last most old new x) (sym is) ends

-- memory ran out before anything was read
pub ends_at_start : (last : ℕ) (rules : Rules) (most : ℕ) (left written : Option (List ℕ)) → EndsBefore rules last most (setting left written) (setting left written) OutOfMemory
ends_at_start last rules most left written = record {
  given = [];
  taken = [];
  consumed = Consumes-nil left;
  size = omega arith;
  in_time = nothing_read last;
  known = wrote_nothing rules written;
  comes = inl (λ later. (begins_nil (lines_of later), All-nil (λ (l : List ℕ). length l ≤ line_limit)));
}

-- ---- one that writes nothing at a line

module _ (rules : Rules) (never : (before : List (List ℕ)) (line : List ℕ) → rules.due_at before line ≡ []) where
  nothing_from : (before lines : List (List ℕ)) → due_from rules before lines ≡ []
  nothing_from before [] = refl
  nothing_from before (line ∷ lines) = ap (λ (l : List ℕ). l ++ due_from rules (before ++ line ∷ []) lines) (never before line) ∙ nothing_from (before ++ line ∷ []) lines

  pub nothing_due : (lines : List (List ℕ)) → due_so_far rules lines ≡ []
  nothing_due lines = nothing_from [] lines

  -- its sink is as it was
  pub wrote_none : (w : Option (List ℕ)) (lines : List (List ℕ)) → AreFine rules lines → WroteSoFar rules w w lines
  wrote_none w lines fine = record { fine = fine; written = subst (Appends w w) (sym (nothing_due lines)) (Appends-nil w) }

  -- all is written once the lines have ended
  pub wrote_whole : (w w' : Option (List ℕ)) (lines : List (List ℕ)) → AreFine rules lines → Appends w w' (rules.due_last lines) → WroteAll rules w w' lines
  wrote_whole w w' lines fine last = wrote_last rules w w w' lines (wrote_none w lines fine) last

  pub wrote_part_whole : (w w' : Option (List ℕ)) (lines : List (List ℕ)) → AreFine rules lines → AppendsPart w w' (rules.due_last lines) → WrotePartLast rules w w' lines
  wrote_part_whole w w' lines fine part = wrote_part_last rules w w w' lines (wrote_none w lines fine) part

  -- it ended before its source, whatever its sink was written before
  pub ends_quietly : (last : ℕ) (most : ℕ) (old new v w : Option (List ℕ)) (f : LabelFault) → f ≢ WriteFault → EndsBefore rules last most (setting old v) (setting new v) f → EndsBefore rules last most (setting old w) (setting new w) f
  ends_quietly last most old new v w OutOfMemory quiet off =
      breaks_so (WroteSoFar rules v v) (WroteSoFar rules w w) (λ lines text. IsSoundUpTo Lines (length lines) text) (λ lines text. IsSoundUpTo Lines (length lines) text) most old new
      (λ lines wrote. wrote_none w lines wrote.fine) (λ lines text comes. comes) off
  ends_quietly last most old new v w ReadFault quiet some = record { taken = some.taken; consumed = some.consumed; size = some.size; sound = some.sound; gave = wrote_none w _ some.gave.fine }
  ends_quietly last most old new v w TooMuch quiet some = record { taken = some.taken; consumed = some.consumed; size = some.size; sound = some.sound; gave = wrote_none w _ some.gave.fine }
  ends_quietly last most old new v w (LongLine n) quiet off =
      breaks_so (WroteSoFar rules v v) (WroteSoFar rules w w) (λ lines text. (n ≡ length lines + 1) × IsLongBehind Lines (length lines) text) (λ lines text. (n ≡ length lines + 1) × IsLongBehind Lines (length lines) text) most old new
      (λ lines wrote. wrote_none w lines wrote.fine) (λ lines text comes. comes) off
  ends_quietly last most old new v w (BadLine n) quiet stops =
      stops_so (λ lines line. (n ≡ length lines + 1) × WroteSoFar rules v v lines × IsBad rules line) (λ lines line. (n ≡ length lines + 1) × WroteSoFar rules w w lines × IsBad rules line) most old new
      (λ lines line at. (at.0, wrote_none w lines at.1.fine, at.2)) stops
  ends_quietly last most old new v w (Refused n) quiet stops =
      stops_so (λ lines line. (n ≡ length lines + 1) × WroteSoFar rules v v lines × IsRefused rules lines line) (λ lines line. (n ≡ length lines + 1) × WroteSoFar rules w w lines × IsRefused rules lines line) most old new
      (λ lines line at. (at.0, wrote_none w lines at.1.fine, at.2)) stops
  ends_quietly last most old new v w WriteFault quiet stops = absurd (quiet refl)
