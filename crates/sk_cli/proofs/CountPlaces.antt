-- The board behind a count, however it ended.
use Rattle.std.proofs.Common.{◌≡◌, inl, inr, ℕ, List, Result, Ok, Err}
use Rattle.sk_read.specs.declared.fault.Fault.{Fault}
use Rattle.sk_read.specs.declared.fault.Fault.TheVariants as fault
use Rattle.sk_count.specs.declared.plan.Plan.{Plan}
use Rattle.sk_report.specs.declared.remains.Remains.{Remains}
use Rattle.sk_count.specs.Counts.{Setting, TellsSoFar, EndsBefore, EndsBehind, Counts}
use Rattle.sk_count.specs.Moments.{Moment}
use Rattle.sk_count.specs.Texts.{places_after, armed_by}

module _ (plan : Plan) (most : ℕ) (old new : Setting) where
  -- it is as the last moment left it
  so_far : (units : List (List ℕ)) → TellsSoFar plan old new units → (moments : List Moment) × (new.places ≡ places_after plan.k (armed_by plan old.places) moments)
  so_far units told = (told.course.moments, told.places)

  before : (last : ℕ) (f : Fault) → EndsBefore plan last most old new f → (moments : List Moment) × (new.places ≡ places_after plan.k (armed_by plan old.places) moments)
  before last fault.OutOfMemory (inl off) = so_far off.given off.known
  before last fault.OutOfMemory (inr stop) = so_far stop.1.given stop.1.known
  before last fault.ReadFault some = so_far _ some.gave
  before last fault.TooMuch some = so_far _ some.gave
  before last fault.WriteFault stop = (stop.1.known.course.moments, stop.1.known.places)
  before last (fault.LongLine n) off = so_far off.given off.known
  before last (fault.BadCsv n) off = so_far off.given off.known
  before last (fault.BadItem n) stop = so_far stop.1.given stop.1.known.1.0

  behind : (f : Fault) → EndsBehind plan most old new f → (moments : List Moment) × (new.places ≡ places_after plan.k (armed_by plan old.places) moments)
  behind fault.WriteFault (n, all) = (all.gave.course.moments, all.gave.places)
  behind fault.OutOfMemory (n, all) = (all.gave.course.moments, all.gave.places)
  behind f ends = absurd ends

  pub places_left : (last : ℕ) (r : Result Remains Fault) → Counts plan last most old new r → (moments : List Moment) × (new.places ≡ places_after plan.k (armed_by plan old.places) moments)
  places_left last (Ok left) (n, all) = (all.gave.exactly.moments, all.gave.exactly.alarms)
  places_left last (Err f) (inl ends) = before _ f ends
  places_left last (Err f) (inr ends) = behind f ends
