-- Where no window is asked for the report stays as it was.
use Rattle.std.proofs.Common.{◌≡◌, inl, inr, ℕ, ◌+◌, Bool, true, false, List, [], ◌∷◌, ◌++◌, length, Option, ◌∙◌}
use Rattle.sk_read.specs.Reads.{Ends}
use Rattle.sk_read.specs.declared.fault.Fault.{Fault}
use Rattle.sk_read.specs.declared.fault.Fault.TheVariants as fault
use Rattle.sk_read.specs.declared.units.Units.{Units}
use Rattle.sk_feed.specs.Hubs.{Hub}
use Rattle.sk_ingest.specs.Ingests.{Terms, Reported, StopsAtReport, GoesSoFar, StopsAtUnit, EndsEarly}
use Rattle.sk_ingest.specs.declared.report.Stop.{Stop}
use Rattle.sk_ingest.proofs.Unreported.{unreported_hub}

not_both : (b : Bool) → b ≡ false → b ≡ true → ⊥
not_both b is_false is_true = cc

module _ {R : Type 0} (t : Terms R) (silent : t.plan.interim ≡ false) (r s : R) where
  still : (before : ℕ) (windows : List (List (List ℕ))) (a : Hub) (q : R) (b : Hub) (p : R) → Reported t before windows a q b p → p ≡ q
  unfolding Reported
  still before [] a q b p done = done.1
  still before (lines ∷ more) a q b p (x, y, o, fed, told, later) =
      let same = unreported_hub t (before + length lines) x q y o silent told in
      still (before + length lines) more y o b p later ∙ same.1

  so_far : (a : Hub) (units : List (List ℕ)) → GoesSoFar t a r s units → s ≡ r
  so_far a units (rest, b, goes) = still 0 goes.windows a r b s goes.reported

  unreported : (how : Stop) (units : List (List ℕ)) (a : Hub) → StopsAtReport t how units a r s → s ≡ r
  unreported how units a stops = absurd (not_both t.plan.interim silent stops.interim)

  at_unit : (a : Hub) (f : Fault) (units : List (List ℕ)) (unit : List ℕ) → StopsAtUnit t a r s f units unit → s ≡ r
  at_unit a (fault.BadItem n) units unit stops = so_far a units stops.0
  at_unit a fault.WriteFault units unit stops = unreported _ (units ++ unit ∷ []) a stops
  at_unit a fault.OutOfMemory units unit (inl goes) = so_far a units goes
  at_unit a fault.OutOfMemory units unit (inr stops) = unreported _ (units ++ unit ∷ []) a stops
  at_unit a fault.ReadFault units unit stops = absurd stops
  at_unit a fault.TooMuch units unit stops = absurd stops
  at_unit a (fault.LongLine n) units unit stops = absurd stops
  at_unit a (fault.BadCsv n) units unit stops = absurd stops

  ended : (last : ℕ) (units : Units) (left left' : Option (List ℕ)) (a : Hub) (f : Fault) → Ends last units t.plan.most (GoesSoFar t a r s) (StopsAtUnit t a r s) left left' f → s ≡ r
  ended last units left left' a fault.OutOfMemory (inl off) = so_far a off.given off.known
  ended last units left left' a fault.OutOfMemory (inr stop) = at_unit a fault.OutOfMemory stop.1.given stop.0 stop.1.known
  ended last units left left' a fault.ReadFault some = so_far a _ some.gave
  ended last units left left' a fault.TooMuch some = so_far a _ some.gave
  ended last units left left' a (fault.LongLine n) off = so_far a off.given off.known
  ended last units left left' a (fault.BadCsv n) off = so_far a off.given off.known
  ended last units left left' a (fault.BadItem n) stop = at_unit a (fault.BadItem n) stop.1.given stop.0 stop.1.known.1
  ended last units left left' a fault.WriteFault stop = at_unit a fault.WriteFault stop.1.given stop.0 stop.1.known

  pub quiet_early : (last : ℕ) (units : Units) (left left' : Option (List ℕ)) (a : Hub) (f : Fault) → EndsEarly t last units left left' a r s f → s ≡ r
  quiet_early last units left left' a f (inl ends) = ended last units left left' a f ends
  quiet_early last units left left' a f (inr (is, (n, reads))) = so_far a _ reads.gave
