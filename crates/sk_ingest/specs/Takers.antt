-- What is known of a hub, a window and a report while a source's units are fed.
use Rattle.std.specs.Prelude.{◌≡◌, ◌≢◌, ◌⊎◌, ℕ, ◌≤◌, Bool, true, false, List, [], length, Option, Result, IfSome, OnOk, IfErr}
use Rattle.sk_model.specs.Causes.{Rose, HasCauseIn}
use Rattle.sk_model.specs.Entries.{Entry}
use Rattle.sk_model.specs.Limits.{most_kept}
use Rattle.sk_read.specs.declared.fault.Fault.{Fault}
use Rattle.sk_read.specs.declared.fault.Fault.TheVariants as fault
use Rattle.sk_read.specs.declared.items.Intake.{Intake}
use Rattle.sk_ingest.specs.declared.report.Stop.{Stop}
use Rattle.sk_ingest.specs.declared.report.Stop.TheVariants as stop
use Rattle.sk_fill.specs.Windows.{WindowState}
use Rattle.sk_feed.specs.Rounds.{HaveFew}
use Rattle.sk_feed.specs.Hubs.{Hub, IsHub}
use Rattle.sk_ingest.specs.Ingests.{Terms, terms_of, Feeds, IsReady, IsReported, GoesThrough, Ingests}

-- the window is the plan's, and the report is of the hub's sketch
pub record IsSetUp (plan : Intake) (window : WindowState) (hub : Hub) (sketch : Option (List ℕ)) : Type 0 where
  pub least : 1 ≤ plan.window
  pub most : window.most ≡ plan.window
  pub named : IfSome sketch (λ name. hub.heart.view.name ≡ name)

-- the windows that units fill were fed and reported, and the rest lies in the window
pub record WindowsWent {R : Type 0} (t : Terms R) (units : List (List ℕ)) (a : Hub) (r : R) (rest : List (List ℕ)) (b : Hub) (s : R) : Type 0 where
  pub goes : GoesThrough t units a r rest b s
  pub hub : IsHub b
  pub small : length units ≤ most_kept
  pub few : HaveFew (length units) rest b.updaters

-- all units were fed
pub record UnitsWent {R : Type 0} (t : Terms R) (units : List (List ℕ)) (a : Hub) (r : R) (b : Hub) (s : R) : Type 0 where
  pub ingests : Ingests t units a r b s
  pub few : HaveFew (length units) [] b.updaters

-- ---- the report

-- the same report after a call with this result: it failed if that says so
pub record ReportGoesOn {R T E : Type 0} (faults : R → ℕ) (stands_on : R → List ℕ) (sketch : R → Option (List ℕ)) (failed : E) (r s : R) (result : Result T E) : Type 0 where
  pub cause : HasCauseIn failed (faults r) (faults s) result
  pub stands : stands_on s ≡ stands_on r
  pub named : sketch s ≡ sketch r

-- no call of it failed, and what no call changes
pub record SameReport {R : Type 0} (faults : R → ℕ) (stands_on : R → List ℕ) (sketch : R → Option (List ℕ)) (r s : R) : Type 0 where
  pub steady : faults s ≡ faults r
  pub stands : stands_on s ≡ stands_on r
  pub named : sketch s ≡ sketch r

-- a call failed if the fault says so
pub record ReportStops {R : Type 0} (faults : R → ℕ) (stands_on : R → List ℕ) (sketch : R → Option (List ℕ)) (r s : R) (why : Fault) : Type 0 where
  pub steady : why ≢ fault.WriteFault → faults s ≡ faults r
  pub failed : why ≡ fault.WriteFault → Rose (faults r) (faults s)
  pub stands : stands_on s ≡ stands_on r
  pub named : sketch s ≡ sketch r

-- a window was fed, and its report stopped
abbrev pub StopsTelling : {R : Type 0} → Terms R → Stop → List (List ℕ) → ℕ → Hub → R → R → Type 0
StopsTelling t how lines line a r s = (x : Hub) × (y : Hub) × Feeds t lines a x × IsReady t.plan x × (t.plan.interim ≡ true) × t.breaks r how line x y s

-- why a full window was not passed on: memory ran out, or its report stopped
abbrev pub StopsPassing : {R : Type 0} → Terms R → List (List ℕ) → ℕ → Hub → R → R → Fault → Type 0
StopsPassing t lines line a r s fault.OutOfMemory = (s ≡ r) ⊎ StopsTelling t stop.OutOfMemory lines line a r s
StopsPassing t lines line a r s fault.WriteFault = StopsTelling t stop.Failed lines line a r s
StopsPassing t lines line a r s fault.ReadFault = ⊥
StopsPassing t lines line a r s fault.TooMuch = ⊥
StopsPassing t lines line a r s (fault.LongLine n) = ⊥
StopsPassing t lines line a r s (fault.BadItem n) = ⊥
StopsPassing t lines line a r s (fault.BadCsv n) = ⊥

-- a full window was fed and reported, or it says why not
pub record PassesOn {R T : Type 0} (t : Terms R) (lines : List (List ℕ)) (line : ℕ) (a : Hub) (r : R) (b : Hub) (s : R) (result : Result T Fault) : Type 0 where
  pub passed : OnOk result ((x : Hub) × Feeds t lines a x × IsReported t line x r b s)
  pub stopped : IfErr result (StopsPassing t lines line a r s)

-- ---- one updater that takes units at once

-- the hub has one updater, which takes units of windows that are not reported
pub record IsAlone (plan : Intake) (hub : Hub) : Type 0 where
  pub least : 1 ≤ plan.window
  pub unreported : plan.interim ≡ false
  pub one : length hub.updaters ≡ 1

-- the terms of a run that is not reported
abbrev pub unreported : (ℕ → ℕ → Bool) → (List ℕ → List Entry → ℕ) → Intake → Terms (Unit {0})
unreported keeps hint_of plan = terms_of keeps hint_of (λ r line a b s. ⊥) (λ r how line a b s. ⊥) plan
