-- What is around a server.
use Rattle.std.specs.Prelude.{ℕ, List, Option}
use Rattle.sk_io.specs.Traffic.{Doorway}
use Rattle.sk_watch.specs.Places.{Place}
use Rattle.sk_report.specs.Texts.{armed_with}
use Rattle.sk_serve.specs.declared.plan.ServePlan.{ServePlan}

-- what its sink was written, if that is known, the places of its board, and what its door shows
pub record Surroundings : Type 0 where
  pub written : Option (List ℕ)
  pub places : List Place
  pub door : Doorway

abbrev pub surroundings : Option (List ℕ) → List Place → Doorway → Surroundings
surroundings written places door = record { written = written; places = places; door = door }

-- the places as they are armed at the start
abbrev pub armed_for : ServePlan → List Place → List Place
armed_for plan places = armed_with plan.k plan.alarms places
