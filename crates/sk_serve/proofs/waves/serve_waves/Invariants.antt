use Rattle.std.proofs.Common.{◌≡◌, ℕ, ◌*◌, ◌-◌, ◌≤◌, min, List, length, vec_capacity}
use Rattle.sk_serve.specs.Doors.{door_of}
use Rattle.sk_serve.specs.Served.{Served}
use Rattle.sk_serve.specs.Waves.{ServesSome}
use Rattle.sk_serve.proofs.waves.serve_waves.Given as goal

abbrev pub invariant-wave : goal.invariant-wave
invariant-wave g l = let door = door_of g.D.Door in record {
  within : length l.ends.items ≤ l.plan.sessions;
  sessions : List Served;
  as_many : length sessions ≡ length l.ends.items;
  waves : ℕ;
  in_waves : length sessions ≡ min (waves * l.plan.wave) l.plan.sessions;
  some : ServesSome l.plan l.most l.fn.heart l.heart (door l.fn.door) (door l.door) l.ends.items sessions;
  reserved : l.plan.sessions ≤ vec_capacity l.ends;
  faults : g.D.Door.faults l.door ≡ g.D.Door.faults l.fn.door;
}

abbrev pub decreases-wave : goal.decreases-wave
decreases-wave g l = l.plan.sessions - length l.ends.items
