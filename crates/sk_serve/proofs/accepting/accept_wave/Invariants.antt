use Rattle.std.proofs.Common.{◌≡◌, ◌+◌, ◌≤◌, length, vec_capacity}
use Rattle.sk_serve.specs.Doors.{door_of, LetsIn}
use Rattle.sk_serve.specs.Waves.{visit_of, texts_by, AreReady}
use Rattle.sk_serve.proofs.accepting.accept_wave.Given as goal

abbrev pub invariant-link : goal.invariant-link
invariant-link g l = let door = door_of g.D.Door in let visit = visit_of g.D.Link.Link in record {
  count : length l.jobs.items ≡ l.counter;
  place : l.fn.count ≤ vec_capacity l.jobs;
  ready : AreReady l.plan l.fn.heart.table l.fn.heart.admitted visit l.jobs.items;
  heart : l.heart ≡ record l.fn.heart { admitted = l.fn.heart.admitted + l.counter };
  accepts : LetsIn (texts_by visit l.jobs.items) (door l.fn.door) (door l.door);
  faults : g.D.Door.faults l.door ≡ g.D.Door.faults l.fn.door;
}
