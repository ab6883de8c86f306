use Rattle.std.proofs.Common.{◌≡◌, ℕ, ◌+◌, ◌++◌, length, vec_capacity}
use Rattle.atomic_table.specs.Seated.{TableId}
use Rattle.sk_serve.specs.declared.plan.ServePlan.{ServePlan}
use Rattle.sk_serve.specs.Doors.{door_of}
use Rattle.sk_serve.specs.Waves.{visit_of, texts_by, WereRun, ClosesLinks}
use Rattle.sk_serve.proofs.waves.close_links.Given as goal

abbrev pub invariant-job : goal.invariant-job
invariant-job g l = let door = door_of g.D.Door in let visit = visit_of g.D.Link.Link in record {
  all : l.yielded ++ l.job-iterator.rest.items ≡ l.fn.jobs.items;
  closes : (plan : ServePlan) (most : ℕ) (table : TableId) (from : ℕ) → WereRun plan most table from visit l.fn.jobs.items
      → ClosesLinks plan most table from (length l.yielded) (texts_by visit l.yielded) (door l.fn.door) (door l.door) l.fn.ends.items l.ends.items l.updaters.items;
  room : g.D.Door.room l.door + length l.yielded ≡ g.D.Door.room l.fn.door;
  ends : length l.ends.items ≡ length l.fn.ends.items + length l.yielded;
  updaters : length l.updaters.items ≡ length l.yielded;
  reserved : vec_capacity l.ends ≡ vec_capacity l.fn.ends;
  place : vec_capacity l.updaters ≡ vec_capacity l.fn.updaters;
}
