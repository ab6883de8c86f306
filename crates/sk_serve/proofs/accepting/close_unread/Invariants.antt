use Rattle.std.proofs.Common.{◌≡◌, ◌++◌}
use Rattle.sk_serve.specs.Doors.{door_of}
use Rattle.sk_serve.specs.Waves.{visit_of, texts_by, ClosesUnread}
use Rattle.sk_serve.proofs.accepting.close_unread.Given as goal

abbrev pub invariant-job : goal.invariant-job
invariant-job g l = let door = door_of g.D.Door in record {
  all : l.yielded ++ l.job-iterator.rest.items ≡ l.fn.jobs.items;
  closes : ClosesUnread (texts_by (visit_of g.D.Link.Link) l.yielded) (door l.fn.door) (door l.door);
}
