use Rattle.std.proofs.Common.{◌≡◌, ◌≤◌, ◌+◌, ℕ, List, length}
use Rattle.sk_compose.specs.Numbers.{k_of}
use Rattle.sk_hub.specs.Updaters.{kept_of}
use Rattle.sk_model.specs.Limits.{most_kept}
use Rattle.sk_read.specs.Reading.{remaining_of}
use Rattle.sk_line.specs.Courses.{IsUnderWay}
use Rattle.sk_line.specs.Serving.{Answered}
use Rattle.sk_line.specs.Sessions.{session_state}
use Rattle.sk_line.proofs.sessions.serve_each.Given as goal

abbrev pub invariant-request : goal.invariant-request
invariant-request g l = record {
  answered : List Answered;
  taken : List ℕ;
  stands : IsUnderWay l.shape (session_state (g.L.Link.traffic l.initial.link) l.initial.u (g.P.Pump.pumps l.initial.pump)) answered taken l.reader (session_state (g.L.Link.traffic l.link) l.u (g.P.Pump.pumps l.pump));
  k : k_of l.u.view.numbers ≡ l.shape.k;
  room : length (kept_of l.u) + remaining_of l.reader ≤ most_kept;
  most : l.reader.most ≡ l.initial.reader.most;
  steady : g.L.Link.faults l.link ≡ g.L.Link.faults l.initial.link;
  stays : g.P.Pump.stands_on l.pump ≡ g.P.Pump.stands_on l.initial.pump;
}

abbrev pub decreases-request : goal.decreases-request
decreases-request g l = remaining_of l.reader
