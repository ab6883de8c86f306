use Rattle.std.proofs.Common.{◌≡◌, ◌≤◌, length, take, vec_capacity}
use Rattle.sk_core.specs.Stored.{machine_of}
use Rattle.sk_core.specs.Runs.{IsRun}
use Rattle.uses.proofs.schedule.replay.Given as goal

abbrev pub invariant-event : goal.invariant-event
invariant-event l = record {
  count : length l.answers.items ≡ l.event-index;
  room : length l.events ≤ vec_capacity l.answers;
  sketch : l.state.k ≡ l.initial.state.k;
  run : IsRun l.initial.state.k (take l.event-index l.events) l.answers.items (machine_of l.initial.state) (machine_of l.state);
}
