use Rattle.std.proofs.Common.{◌≡◌, true, Ok}
use Rattle.sk_read.specs.Reading.{remaining_of}
use Rattle.sk_desks.specs.Gathers.{TakesHeld}
use Rattle.sk_desks.proofs.gather.take_runs.Given as goal

abbrev pub invariant-run : goal.invariant-run
invariant-run l = record {
  takes : TakesHeld l.initial.window.names l.initial.window.lines l.window.lines l.initial.reader l.reader (Ok true);
  names : l.window.names ≡ l.initial.window.names;
}

abbrev pub decreases-run : goal.decreases-run
decreases-run l = remaining_of l.reader
