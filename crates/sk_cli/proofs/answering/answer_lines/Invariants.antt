use Rattle.std.proofs.Common.{◌≡◌, ◌≤◌, [], ℕ, List}
use Rattle.std.specs.Io.KnownBytes.{Consumes}
use Rattle.sk_read.specs.Reading.{HasRead, remaining_of}
use Rattle.sk_cli.specs.Outside.{Streams}
use Rattle.sk_cli.proofs.ByAnswers.{CameTo}
use Rattle.sk_cli.proofs.answering.answer_lines.Given as goal

abbrev pub invariant-read : goal.invariant-read
invariant-read g l = let A = g.A.Answerer in record {
  came : (start : Streams) (given : List (List ℕ)) (taken : List ℕ) → HasRead l.fn.reader (g.S.Source.left l.fn.source) given taken → Consumes start.left (g.S.Source.left l.fn.source) taken → start.written ≡ g.O.Sink.written l.fn.out → A.led l.fn.answerer given []
      → CameTo (A.led l.answerer) l.reader start (g.S.Source.left l.source) l.fn.reader.most (g.O.Sink.written l.out) given;
  due : (lines : List (List ℕ)) (text : List ℕ) → A.due l.answerer lines text → A.due l.fn.answerer lines text;
  most : l.reader.most ≡ l.fn.reader.most;
  piece : l.reader.last ≤ g.S.Source.last l.source;
  read_count : g.S.Source.faults l.source ≡ g.S.Source.faults l.fn.source;
  write_count : g.O.Sink.faults l.out ≡ g.O.Sink.faults l.fn.out;
  stays : g.S.Source.stands_on l.source ≡ g.S.Source.stands_on l.fn.source;
}

abbrev pub decreases-read : goal.decreases-read
decreases-read g l = remaining_of l.reader
