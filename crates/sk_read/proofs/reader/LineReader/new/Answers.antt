use Rattle.std.proofs.Common.{refl, arith, ap}
use Rattle.std.proofs.lemmas.Bool.{false≢true}
use Rattle.sk_lines.specs.Cutter.{is_long}
use Rattle.sk_read.proofs.Readings.{nothing_read}
use Rattle.sk_read.proofs.reader.LineReader.new.Goals as goal

pub returns-clause-read : goal.returns-clause-read
returns-clause-read c = λ left. record {
  has = record {
    follows = λ not_ended. c.in_ok-new.ensures.follows;
    whole = λ ended. absurd (false≢true ended);
    within = λ k d below. absurd (omega arith);
    going = ap is_long c.in_ok-new.ensures.last;
    number = c.in_ok-new.ensures.follows.count;
    size = λ ended. absurd (false≢true ended);
    count = refl;
  };
  end = λ ended. absurd (false≢true ended);
  limit = c.in_ok-new.ensures.limit;
  bound = omega arith;
  few = c.requires;
  in_time = nothing_read 0;
}
