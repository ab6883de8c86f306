use Rattle.std.proofs.Common.{subst, arith}
use Rattle.sk_read.specs.Reading.{Reading, IsLongNext}
use Rattle.sk_read.specs.Inside.{reading_of}
use Rattle.sk_read.proofs.Readings.{long_cut}
use Rattle.sk_read.proofs.reader.LineReader.cut.Goals as goal

pub returns-clause-long : goal.returns-clause-long
returns-clause-long c = λ n is.
    subst (λ (r : Reading). IsLongNext r n) c.self.view_is
    (long_cut (reading_of c.self.inside) c.next.result n c.self.invariant.ended (omega (arith, c.self.invariant.bound, c.self.invariant.few)) c.next.ensures.after_end c.next.ensures.long is)
