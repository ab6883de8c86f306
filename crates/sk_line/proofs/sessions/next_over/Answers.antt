use Rattle.std.proofs.Common.{ap}
use Rattle.sk_io.specs.Base.{Base}
use Rattle.sk_io.proofs.Links.{received}
use Rattle.sk_line.proofs.sessions.next_over.Goals as goal

pub returns-clause-comes : goal.returns-clause-comes
returns-clause-comes g c = record {
  goes = λ given taken read.
      let next = c.next.ensures.goes given taken read in
      (next.0, received (g.L.Link.traffic c.args.source.now.link.now) (g.L.Link.traffic c.next.new.source.link.now) next.0 next.1 (ap (λ (b : Base). b.sides) c.next.ensures.stays), next.2);
}
