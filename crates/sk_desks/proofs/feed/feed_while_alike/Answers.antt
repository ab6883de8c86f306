use Rattle.std.proofs.Common.{refl, sym, arith}
use Rattle.sk_desks.proofs.FeedLaws.{none_taken, one_more_taken, is_among, lies_inside}
use Rattle.sk_desks.proofs.feed.feed_while_alike.Goals as goal

pub line-init : goal.line-init
line-init g c = record {
  taken = none_taken c.args.seed c.args.desk.now c.args.run.now c.args.count c.args.from c.requires.place.1 c.requires.tenants c.requires.room;
  place = refl;
}

pub tenant_alike-requires-clause-room : goal.tenant_alike-requires-clause-room
tenant_alike-requires-clause-room g c = (c.end_of_reach-end.ensures.room c.line.at c.line-test.true).0

pub tenant_alike-requires-clause-within : goal.tenant_alike-requires-clause-within
tenant_alike-requires-clause-within g c =
    lies_inside c.args.run.now c.args.count c.args.lengths.len c.line.fed c.line.at c.requires.run c.requires.even c.line.invariant.place (omega (arith, (c.end_of_reach-end.ensures.room c.line.at c.line-test.true).0))

pub line-preserved : goal.line-preserved
line-preserved g c =
    let run = c.args.run.now in let count = c.args.count in let len = c.args.lengths.len in let fed = c.line.fed in let place = c.line.invariant.place in
    let among = is_among run count len fed c.line.at c.requires.run c.requires.even place (omega (arith, (c.end_of_reach-end.ensures.room c.line.at c.line-test.true).0)) in
    record {
      taken = one_more_taken c.args.seed c.args.desk.now c.line.desk run count c.args.from fed c.requires.run c.line.invariant.taken len c.line.at c.args.lengths.line c.give_known.new.desk c.requires.even among place
          (sym c.in-Some.ensures.line) c.give_known.ensures;
      place = omega (arith, place);
    }
