use Rattle.std.proofs.Common.{ℕ, ◌+◌, ◌*◌, refl, arith}
use Rattle.sk_desks.proofs.FeedLaws.{HasTaken, none_taken, one_more_taken, more_taken, all_taken}
use Rattle.sk_desks.proofs.feed.feed_even.Goals as goal
use Rattle.sk_desks.proofs.feed.feed_even.Given.{Over}
use Rattle.sk_desks.proofs.feed.feed_even.Goals.{After-feed_alike-arg-1}

pub line-init : goal.line-init
line-init g c = none_taken c.args.seed c.args.desk.now c.args.run.now c.args.count 0 (omega arith) c.requires.tenants (λ t u within. omega (arith, c.requires.room t u within))

-- the line without a guess
given : (g : Over) (c : After-feed_alike-arg-1 g) → HasTaken c.args.seed c.args.desk.now c.give_any-label.new.desk c.args.run.now c.args.count 0 (c.line.fed + 1)
given g c =
    one_more_taken c.args.seed c.args.desk.now c.line.desk c.args.run.now c.args.count 0 c.line.fed c.requires.run c.line.invariant c.args.len (c.line.fed * (c.args.len + 1)) c.line_len-line.result c.give_any-label.new.desk
    c.requires.even c.line-test.true refl c.line_len-line.ensures c.give_any-label.ensures

pub feed_alike-fed-requires-clause-tenants : goal.feed_alike-fed-requires-clause-tenants
feed_alike-fed-requires-clause-tenants g c = (given g c).tenants

pub feed_alike-fed-requires-clause-room : goal.feed_alike-fed-requires-clause-room
feed_alike-fed-requires-clause-room g c = (given g c).room

pub line-preserved : goal.line-preserved
line-preserved g c =
    let seed = c.args.seed in let d = c.args.desk.now in let run = c.args.run.now in let count = c.args.count in let next : ℕ = c.line.fed + 1 in
    let one : HasTaken seed d c.give_any-label.new.desk run count 0 next =
    one_more_taken seed d c.line.desk run count 0 c.line.fed c.requires.run c.line.invariant c.args.len (c.line.fed * (c.args.len + 1)) c.line_len-line.result c.give_any-label.new.desk
    c.requires.even c.line-test.true refl c.line_len-line.ensures c.give_any-label.ensures in
    let place = c.feed_alike-fed.ensures.place in
    more_taken seed d c.give_any-label.new.desk run count 0 next c.requires.run one c.feed_alike-fed.result c.feed_alike-fed.new.desk place.0 place.1 c.feed_alike-fed.ensures.took

pub returns : goal.returns
returns g c = all_taken c.args.seed c.args.desk.now c.line.desk c.args.run.now c.args.count c.line.fed c.requires.run c.line.invariant (omega (arith, c.line-test.false))
