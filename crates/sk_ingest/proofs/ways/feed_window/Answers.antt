use Rattle.std.proofs.Common.{refl}
use Rattle.sk_feed.proofs.Rounds.{ok_then}
use Rattle.sk_ingest.proofs.ways.feed_window.Goals as goal

pub returns : goal.returns
returns g c = record {
  fed = ok_then c.feed_in_turn.result c.feed_in_turn.ensures.taken (λ taken. record {
    heart = record { goes = c.feed_in_turn.ensures.heart; quiet = λ off. c.feed_in_turn.ensures.quiet (c.of-by.ensures.quiet off) };
    updaters = taken;
    token = refl;
  });
  helped = ok_then c.feed_in_turn.result c.feed_in_turn.ensures.each (λ each. λ off interim. each (c.of-by.ensures.each off interim));
}
