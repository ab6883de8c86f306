use Rattle.std.proofs.Common.{refl}
use Rattle.sk_feed.proofs.Rounds.{ok_then}
use Rattle.sk_ingest.proofs.ways.feed_in_threads.Goals as goal

pub returns-clause-fed : goal.returns-clause-fed
returns-clause-fed g c = ok_then c.feed_window-2.result c.feed_window-2.ensures.taken (λ taken. record {
  heart = record { goes = c.feed_window-2.ensures.heart; quiet = λ off. c.feed_window-2.ensures.quiet (c.of-by.ensures.quiet off) };
  updaters = taken;
  token = refl;
})
