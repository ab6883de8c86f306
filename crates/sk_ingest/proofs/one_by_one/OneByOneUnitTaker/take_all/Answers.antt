use Rattle.std.proofs.lemmas.Result.{IfErr-weaker}
use Rattle.sk_feed.specs.Hubs.{hub_of}
use Rattle.sk_feed.proofs.Rounds.{ok_then}
use Rattle.sk_ingest.proofs.one_by_one.OneByOneUnitTaker.take_all.Goals as goal

pub returns-clause-went : goal.returns-clause-went
returns-clause-went g c = ok_then c.take_lines.result c.take_lines.ensures.went (λ went. λ start units count before. (before.0, c.take_lines.ensures.alone, went (hub_of start.opened.now) units count before.2))

pub returns-clause-stopped : goal.returns-clause-stopped
returns-clause-stopped g c = IfErr-weaker c.take_lines.result _ _
    (λ why stops. λ start units count before. let among = stops (hub_of start.opened.now) units count before.2 in
    record { front = among.front; unit = among.unit; begins = among.begins; stopped = (before.0, among.stopped); fault = among.fault })
    c.take_lines.ensures.stopped
