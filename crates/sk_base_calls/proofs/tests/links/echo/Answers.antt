use Rattle.std.proofs.Common.{[], take}
use Rattle.sk_io.proofs.Links.{exchanges_none, exchanges_then, sent_front}
use Rattle.sk_base_calls.proofs.tests.links.echo.Goals as goal

pub returns-in_err-n-clause-prefix : goal.returns-in_err-n-clause-prefix
returns-in_err-n-clause-prefix g c = ([], 0, rw c.in_err-n.ensures.bytes (exchanges_none _))

pub returns-clause-prefix : goal.returns-clause-prefix
returns-clause-prefix g c =
    let prefix = sent_front _ _ _ c.send_all.result c.send_all.ensures.ok c.send_all.ensures.err in
    (take c.in_ok-n.n c.piece_on.new.piece, prefix.0, exchanges_then _ _ _ _ _ c.in_ok-n.ensures.bytes prefix.1)
