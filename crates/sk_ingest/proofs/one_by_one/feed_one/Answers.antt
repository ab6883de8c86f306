use Rattle.std.proofs.Common.{[], ◌∷◌, length, ap, arith}
use Rattle.std.proofs.lemmas.Result.{on_ok_weaker}
use Rattle.sk_hub.proofs.Calls.{none_then_takes}
use Rattle.sk_ingest.proofs.one_by_one.feed_one.Goals as goal

pub propagate_until_taken-requires-clause-room : goal.propagate_until_taken-requires-clause-room
propagate_until_taken-requires-clause-room g c = let same = ap length (c.offer.ensures.none c.in-Busy.is).kept in omega (arith, same, c.requires.room)

pub returns-in-Busy-clause-taken : goal.returns-in-Busy-clause-taken
returns-in-Busy-clause-taken g c = let k = g.C.Composable in
    on_ok_weaker c.propagate_until_taken.result (none_then_takes k.keeps_of k.hint_of c.args.u.now c.offer.new.u c.propagate_until_taken.new.u (c.args.item ∷ []) (c.offer.ensures.none c.in-Busy.is)) c.propagate_until_taken.ensures.taken
