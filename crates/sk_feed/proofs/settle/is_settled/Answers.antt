use Rattle.std.proofs.Common.{⊎_elim}
use Rattle.sk_hub.proofs.Calls.{none_trans, none_renewed, none_handed, none_in_vain}
use Rattle.sk_feed.proofs.settle.is_settled.Goals as goal

pub returns-in-Handed-clause-none : goal.returns-in-Handed-clause-none
returns-in-Handed-clause-none g c =
    let k = g.C.Composable in let u = c.settle.new.self in let u' = c.flush.new.self in
    none_trans c.args.u.now u u' (none_renewed k.hint_of c.args.u.now u (c.settle.ensures.settled c.in-Settled.is))
    (⊎_elim (λ handed. none_handed k.hint_of u u' (c.flush.ensures.handed handed)) (λ busy. none_in_vain u u' (c.flush.ensures.busy busy)) c.in-Handed.is)
