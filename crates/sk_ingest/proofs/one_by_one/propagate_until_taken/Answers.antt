use Rattle.std.proofs.Common.{[], ◌∷◌, length, ap, arith}
use Rattle.sk_hub.proofs.Calls.{none_refl, none_trans, none_then_takes}
use Rattle.sk_feed.proofs.HubLaws.{may_wait, may_go}
use Rattle.sk_ingest.proofs.one_by_one.propagate_until_taken.Goals as goal

pub again-init : goal.again-init
again-init g c = record { none = none_refl c.args.u.now; heart = may_wait c.args.plan.now.propagator c.args.heart.now }

pub offer-requires-clause-room : goal.offer-requires-clause-room
offer-requires-clause-room g c = let same = ap length c.again.invariant.none.kept in let room = c.requires.room in omega (arith, same, room)

pub again-preserved : goal.again-preserved
again-preserved g c = record {
  none = none_trans c.args.u.now c.offer.new.u c.propagate.new.u (none_trans c.args.u.now c.again.u c.offer.new.u c.again.invariant.none (c.offer.ensures.none c.in-Busy.is)) c.propagate.ensures.none;
  heart = may_go c.args.plan.now.propagator c.args.heart.now c.again.heart c.propagate.new.heart c.again.invariant.heart (record { goes = c.propagate.ensures.heart; quiet = λ off. c.propagate.ensures.quiet (c.of-by.ensures.quiet off) });
}

pub returns-in_err-propagate-in-Busy-clause-heart : goal.returns-in_err-propagate-in-Busy-clause-heart
returns-in_err-propagate-in-Busy-clause-heart g c = may_go c.args.plan.now.propagator c.args.heart.now c.again.heart c.propagate.new.heart c.again.invariant.heart (record { goes = c.propagate.ensures.heart; quiet = λ off. c.propagate.ensures.quiet (c.of-by.ensures.quiet off) })

pub returns-in_default : goal.returns-in_default
returns-in_default g c = let k = g.C.Composable in record {
  taken = none_then_takes k.keeps_of k.hint_of c.args.u.now c.again.u c.offer.new.u (c.args.item ∷ []) c.again.invariant.none (c.offer.ensures.taken c.in_default.not-Busy);
  heart = c.again.invariant.heart;
}
