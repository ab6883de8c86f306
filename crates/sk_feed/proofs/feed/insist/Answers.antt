use Rattle.std.proofs.Common.{[], ◌∷◌, inl, inr, suc}
use Rattle.sk_hub.proofs.Calls.{none_trans, none_then_takes, takes_then_none, on_ok, on_err, not_busy}
use Rattle.sk_feed.specs.Calls.{filter_of}
use Rattle.sk_feed.proofs.Calls.{insists_later, filtered_now, accepted_now}
use Rattle.sk_feed.proofs.Rounds.{ok_then}
use Rattle.sk_feed.proofs.feed.insist.Goals as goal

pub again-preserved : goal.again-preserved
again-preserved g c =
    let k = g.C.Composable in let f = filter_of k.keeps_of k.early_of k.hint_of in
    let served = c.in_ok-help_until_served-in-Busy.ensures.served in record {
      leads = λ u' times insists. c.again.invariant.leads u' (suc times) (insists_later f c.again.u c.offer.new.u c.help_until_served.new.u u' c.args.item times served.0 (c.offer.ensures.busy c.in-Busy.is) served.1 insists);
      none = none_trans c.args.u.now c.offer.new.u c.help_until_served.new.u (none_trans c.args.u.now c.again.u c.offer.new.u c.again.invariant.none (c.offer.ensures.none c.in-Busy.is)) c.help_until_served.ensures.none;
    }

pub returns-in_err-help_until_served-in-Busy-clause-refused : goal.returns-in_err-help_until_served-in-Busy-clause-refused
returns-in_err-help_until_served-in-Busy-clause-refused g c =
    on_err c.from_residual.result
    (inl (none_trans c.args.u.now c.offer.new.u c.help_until_served.new.u (none_trans c.args.u.now c.again.u c.offer.new.u c.again.invariant.none (c.offer.ensures.none c.in-Busy.is)) c.help_until_served.ensures.none))

pub returns-in-Filtered-clause-taken : goal.returns-in-Filtered-clause-taken
returns-in-Filtered-clause-taken g c =
    let k = g.C.Composable in
    none_then_takes k.keeps_of k.hint_of c.args.u.now c.again.u c.offer.new.u (c.args.item ∷ []) c.again.invariant.none (c.in-Filtered.ensures.taken (λ e. cc))

pub returns-in-Kept-clause-taken : goal.returns-in-Kept-clause-taken
returns-in-Kept-clause-taken g c =
    let k = g.C.Composable in let items = c.args.item ∷ [] in
    let taken = c.offer.ensures.taken (not_busy c.offer.result c.in-Kept.is) in
    on_ok c.help_if_eager.result
    (takes_then_none k.keeps_of k.hint_of c.args.u.now c.offer.new.u c.help_if_eager.new.u items (none_then_takes k.keeps_of k.hint_of c.args.u.now c.again.u c.offer.new.u items c.again.invariant.none taken) c.help_if_eager.ensures.none)

pub returns-in-Kept-clause-refused : goal.returns-in-Kept-clause-refused
returns-in-Kept-clause-refused g c =
    let k = g.C.Composable in let items = c.args.item ∷ [] in
    let taken = c.offer.ensures.taken (not_busy c.offer.result c.in-Kept.is) in
    on_err c.help_if_eager.result
    (inr (takes_then_none k.keeps_of k.hint_of c.args.u.now c.offer.new.u c.help_if_eager.new.u items (none_then_takes k.keeps_of k.hint_of c.args.u.now c.again.u c.offer.new.u items c.again.invariant.none taken) c.help_if_eager.ensures.none))

pub returns-in-Filtered-clause-fed : goal.returns-in-Filtered-clause-fed
returns-in-Filtered-clause-fed g c =
    let k = g.C.Composable in let f = filter_of k.keeps_of k.early_of k.hint_of in
    c.again.invariant.leads c.offer.new.u 0 (filtered_now f c.again.u c.offer.new.u c.args.item (c.offer.ensures.filtered c.in-Filtered.is))

pub returns-in-Kept-clause-fed : goal.returns-in-Kept-clause-fed
returns-in-Kept-clause-fed g c =
    let k = g.C.Composable in let f = filter_of k.keeps_of k.early_of k.hint_of in
    ok_then c.help_if_eager.result c.help_if_eager.ensures.helped
    (λ helps. c.again.invariant.leads c.help_if_eager.new.u 0 (accepted_now f c.again.u c.offer.new.u c.help_if_eager.new.u c.args.item (c.offer.ensures.accepted c.in-Kept.is) helps))
