use Rattle.std.proofs.Common.{suc, Ok, ap}
use Rattle.sk_hub.proofs.Calls.{none_refl, none_trans}
use Rattle.sk_feed.proofs.Calls.{served_now, served_later}
use Rattle.sk_feed.proofs.feed.help_until_served.Goals as goal

pub help-init : goal.help-init
help-init g c = record { none = none_refl c.args.u.now; leads = λ u' times serves. (times, serves) }

pub returns-then-branch-clause-served : goal.returns-then-branch-clause-served
returns-then-branch-clause-served g c = c.help.invariant.leads c.help_once.new.u 0 (served_now c.help.u c.help_once.new.u (c.in_ok-help_once.ensures.served (ap Ok c.if-branch.true)))

pub help-preserved : goal.help-preserved
help-preserved g c = record {
  none = none_trans c.args.u.now c.help.u c.help_once.new.u c.help.invariant.none c.help_once.ensures.none;
  leads = λ u' times serves. c.help.invariant.leads u' (suc times) (served_later c.help.u c.help_once.new.u u' times (c.in_ok-help_once.ensures.elsewhere (ap Ok c.if-branch.false)) serves);
}
