use Rattle.sk_hub.proofs.Calls.{none_trans}
use Rattle.sk_feed.proofs.HubLaws.{heart_goes}
use Rattle.sk_feed.proofs.settle.settle.Goals as goal

pub returns-then-is_settled-clause-none : goal.returns-then-is_settled-clause-none
returns-then-is_settled-clause-none g c = none_trans c.args.u.now c.settle.u c.is_settled.new.u c.settle.invariant.none c.is_settled.ensures.none

pub returns-in_err-sweep-clause-none : goal.returns-in_err-sweep-clause-none
returns-in_err-sweep-clause-none g c = none_trans c.args.u.now c.settle.u c.is_settled.new.u c.settle.invariant.none c.is_settled.ensures.none

pub returns-in_err-sweep-clause-heart : goal.returns-in_err-sweep-clause-heart
returns-in_err-sweep-clause-heart g c = heart_goes c.args.heart.now c.settle.heart c.sweep.new.heart c.settle.invariant.heart c.sweep.ensures.heart

pub settle-preserved : goal.settle-preserved
settle-preserved g c = record {
  none = none_trans c.args.u.now c.settle.u c.is_settled.new.u c.settle.invariant.none c.is_settled.ensures.none;
  heart = heart_goes c.args.heart.now c.settle.heart c.sweep.new.heart c.settle.invariant.heart c.sweep.ensures.heart;
}
