use Rattle.sk_hub.proofs.Calls.{none_refl, none_trans}
use Rattle.uses.proofs.feeding.feed_item.Goals as goal

pub again-init : goal.again-init
again-init g c = none_refl c.args.updater.now

pub again-preserved : goal.again-preserved
again-preserved g c =
    none_trans c.args.updater.now c.again.updater c.help.new.updater c.again.invariant
    (none_trans c.again.updater c.offer.new.updater c.help.new.updater c.if-offer.ensures.busy c.help.ensures)
