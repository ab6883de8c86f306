use Rattle.std.proofs.Common.{◌<◌, length, arith}
use Rattle.sk_feed.proofs.Done.{done_next}
use Rattle.sk_feed.proofs.HubLaws.{heart_goes}
use Rattle.sk_feed.proofs.Settling.{none_next}
use Rattle.sk_feed.proofs.settle.settle_all.Goals as goal

pub updater-preserved : goal.updater-preserved
updater-preserved g c =
    let inv = c.updater.invariant in let us = c.args.updaters.now.items in let vs = c.updater.updaters.items in let i = c.updater.i in
    let u = c.index_mut-updater.result.now in let u' = c.settle.new.u in
    let within : i < length us = omega (arith, c.len-n.ensures, c.updater-test.true) in
    let inside : i < length vs = omega (arith, within, inv.settled.count) in record {
      none = none_next us vs i u u' inv.none inside c.index_mut-updater.ensures.value c.settle.ensures.none;
      settled = done_next _ us vs i u u' inv.settled within c.index_mut-updater.ensures.value (c.in_ok-settle.ensures.settled, c.in_ok-settle.ensures.eager);
      heart = heart_goes c.args.heart.now c.updater.heart c.settle.new.heart inv.heart c.settle.ensures.heart;
    }

pub returns-in_err-settle-clause-none : goal.returns-in_err-settle-clause-none
returns-in_err-settle-clause-none g c =
    let inv = c.updater.invariant in let vs = c.updater.updaters.items in
    let inside : c.updater.i < length vs = omega (arith, c.len-n.ensures, c.updater-test.true, inv.settled.count) in
    none_next c.args.updaters.now.items vs c.updater.i c.index_mut-updater.result.now c.settle.new.u inv.none inside c.index_mut-updater.ensures.value c.settle.ensures.none

pub returns-in_err-settle-clause-heart : goal.returns-in_err-settle-clause-heart
returns-in_err-settle-clause-heart g c = heart_goes c.args.heart.now c.updater.heart c.settle.new.heart c.updater.invariant.heart c.settle.ensures.heart
