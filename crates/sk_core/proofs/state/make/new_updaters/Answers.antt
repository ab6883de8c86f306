use Rattle.std.proofs.Common.{arith, ap, ◌∙◌, length}
use Rattle.std.proofs.lemmas.List.{length-replicate}
use Rattle.sk_core.specs.Stored.{blank_updater}
use Rattle.sk_core.proofs.Start.{replicate_pushed}
use Rattle.sk_core.proofs.state.make.new_updaters.Goals as goal

pub push_reserved-requires : goal.push_reserved-requires
push_reserved-requires c =
    let inv = c.updaters.invariant in
    let room = inv.room in
    let inside = c.updaters-test.true in
    let long = c.updaters.updaters.ok.0 in
    let size = ap length inv.items ∙ length-replicate c.updaters.counter (blank_updater c.args.size) in
    omega arith

pub updaters-preserved : goal.updaters-preserved
updaters-preserved c =
    let inv = c.updaters.invariant in
    record {
      items = replicate_pushed c.updaters.counter (blank_updater c.args.size) _ _ _ c.push_reserved.ensures.items c.in_ok-new.ensures inv.items;
      room = c.push_reserved.ensures.capacity ∙ inv.room;
    }
