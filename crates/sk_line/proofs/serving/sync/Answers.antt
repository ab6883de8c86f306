use Rattle.sk_line.proofs.Updaters.{synced, looked_later}
use Rattle.sk_line.proofs.serving.sync.Goals as goal

pub returns-in-Settled-clause-synced : goal.returns-in-Settled-clause-synced
returns-in-Settled-clause-synced g c =
    let handed = c.if-not-hand_over.ensures.handed in
    synced g.C.Composable.hint_of c.args.u.now c.hand_over.new.u c.pump.new.u c.settle.new.self handed.0 handed.1 c.pump.ensures.updater (c.settle.ensures.settled c.in-Settled.is)

pub returns-in-Busy-clause-synced : goal.returns-in-Busy-clause-synced
returns-in-Busy-clause-synced g c =
    looked_later c.args.u.now c.hand_over.new.u c.pump.new.u c.settle.new.self c.if-not-hand_over.ensures.handed.0 c.pump.ensures.updater (c.settle.ensures.busy c.in-Busy.is)
