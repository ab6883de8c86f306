use Rattle.sk_label.proofs.CarryLaws.{steady_ok, carried_more, broke_at}
use Rattle.sk_label.specs.Carrying.{shown}
use Rattle.sk_label.proofs.carrier.CarrierUnitTaker.take.Goals as goal

pub returns-in-Ok-clause-went : goal.returns-in-Ok-clause-went
returns-in-Ok-clause-went g c = λ start lines count carried.
    let a = shown (g.T.LineTaker.rules start.taker.now) (g.T.LineTaker.written start.taker.now) (g.T.LineTaker.faults start.taker.now) in
    let old = c.args.self.now.taker.now in
    let b = shown (g.T.LineTaker.rules old) (g.T.LineTaker.written old) (g.T.LineTaker.faults old) in
    let new = c.take.new.self in
    carried_more (g.T.LineTaker.went start.taker.now old) (g.T.LineTaker.went start.taker.now new) a b (shown (g.T.LineTaker.rules new) (g.T.LineTaker.written new) (g.T.LineTaker.faults new)) lines c.args.line.now
    carried (c.in-Ok.ensures.takes start.taker.now lines carried.went) c.in-Ok.ensures.rules (steady_ok _ _ _ _ _ c.take.ensures.cause c.in-Ok.is)

pub returns-in-Err-clause-stopped : goal.returns-in-Err-clause-stopped
returns-in-Err-clause-stopped g c = λ start lines count carried.
    let a = shown (g.T.LineTaker.rules start.taker.now) (g.T.LineTaker.written start.taker.now) (g.T.LineTaker.faults start.taker.now) in
    let old = c.args.self.now.taker.now in
    let b = shown (g.T.LineTaker.rules old) (g.T.LineTaker.written old) (g.T.LineTaker.faults old) in
    let new = c.take.new.self in
    broke_at (g.T.LineTaker.went start.taker.now old) a b (shown (g.T.LineTaker.rules new) (g.T.LineTaker.written new) (g.T.LineTaker.faults new)) lines c.args.line.now c.in-Err.why
    carried (c.in-Err.ensures.stopped start.taker.now lines carried.went) c.in-Err.ensures.cause
