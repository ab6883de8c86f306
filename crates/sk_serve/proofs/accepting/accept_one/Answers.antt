use Rattle.std.proofs.Common.{refl, ap, ◌∙◌}
use Rattle.sk_report.specs.Sizes.{size_at}
use Rattle.sk_serve.specs.Doors.{door_of}
use Rattle.sk_serve.proofs.Admitting.{new_fresh}
use Rattle.sk_serve.proofs.Closed.{accepts_one}
use Rattle.sk_serve.proofs.accepting.accept_one.Goals as goal

pub returns-in_ok-accept-in-Admitted-clause-ready : goal.returns-in_ok-accept-in-Admitted-clause-ready
returns-in_ok-accept-in-Admitted-clause-ready g c =
    let plan = c.args.plan.now in let h = c.args.heart.now in
    let new = c.in-Admitted.ensures.admitted c.in-Admitted.updater refl in record {
      unread = record { untouched = c.in_ok-accept-in-Admitted.ensures.untouched; faults = c.in_ok-accept-in-Admitted.ensures.count; waiting = c.in_ok-accept-in-Admitted.ensures.sent };
      fresh = new_fresh _ plan h.admitted c.size_for.result h c.in-Admitted.updater new (c.size_for.ensures.value ∙ ap (size_at plan.sizes) c.admitted-number.ensures.value) c.requires.can.hub;
      table_is = new.table;
      pumps_none = c.new.ensures;
    }

pub returns-in_ok-accept-in-Admitted-clause-accepts : goal.returns-in_ok-accept-in-Admitted-clause-accepts
returns-in_ok-accept-in-Admitted-clause-accepts g c =
    let door = door_of g.D.Door in
    accepts_one _ (door c.args.door.now) (door c.accept.new.self) c.in_ok-accept-in-Admitted.ensures.arrives c.in_ok-accept-in-Admitted.ensures.accepts c.accept.ensures.room
