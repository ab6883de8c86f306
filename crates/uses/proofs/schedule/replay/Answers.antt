use Rattle.std.proofs.Common.{List, [], ◌∷◌, length, refl, sym, ap, subst, ◌∙◌, arith, length-append}
use Rattle.sk_core.specs.Stored.{machine_of}
use Rattle.sk_core.specs.Runs.{IsRun}
use Rattle.sk_core.specs.declared.event.Answer.{Answer}
use Rattle.uses.proofs.Runs.{run_none, played}
use Rattle.uses.proofs.schedule.replay.Goals as goal

pub event-init : goal.event-init
event-init c = let s = c.args.state.now in record {
  count = ap length c.in_ok-answers.ensures.items;
  room = c.in_ok-answers.ensures.capacity;
  sketch = refl;
  run = subst (λ (l : List Answer). IsRun s.k [] l (machine_of s) (machine_of s)) (sym c.in_ok-answers.ensures.items) (run_none s.k (machine_of s));
}

pub event-preserved : goal.event-preserved
event-preserved c =
    let inv = c.event.invariant in let e = c.in-Ok.ensures in let items = c.push_reserved.ensures.items in
    record {
      count = omega (arith, inv.count, ap length items, length-append c.event.answers.items (c.in-Ok.answer ∷ []));
      room = omega (arith, inv.room, c.push_reserved.ensures.capacity);
      sketch = e.sketch ∙ inv.sketch;
      run = played c.args.state.now.k c.event.state.k c.args.events.now c.event.event-index _ c.event.answers.items c.push_reserved.new.self.items (machine_of c.args.state.now) (machine_of c.event.state) (machine_of c.step.new.self) c.in-Ok.answer
          inv.sketch c.event-test.true inv.run e.step e.machine items;
    }
