use Rattle.std.proofs.Common.{subst}
use Rattle.sk_core.specs.Stored.{Stored, IsStored}
use Rattle.sk_core.proofs.Runs.{is_enabled, is_answered, is_after, same_sketch, is_refused, is_unchanged, is_step, still_meets}
use Rattle.sk_core.proofs.state.State.step.Goals as goal

pub returns : goal.returns
returns c =
    let e = c.args.event.now in
    let old = c.args.self.now in
    let new = c.play.new.self in
    let r = c.play.result in
    let p = c.play.ensures in
    let stored = subst (λ (s : Stored). IsStored s) c.self.view_is c.self.invariant.stored in
    record {
      enabled = is_enabled e old new r p;
      machine = is_after e old new r p;
      answer = is_answered e old new r p;
      step = is_step e old new r stored p;
      refused = is_refused e old new r p;
      unchanged = is_unchanged e old new r p;
      sketch = same_sketch e old new r p;
      invariant = still_meets e old new r stored p;
    }
