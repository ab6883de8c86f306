use Rattle.std.proofs.Common.{◌≡◌, ℕ, List, Err, OnOk, OnErr, ap, sym, ◌∙◌, subst, arith}
use Rattle.std.specs.Io.KnownBytes.{Appends}
use Rattle.sk_model.specs.Causes.{AppendsPart}
use Rattle.sk_io.specs.declared.stream.Failed.{Failed}
use Rattle.sk_decimal.specs.Account.{Account, Shown, Rounder, IsFinished}
use Rattle.sk_decimal.proofs.Accounts.{same_account, finished_stopped, finished_by}
use Rattle.sk_decimal.proofs.rounding.Rounding.finish.Goals as goal

pub returns-then-faults-gt0-clause-done : goal.returns-then-faults-gt0-clause-done
returns-then-faults-gt0-clause-done g c = λ before text reports.
    let inside = c.self.inside in
    let below : Shown = record { written = g.O.Sink.written inside.out; faults = g.O.Sink.faults inside.out } in
    subst (λ (a : Account). IsFinished {T = Unit {0}} {E = Failed} a below (Err (record {}))) (ap (λ (r : Rounder). r.account) c.self.view_is ∙ same_account before c.args.self.account text reports)
    (finished_stopped _ below (record {}) (c.self.invariant.stopped c.if-faults-gt0.true))

pub returns-clause-done : goal.returns-clause-done
returns-clause-done g c = λ before text reports.
    let inside = c.self.inside in
    let old : Shown = record { written = g.O.Sink.written inside.out; faults = g.O.Sink.faults inside.out } in
    let new : Shown = record { written = g.O.Sink.written c.write_all-result.new.out; faults = g.O.Sink.faults c.write_all-result.new.out } in
    let result = c.write_all-result.result in
    let fine : inside.faults ≡ 0 = omega (arith, c.if-faults-gt0.false) in
    subst (λ (a : Account). IsFinished a new result) (ap (λ (r : Rounder). r.account) c.self.view_is ∙ same_account before c.args.self.account text reports)
    (finished_by _ old new inside.line inside.passing result (c.self.invariant.settled fine) (c.self.invariant.held fine)
    (subst (λ (l : List ℕ). OnOk result (Appends old.written new.written l)) c.bytes.ensures c.write_all-result.ensures.ok)
    (subst (λ (l : List ℕ). OnErr result (AppendsPart old.written new.written l)) c.bytes.ensures c.write_all-result.ensures.err)
    c.write_all-result.ensures.cause)
