use Rattle.std.proofs.Common.{◌≡◌, ℕ, ◌+◌, List, length, ◌∙◌, subst, arith}
use Rattle.sk_heap.specs.Runs.{IsRun}
use Rattle.sk_heap.proofs.Gaps.{IsShifted, shift_steps, shift_ends}
use Rattle.sk_heap.proofs.table.shift_near.Goals as goal

pub shift-preserved : goal.shift-preserved
shift-preserved c =
    let first : List ℕ = c.args.table.now in
    let t : List ℕ = c.shift.table in
    let call = c.shift_back-gap in
    let new : List ℕ = call.new.table in
    let as_long : length first ≡ length t = omega arith in
    let long : length t ≡ length new = omega arith in
    let run : IsRun (length t) first c.args.start c.args.last = subst (λ (len : ℕ). IsRun len first c.args.start c.args.last) as_long c.requires.run in
    record {
      shifted = subst (λ (len : ℕ). IsShifted len first new c.args.start c.args.last call.result (c.shift.step + 1)) long
          (shift_steps (length t) first t new c.args.start c.args.last c.shift.gap call.result c.shift.step (omega arith) (omega arith) run c.shift.invariant.shifted
          call.ensures.gap call.ensures.stays call.ensures.later);
      same = λ x. call.ensures.same x ∙ c.shift.invariant.same x;
    }

pub returns-clause-probed : goal.returns-clause-probed
returns-clause-probed c = shift_ends c.args.table.now c.shift.table c.args.start c.args.last c.shift.gap c.shift.step (omega arith) (omega (arith, c.requires.run.within)) c.shift.invariant.shifted
