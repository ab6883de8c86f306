use Rattle.std.proofs.Common.{◌≡◌, ◌≢◌, ℕ, ◌+◌, ◌<◌, List, length, ◌∙◌, subst, arith}
use Rattle.sk_heap.specs.Table.{IsGap, going_round}
use Rattle.sk_heap.proofs.Gaps.{gap_ends}
use Rattle.sk_heap.proofs.table.shift_run.Goals as goal

pub returns-then-table-place-eq0-clause-probed : goal.returns-then-table-place-eq0-clause-probed
returns-then-table-place-eq0-clause-probed c =
    let t : List ℕ = c.shift.table in
    let within : c.shift.step < length t = omega arith in
    let long : length c.args.table.now ≡ length t = omega arith in
    let ends : going_round (length t) t (c.args.start + c.shift.step) ≡ 0 = rw (← long) (rw c.place.ensures at c.if-table-place-eq0.true) in
    gap_ends t c.args.start c.shift.gap c.shift.step within c.shift.invariant.gap ends

pub shift-preserved : goal.shift-preserved
shift-preserved c =
    let t : List ℕ = c.shift.table in
    let new = c.shift_back-gap.new.table in
    let long : length t ≡ length new = omega arith in
    let as_long : length c.args.table.now ≡ length t = omega arith in
    let full : going_round (length t) t (c.args.start + c.shift.step) ≢ 0 = rw (← as_long) (rw c.place.ensures at c.if-table-place-eq0.false) in
    let g : IsGap (length t) new c.args.start c.shift_back-gap.result (c.shift.step + 1) = c.shift_back-gap.ensures.gap (omega arith) full c.shift.invariant.gap in
    record {
      gap = subst (λ (len : ℕ). IsGap len new c.args.start c.shift_back-gap.result (c.shift.step + 1)) long g;
      same = λ x. c.shift_back-gap.ensures.same x ∙ c.shift.invariant.same x;
    }

pub shift_back-gap-requires-clause-hole : goal.shift_back-gap-requires-clause-hole
shift_back-gap-requires-clause-hole c = record { behind = c.shift.invariant.gap.behind; empty = c.shift.invariant.gap.empty }
