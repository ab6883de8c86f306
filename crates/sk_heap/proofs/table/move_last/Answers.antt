use Rattle.std.proofs.Common.{◌≡◌, ◌≢◌, ℕ, ◌+◌, ◌-◌, ◌%◌, ◌<◌, List, length, set, get_or, length-set, refl, sym, subst, arith}
use Rattle.sk_heap.specs.Table.{home, IsProbedOver}
use Rattle.sk_heap.proofs.Gaps.{last_moves, apart_from_last, start_empty}
use Rattle.sk_heap.proofs.Counts.{same_moved}
use Rattle.sk_heap.proofs.table.move_last.Goals as goal

pub returns-clause-closed : goal.returns-clause-closed
returns-clause-closed c =
    let t : List ℕ = c.args.table.now in
    let start : ℕ = c.args.start in
    let at : ℕ = (start + c.args.last) % length t in
    let full : get_or t at 0 ≢ 0 = c.requires.entry in
    let entry : get_or t at 0 ≡ (get_or t at 0 - 1) + 1 = omega arith in
    let reaches : (home (length t) (get_or t at 0 - 1) + c.steps_to.result) % length t ≡ at = rw (c.home.ensures.value, c.place-at.ensures) at c.steps_to.ensures.reaches in
    let long : length t ≡ length (set (set t start (get_or t at 0)) at 0) = omega (arith, length-set t start (get_or t at 0), length-set (set t start (get_or t at 0)) at 0) in
    let closed : IsProbedOver (length t) (set (set t start (get_or t at 0)) at 0) =
    subst (λ (w : ℕ). IsProbedOver (length t) (set (set t start w) at 0)) (sym entry)
    (last_moves t start c.args.last c.requires.start c.requires.within c.requires.gap c.requires.end (get_or t at 0 - 1) c.steps_to.result c.steps_to.ensures.within reaches entry c.if-steps_to-last.false) in
    λ _ h n e. rw c.place-at.ensures (subst (λ (len : ℕ). IsProbedOver len (set (set t start (get_or t at 0)) at 0)) long closed h n e)

pub returns-clause-same : goal.returns-clause-same
returns-clause-same c =
    let t : List ℕ = c.args.table.now in
    let start : ℕ = c.args.start in
    let at : ℕ = (start + c.args.last) % length t in
    let inside : at < length t = omega arith in
    let full : get_or t at 0 ≢ 0 = c.requires.entry in
    let entry : get_or t at 0 ≡ (get_or t at 0 - 1) + 1 = omega arith in
    let reaches : (home (length t) (get_or t at 0 - 1) + c.steps_to.result) % length t ≡ at = rw (c.home.ensures.value, c.place-at.ensures) at c.steps_to.ensures.reaches in
    let apart = apart_from_last t start c.args.last c.requires.start c.requires.within c.requires.gap c.requires.end (get_or t at 0 - 1) c.steps_to.result c.steps_to.ensures.within reaches entry in
    let hole = start_empty t start c.args.last c.requires.start c.requires.within c.requires.gap c.requires.end (get_or t at 0 - 1) c.steps_to.result c.steps_to.ensures.within reaches entry in
    rw c.place-at.ensures (same_moved t start at (get_or t at 0) 0 c.requires.start inside apart hole refl)
