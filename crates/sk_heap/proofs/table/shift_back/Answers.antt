use Rattle.std.proofs.Common.{◌≡◌, ◌≢◌, ℕ, ◌+◌, ◌-◌, ◌%◌, ◌<◌, ◌≤◌, Bool, true, false, cond, List, length, set, get_or, ⊎_elim, sym, subst, arith}
use Rattle.sk_heap.specs.Table.{home, IsGap}
use Rattle.sk_heap.proofs.Gaps.{gap_shifts, written_after, written_later, written_same}
use Rattle.sk_heap.proofs.table.shift_back.Goals as goal

pub returns-clause-gap : goal.returns-clause-gap
returns-clause-gap c = λ near full g.
    let t : List ℕ = c.args.table.now in
    let start : ℕ = c.args.start in
    let gap : ℕ = c.args.gap in
    let step : ℕ = c.args.step in
    let at : ℕ = (start + step) % length t in
    let hole : ℕ = (start + gap) % length t in
    let moves : Bool = c.moves_back-moves.result in
    let some : get_or t at 0 ≢ 0 = full in
    let entry : get_or t at 0 ≡ (get_or t at 0 - 1) + 1 = omega arith in
    let reaches : (home (length t) (get_or t at 0 - 1) + c.steps_to-way.result) % length t ≡ at = rw (c.home.ensures.value, c.saturating_sub.ensures, c.place-at.ensures) at c.steps_to-way.ensures.reaches in
    let far : moves ≡ true → step - gap ≤ c.steps_to-way.result = λ is. (c.moves_back-moves.ensures.moves is).0 in
    let short : moves ≡ false → c.steps_to-way.result < step - gap = λ is. ⊎_elim (λ less. less) (λ past. absurd (omega arith)) (c.moves_back-moves.ensures.stays is) in
    rw (c.select_unpredictable.ensures, c.select_unpredictable-filled.ensures, c.select_unpredictable-left.ensures, c.place-hole.ensures, c.place-at.ensures)
    (subst (λ (w : ℕ). IsGap (length t) (set (set t hole (cond moves w 0)) at (cond moves 0 w)) start (cond moves step gap) (step + 1)) (sym entry)
    (gap_shifts t start gap step c.requires.within.1 g (get_or t at 0 - 1) c.steps_to-way.result c.steps_to-way.ensures.within reaches entry moves far short))

pub returns-clause-stays : goal.returns-clause-stays
returns-clause-stays c = λ past.
    rw (c.select_unpredictable.ensures, c.select_unpredictable-filled.ensures, c.select_unpredictable-left.ensures, c.place-hole.ensures, c.place-at.ensures)
    (written_after c.args.table.now c.args.start c.args.gap c.args.step c.requires.within.1 c.requires.hole c.args.last c.moves_back-moves.result (λ is. (c.moves_back-moves.ensures.moves is).1) past)

pub returns-clause-later : goal.returns-clause-later
returns-clause-later c = λ n above below.
    rw (c.select_unpredictable-filled.ensures, c.select_unpredictable-left.ensures, c.place-hole.ensures, c.place-at.ensures)
    (written_later c.args.table.now c.args.start c.args.gap c.args.step c.requires.within.1 c.requires.hole c.moves_back-moves.result n above below)

pub returns-clause-same : goal.returns-clause-same
returns-clause-same c =
    rw (c.select_unpredictable-filled.ensures, c.select_unpredictable-left.ensures, c.place-hole.ensures, c.place-at.ensures)
    (written_same c.args.table.now c.args.start c.args.gap c.args.step c.requires.within.1 c.requires.hole c.moves_back-moves.result)
