use Rattle.std.proofs.Common.{ℕ, ◌+◌, List, set, length-set, sym, subst}
use Rattle.sk_heap.specs.Table.{IsGap}
use Rattle.sk_heap.proofs.Counts.{same_set, same_behind}
use Rattle.sk_heap.proofs.Gaps.{gap_begins}
use Rattle.sk_heap.proofs.table.remove.Goals as goal

pub close_gap-requires-clause-gap : goal.close_gap-requires-clause-gap
close_gap-requires-clause-gap c =
    let t : List ℕ = c.args.table.now in
    let at : ℕ = c.place_of-at.result in
    let found = c.place_of-at.ensures in
    let zero = c.requires.room in
    subst (λ (len : ℕ). IsGap len (set t at 0) at 0 1) (sym (length-set t at 0))
    (gap_begins t at zero.0 c.args.hash found.0 zero.1 found.1 zero.2 c.requires.probed)

pub returns-clause-rest : goal.returns-clause-rest
returns-clause-rest c =
    let t : List ℕ = c.args.table.now in
    let at : ℕ = c.place_of-at.result in
    let found = c.place_of-at.ensures in
    same_behind c.close_gap.new.table (set t at 0) t 0 (c.args.hash + 1) c.close_gap.ensures.same (same_set t at 0 (c.args.hash + 1) found.0 found.1)
