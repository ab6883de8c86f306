use Rattle.std.proofs.Common.{ℕ, ◌+◌, ◌<◌, List, length, set, refl, sym, subst, arith, length-set}
use Rattle.sk_heap.specs.Table.{IsProbedOver}
use Rattle.sk_heap.proofs.Counts.{times_from_at, same_set}
use Rattle.sk_heap.proofs.Probes.{one_more_probed}
use Rattle.sk_heap.proofs.places.put_one.Goals as goal

pub unreachable-requires : goal.unreachable-requires
unreachable-requires c =
    let found = c.in_default.ensures.found in
    absurd (omega (arith, times_from_at c.args.table.now (c.args.hash + 1) c.in_default.field-0 found.0 found.1, c.requires.absent))

pub returns-clause-probed : goal.returns-clause-probed
returns-clause-probed c =
    let t : List ℕ = c.args.table.now in
    let first = c.in-Err.ensures.empty in
    let new : List ℕ = set t c.in-Err.at (c.args.hash + 1) in
    subst (λ (len : ℕ). IsProbedOver len new) (sym (length-set t c.in-Err.at (c.args.hash + 1)))
    (one_more_probed (length t) t c.args.hash c.in-Err.at first.steps refl c.requires.probed first.within first.is first.passed)

pub returns-clause-more : goal.returns-clause-more
returns-clause-more c =
    let t : List ℕ = c.args.table.now in
    let first = c.in-Err.ensures.empty in
    let steps : first.steps < length t = first.within in
    let inside : c.in-Err.at < length t = omega (arith, first.is) in
    same_set t c.in-Err.at (c.args.hash + 1) 0 inside first.empty
