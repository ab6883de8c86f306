use Rattle.std.proofs.Common.{◌≡◌, ℕ, ◌<◌, List, length, sym, arith}
use Rattle.std.specs.BinaryHeap.{heap_items}
use Rattle.std.proofs.lemmas.List.Sorted.{le_from_greatest}
use Rattle.sk_heap.proofs.Kept.{theta_few, theta_full}
use Rattle.sk_heap.proofs.held.theta_of.Goals as goal

pub returns-then-len-k : goal.returns-then-len-k
returns-then-len-k c = sym (theta_few c.args.k (heap_items c.args.heap.now) c.requires.distinct (omega arith))

pub returns-else-len-k : goal.returns-else-len-k
returns-else-len-k c =
    let heap : List ℕ = heap_items c.args.heap.now in
    let top : ℕ = c.unwrap.result.now in
    let full : length heap ≡ c.args.k = omega arith in
    let inside : 0 < length heap = omega arith in
    let first = rw c.unwrap.ensures at c.peek.ensures.lookup in
    let most = rw c.unwrap.ensures at c.peek.ensures.greatest in
    sym (theta_full c.args.k top heap c.requires.distinct c.requires.some full (0, inside, sym first) (le_from_greatest top heap (most c.requires.order)))
