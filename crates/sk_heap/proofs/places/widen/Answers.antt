use Rattle.std.proofs.Common.{◌≡◌, ℕ, List, length, sym, subst, arith}
use Rattle.std.specs.BinaryHeap.{heap_items}
use Rattle.std.specs.Int.{IsPowerOfTwo}
use Rattle.sk_heap.specs.Held.{IsTabled}
use Rattle.sk_heap.proofs.Rebuilt.{held_moved}
use Rattle.sk_heap.proofs.places.widen.Goals as goal

pub returns-clause-held : goal.returns-clause-held
returns-clause-held c =
    let heap : List ℕ = heap_items c.args.heap.now in
    let new : List ℕ = c.rebuild.new.table.items in
    let wider = c.more_places-wider.ensures in
    let long : length new ≡ c.more_places-wider.result = c.rebuild.ensures.places in
    let tabled : IsTabled heap new = subst (λ (l : List ℕ). IsTabled l new) c.as_slice.ensures.value c.rebuild.ensures.tabled in
    held_moved c.args.k heap c.args.table.now.items new c.requires.held tabled (subst (λ (n : ℕ). IsPowerOfTwo n) (sym long) wider.power) (omega arith) (omega arith) (omega arith)
