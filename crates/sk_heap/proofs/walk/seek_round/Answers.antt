use Rattle.std.proofs.Common.{◌≡◌, ℕ, ◌%◌, List, length, arith}
use Rattle.sk_heap.proofs.Walks.{found_ahead, found_round}
use Rattle.sk_heap.proofs.walk.seek_round.Goals as goal

pub returns-then-at-table : goal.returns-then-at-table
returns-then-at-table c =
    let t : List ℕ = c.args.table.now in
    let from : c.place.result ≡ c.args.number % length t = c.place.ensures in
    let first = c.seek-at.ensures in
    found_ahead t c.args.number c.args.entry c.seek-at.result (omega (arith, from, first.order)) c.if-at-table.true
    (λ k above below. first.full k (omega arith) below) (λ k above below. first.other k (omega arith) below) (first.stops c.if-at-table.true)

pub returns : goal.returns
returns c =
    let t : List ℕ = c.args.table.now in
    let from : c.place.result ≡ c.args.number % length t = c.place.ensures in
    let end = c.if-at-table.false in
    let behind = c.seek-at.ensures in
    let front = c.seek.ensures in
    found_round t c.args.number c.args.entry c.seek.result c.requires.room
    (λ k above below. behind.full k (omega arith) (omega arith)) (λ k above below. behind.other k (omega arith) (omega arith))
    front.full front.other front.stops
