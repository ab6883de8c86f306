use Rattle.std.proofs.Common.{◌-◌, arith}
use Rattle.sk_heap.proofs.Rebuilt.{before_this, is_new, still_room, one_more}
use Rattle.sk_heap.proofs.places.put_each.Goals as goal

pub put_one-requires-clause-room : goal.put_one-requires-clause-room
put_one-requires-clause-room c =
    still_room c.args.hashes.now c.hash.table (c.hash.at - 1) (omega arith) (before_this c.args.hashes.now c.hash.table c.hash.at (omega arith) c.hash.invariant) (omega arith) (omega arith)

pub put_one-requires-clause-absent : goal.put_one-requires-clause-absent
put_one-requires-clause-absent c =
    is_new c.args.hashes.now c.hash.table (c.hash.at - 1) (omega arith) (before_this c.args.hashes.now c.hash.table c.hash.at (omega arith) c.hash.invariant) c.requires.distinct

pub hash-preserved : goal.hash-preserved
hash-preserved c =
    one_more c.args.hashes.now c.hash.table (c.hash.at - 1) (omega arith) (before_this c.args.hashes.now c.hash.table c.hash.at (omega arith) c.hash.invariant) c.put_one.new.table
    c.put_one.ensures.probed c.put_one.ensures.more (omega arith)
