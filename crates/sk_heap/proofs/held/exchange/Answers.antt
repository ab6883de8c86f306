use Rattle.std.proofs.Common.{arith}
use Rattle.std.specs.BinaryHeap.{heap_items}
use Rattle.sk_heap.proofs.Both.{greatest_small, marked_probed, marked_room, marked_holds, held_exchanged}
use Rattle.sk_heap.proofs.held.exchange.Goals as goal

pub remove-requires-clause-item : goal.remove-requires-clause-item
remove-requires-clause-item c =
    greatest_small c.args.k (heap_items c.args.heap.now) c.args.table.now c.requires.held c.args.hash c.args.at c.requires.item c.requires.empty (heap_items c.replace_greatest-greatest.new.heap) c.replace_greatest-greatest.result c.replace_greatest-greatest.ensures.members

pub remove-requires-clause-probed : goal.remove-requires-clause-probed
remove-requires-clause-probed c = marked_probed c.args.k (heap_items c.args.heap.now) c.args.table.now c.requires.held c.args.hash c.args.at c.requires.item c.requires.empty

pub remove-requires-clause-room : goal.remove-requires-clause-room
remove-requires-clause-room c =
    marked_room c.args.k (heap_items c.args.heap.now) c.args.table.now c.requires.held c.args.hash c.args.at c.requires.item c.requires.empty (heap_items c.replace_greatest-greatest.new.heap) c.replace_greatest-greatest.result c.replace_greatest-greatest.ensures.members (omega arith)

pub remove-requires-clause-holds : goal.remove-requires-clause-holds
remove-requires-clause-holds c =
    marked_holds c.args.k (heap_items c.args.heap.now) c.args.table.now c.requires.held c.args.hash c.args.at c.requires.item c.requires.empty (heap_items c.replace_greatest-greatest.new.heap) c.replace_greatest-greatest.result c.replace_greatest-greatest.ensures.members

pub returns-clause-held : goal.returns-clause-held
returns-clause-held c =
    held_exchanged c.args.k (heap_items c.args.heap.now) c.args.table.now c.requires.held c.args.hash c.args.at c.requires.item c.requires.empty (heap_items c.replace_greatest-greatest.new.heap) c.replace_greatest-greatest.result c.replace_greatest-greatest.ensures.members
    c.replace_greatest-greatest.ensures.order (omega arith) c.remove.new.table c.remove.ensures.probed c.remove.ensures.rest (omega arith)
