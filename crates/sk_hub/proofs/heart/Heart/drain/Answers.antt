use Rattle.std.proofs.Common.{true, false}
use Rattle.sk_hub.specs.Drains.{TriesUntil}
use Rattle.sk_hub.proofs.Leaves.{tried_then, drained_after, taken_in_after}
use Rattle.sk_hub.proofs.heart.Heart.drain.Goals as goal

pub returns-then-not-settle_all-clause-refused : goal.returns-then-not-settle_all-clause-refused
returns-then-not-settle_all-clause-refused g c u is = let h = c.args.self.now in let f = c.flush_all.new in let s = c.settle_all.new in
    (tried_then false h f.self s.self c.args.u f.u s.u c.if-not-flush_all.ensures.tries c.if-not-settle_all.ensures.tries).ends

pub returns-then-not-settle_all-clause-known : goal.returns-then-not-settle_all-clause-known
returns-then-not-settle_all-clause-known g c u is = let h = c.args.self.now in let f = c.flush_all.new in let s = c.settle_all.new in
    (tried_then false h f.self s.self c.args.u f.u s.u c.if-not-flush_all.ensures.tries c.if-not-settle_all.ensures.tries).known

pub returns-clause-drained : goal.returns-clause-drained
returns-clause-drained g c is = let h = c.args.self.now in let f = c.flush_all.new in let s = c.settle_all.new in
    let tried : TriesUntil true h c.args.u s.self s.u = tried_then true h f.self s.self c.args.u f.u s.u c.if-not-flush_all.ensures.tries c.if-not-settle_all.ensures.tries in
    drained_after h s.self c.take_in.new.self c.args.u s.u tried c.take_in.ensures.drained

pub returns-clause-served : goal.returns-clause-served
returns-clause-served g c is = let h = c.args.self.now in let f = c.flush_all.new in let s = c.settle_all.new in
    let tried : TriesUntil true h c.args.u s.self s.u = tried_then true h f.self s.self c.args.u f.u s.u c.if-not-flush_all.ensures.tries c.if-not-settle_all.ensures.tries in
    taken_in_after h s.self c.args.u s.u c.take_in.new.self.view tried c.take_in.ensures.steps
