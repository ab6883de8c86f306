use Rattle.sk_hub.proofs.Leaves.{not_tried, tried_again, tried_in_vain, comes_waiting, flushed, same_table}
use Rattle.sk_hub.proofs.heart.Heart.flush_all.Goals as goal

pub flush-init : goal.flush-init
flush-init g c = record { table = c.requires.table; tries = not_tried c.args.self.now c.args.u.now }

pub flush-preserved : goal.flush-preserved
flush-preserved g c = let i = c.flush.invariant in let n = c.serve_for.ensures in let u' = c.flush-in-flush.new.self in
    let back = comes_waiting c.flush.u u' (c.flush-in-flush.ensures.busy c.in-Busy.is) in record {
      table = same_table c.flush.self c.serve_for.new.self c.flush.u u' n.stays back i.table;
      tries = tried_again c.args.self.now c.flush.self c.serve_for.new.self c.args.u.now c.flush.u u' i.tries c.if-not-serve_for.ensures.tries n.known n.stays back;
    }

pub returns-in-Empty : goal.returns-in-Empty
returns-in-Empty g c = let i = c.flush.invariant in let n = c.serve_for.ensures in let f = c.flush-in-flush in
    let back = flushed g.C.Composable.hint_of c.flush.u f.new.self c.in-Empty.is f.ensures.unchanged f.ensures.empty.0 f.ensures.handed in record {
      tries = tried_again c.args.self.now c.flush.self c.serve_for.new.self c.args.u.now c.flush.u f.new.self i.tries c.if-not-serve_for.ensures.tries n.known n.stays back.0;
      empty = back.1;
      cause = tt;
    }

pub returns-then-not-serve_for : goal.returns-then-not-serve_for
returns-then-not-serve_for g c = let n = c.serve_for.ensures in let o = c.if-not-serve_for.ensures in record {
  tries = tried_in_vain c.args.self.now c.flush.self c.serve_for.new.self c.args.u.now c.flush.u c.flush.invariant.tries o.refused n.known n.stays;
  empty = tt;
  cause = o.cause;
}
