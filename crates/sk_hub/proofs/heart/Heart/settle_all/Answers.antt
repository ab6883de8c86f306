use Rattle.std.proofs.Common.{ap, ◌∙◌}
use Rattle.sk_hub.proofs.Leaves.{not_tried, tried_again, tried_in_vain, comes_waiting, comes_renewed, is_settled, same_table}
use Rattle.sk_hub.proofs.heart.Heart.settle_all.Goals as goal

pub settle-init : goal.settle-init
settle-init g c = record { table = c.requires.table; empty = c.requires.empty; tries = not_tried c.args.self.now c.args.u.now }

pub settle-preserved : goal.settle-preserved
settle-preserved g c = let i = c.settle.invariant in let n = c.serve_for.ensures in let u' = c.settle-in-settle.new.self in
    let busy = c.settle-in-settle.ensures.busy c.in-Busy.is in
    let back = comes_waiting c.settle.u u' busy in record {
      table = same_table c.settle.self c.serve_for.new.self c.settle.u u' n.stays back i.table;
      empty = ap (λ z. z.fill) busy.state ∙ i.empty;
      tries = tried_again c.args.self.now c.settle.self c.serve_for.new.self c.args.u.now c.settle.u u' i.tries c.if-not-serve_for.ensures.tries n.known n.stays back;
    }

pub returns-in-Settled : goal.returns-in-Settled
returns-in-Settled g c = let k = g.C.Composable in let i = c.settle.invariant in let n = c.serve_for.ensures in let u' = c.settle-in-settle.new.self in
    let renews = c.settle-in-settle.ensures.settled c.in-Settled.is in record {
      tries = tried_again c.args.self.now c.settle.self c.serve_for.new.self c.args.u.now c.settle.u u' i.tries c.if-not-serve_for.ensures.tries n.known n.stays (comes_renewed k.hint_of c.settle.u u' renews);
      settled = is_settled k.hint_of c.settle.u u' i.empty renews;
      cause = tt;
    }

pub returns-then-not-serve_for : goal.returns-then-not-serve_for
returns-then-not-serve_for g c = let n = c.serve_for.ensures in let o = c.if-not-serve_for.ensures in record {
  tries = tried_in_vain c.args.self.now c.settle.self c.serve_for.new.self c.args.u.now c.settle.u c.settle.invariant.tries o.refused n.known n.stays;
  settled = tt;
  cause = o.cause;
}
