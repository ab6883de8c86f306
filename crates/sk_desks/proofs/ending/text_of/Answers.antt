use Rattle.std.proofs.Common.{◌+◌, ℕ, List, take, flat_map, sym, ap, ◌∙◌}
use Rattle.sk_desks.specs.Desks.{tenant_line}
use Rattle.sk_desks.proofs.Counting.{same_trans, text_more}
use Rattle.sk_desks.proofs.ending.text_of.Goals as goal

pub tenant-preserved : goal.tenant-preserved
tenant-preserved c =
    let inv = c.tenant.invariant in
    let plan = c.args.plan.now in
    let t = c.tenant.t in
    record {
      text = λ lines counted.
          text_more plan lines c.tenant.hosts c.put_line.new.hosts t c.tenant.text.items c.put_line.new.text.items (inv.counted lines counted) c.in_ok-put_line.ensures.line
          (inv.text lines counted ∙ ap (λ (l : List (List ℕ)). flat_map (tenant_line plan lines) (take t l)) (sym inv.same.names_are))
          ∙ ap (λ (l : List (List ℕ)). flat_map (tenant_line plan lines) (take (t + 1) l)) inv.same.names_are;
      same = same_trans c.args.hosts.now c.tenant.hosts c.put_line.new.hosts inv.same c.in_ok-put_line.ensures.same;
      counted = λ lines counted. c.in_ok-put_line.ensures.kept plan lines (inv.counted lines counted);
    }
