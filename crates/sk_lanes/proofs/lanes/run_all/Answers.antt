use Rattle.std.proofs.Common.{◌≡◌, length, drop, sym, subst, arith}
use Rattle.std.proofs.lemmas.List.{take_at}
use Rattle.sk_lanes.specs.Lanes.{HaveRun}
use Rattle.sk_lanes.proofs.lanes.run_all.Goals as goal

pub returns : goal.returns
returns g c =
    let k = g.T.TakesStretches in let ls = c.as_mut_slice.result.now in let ls' = c.run_each.new.lanes in let items = c.args.lanes.now.items in
    let len : length ls' ≡ c.args.lanes.now.len = omega (arith, c.run_each.auto.lanes, c.as_mut_slice.ensures.len) in
    subst (λ l. HaveRun (k.took c.args.kind) k.keeps_at_most items l) (sym (take_at ls' (drop (length ls') items) c.args.lanes.now.len len))
    (subst (λ l. HaveRun (k.took c.args.kind) k.keeps_at_most l ls') c.as_mut_slice.ensures.value c.run_each.ensures)
