use Rattle.std.proofs.Common.{sym, ap, subst}
use Rattle.std.proofs.lemmas.Result.{IfOk-weaker}
use Rattle.sk_lanes.specs.Lanes.{HaveRunWith, TakeAll}
use Rattle.sk_lanes.proofs.LaneLaws.{ran_pairs, ran_same, ran_behind, ran_took}
use Rattle.sk_lanes.proofs.lanes.finish.Goals as goal

pub finish_each-requires-clause-same : goal.finish_each-requires-clause-same
finish_each-requires-clause-same g c =
    let k = g.T.TakesStretches in let ran = c.requires.ran in let lanes = c.args.crewed.lanes.items in
    let run = subst (HaveRunWith (k.took c.args.kind) k.keeps_at_most ran.0 ran.1 lanes) (sym (ap (λ s. s.outlets) c.supply.view_is)) ran.2 in
    ran_same (k.took c.args.kind) k.keeps_at_most ran.0 ran.1 lanes lanes c.supply.inside.outlets.items run

pub finish_each-requires-clause-pairs : goal.finish_each-requires-clause-pairs
finish_each-requires-clause-pairs g c =
    let k = g.T.TakesStretches in let ran = c.requires.ran in let lanes = c.args.crewed.lanes.items in
    let run = subst (HaveRunWith (k.took c.args.kind) k.keeps_at_most ran.0 ran.1 lanes) (sym (ap (λ s. s.outlets) c.supply.view_is)) ran.2 in
    ran_pairs (k.took c.args.kind) k.keeps_at_most ran.0 ran.1 lanes lanes c.supply.inside.outlets.items run

pub finish_each-requires-clause-behind : goal.finish_each-requires-clause-behind
finish_each-requires-clause-behind g c =
    let k = g.T.TakesStretches in let ran = c.requires.ran in let lanes = c.args.crewed.lanes.items in
    ran_behind (k.took c.args.kind) k.keeps_at_most ran.0 ran.1 lanes lanes c.args.supply.outlets ran.2

pub returns : goal.returns
returns g c =
    let k = g.T.TakesStretches in let lanes = c.args.crewed.lanes.items in let lanes' = c.finish_each.new.lanes.items in
    record {
      took = IfOk-weaker c.takers_of.result _ _
          (λ takers is old windows run. subst (TakeAll (k.took c.args.kind) windows old) (sym is)
          (ran_took (k.took c.args.kind) k.keeps_at_most old windows lanes lanes' c.supply.inside.outlets.items
          (subst (HaveRunWith (k.took c.args.kind) k.keeps_at_most old windows lanes) (sym (ap (λ s. s.outlets) c.supply.view_is)) run) c.in_ok-finish_each.ensures))
          c.takers_of.ensures;
    }
