use Rattle.std.proofs.Common.{ap, sym, subst, ◌∙◌}
use Rattle.sk_gate.specs.Moves.{IsSeen}
use Rattle.sk_gate.proofs.Merging.{merges_by}
use Rattle.sk_gate.proofs.merge.merge_batch.Goals as goal

pub returns-clause-merged : goal.returns-clause-merged
returns-clause-merged g c = let k = g.C.Composable in merges_by k.hint_of k.packed_of c.args.seat.now.view c.publish.new.self.view c.put.new.self.view c.give_back.new.self.view c.args.i c.publish.ensures.told (ap (λ s. s.view) c.put.ensures.seat) c.give_back.ensures.told

pub returns-clause-seen : goal.returns-clause-seen
returns-clause-seen g c = subst (IsSeen c.args.seat.now.view) (sym (ap (λ v. v.seen) c.give_back.ensures.told ∙ ap (λ s. s.view.seen) c.put.ensures.seat)) c.publish.ensures.seen
