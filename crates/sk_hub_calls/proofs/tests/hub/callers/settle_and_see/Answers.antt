use Rattle.std.proofs.Common.{ap, sym, ◌∙◌}
use Rattle.sk_model.specs.Entries.{entries_by}
use Rattle.sk_gate.specs.Views.{mine_of}
use Rattle.sk_hub_calls.proofs.tests.hub.callers.settle_and_see.Goals as goal

pub returns-clause-settled : goal.returns-clause-settled
returns-clause-settled g c is = let r = c.settle-answer.ensures.settled is in
    ap (λ n. entries_by n c.settle-answer.new.self.view.seen) (ap (λ u. u.number) r.state) ∙ r.renewed.sees_all ∙ sym (ap (λ v. (mine_of v).handed) r.view)
