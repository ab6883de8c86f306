use Rattle.std.proofs.Common.{◌≤◌, subst}
use Rattle.sk_panes.specs.Candidates.{CandidatesState}
use Rattle.sk_panes.proofs.Smallest.{passed_by}
use Rattle.sk_panes.proofs.candidates.Candidates.add.Goals as goal

pub returns-else-item-self-clause-smallest : goal.returns-else-item-self-clause-smallest
returns-else-item-self-clause-smallest c =
    let past : c.args.self.now.bound ≤ c.args.item = subst (λ (s : CandidatesState). s.bound ≤ c.args.item) c.self.view_is c.if-item-self.false in
    λ items all have. passed_by c.args.self.now c.args.item items all c.requires.item past have
