use Rattle.sk_panes.proofs.Smallest.{of_none}
use Rattle.sk_panes.proofs.candidates.Candidates.hand_to.Goals as goal

pub returns-clause-none : goal.returns-clause-none
returns-clause-none g c = of_none c.self.inside.k c.clear.new.self.items c.clear.ensures.items
