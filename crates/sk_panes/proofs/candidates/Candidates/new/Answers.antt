use Rattle.sk_panes.proofs.Smallest.{of_none}
use Rattle.sk_panes.proofs.candidates.Candidates.new.Goals as goal

pub returns-clause-none : goal.returns-clause-none
returns-clause-none c = of_none c.args.k c.in_ok-with_capacity.field-0.items c.in_ok-with_capacity.ensures.items
