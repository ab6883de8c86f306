use Rattle.sk_heap.proofs.Round.{steps_reach}
use Rattle.sk_heap.proofs.table.steps_to.Goals as goal

pub returns-clause-reaches : goal.returns-clause-reaches
returns-clause-reaches c = rw (c.place-2.ensures, c.place.ensures) (steps_reach c.args.len c.args.from c.args.at c.requires.within)
