use Rattle.sk_heap.proofs.Walks.{run_is}
use Rattle.sk_heap.proofs.table.run_after.Goals as goal

pub returns : goal.returns
returns c =
    run_is c.args.table.now c.args.start c.seek_round-end.result c.steps_to.result c.requires.gap c.seek_round-end.ensures c.steps_to.ensures.within c.steps_to.ensures.reaches
