use Rattle.std.proofs.Common.{refl}
use Rattle.sk_desks.proofs.Taking.{takes_no_line}
use Rattle.sk_desks.proofs.command.read_with.Goals as goal

pub read_labelled-requires-clause-start : goal.read_labelled-requires-clause-start
read_labelled-requires-clause-start g c =
    let clerk = c.args.clerk.now in record { unused = c.requires.unused; took = takes_no_line clerk.plan.seed clerk.desk.now; plan_stays = refl }
