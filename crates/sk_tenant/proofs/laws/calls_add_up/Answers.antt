use Rattle.sk_tenant.proofs.Done.{none_done, one_more_done, all_done}
use Rattle.sk_tenant.proofs.laws.calls_add_up.Goals as goal

pub returns-clause-none : goal.returns-clause-none
returns-clause-none c = none_done

pub returns-clause-one_more : goal.returns-clause-one_more
returns-clause-one_more c = one_more_done

pub returns-clause-all : goal.returns-clause-all
returns-clause-all c = all_done
