use Rattle.sk_tenant.proofs.Owed.{lone_takes, lone_items, lone_few}
use Rattle.sk_tenant.proofs.laws.lone_calls_take_items.Goals as goal

pub returns-clause-taken : goal.returns-clause-taken
returns-clause-taken c = lone_takes

pub returns-clause-items : goal.returns-clause-items
returns-clause-items c = lone_items

pub returns-clause-few : goal.returns-clause-few
returns-clause-few c = lone_few
