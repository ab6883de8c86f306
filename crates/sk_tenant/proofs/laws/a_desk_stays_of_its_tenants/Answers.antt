use Rattle.sk_tenant.proofs.Done.{desk_stays, stays_of_tenants}
use Rattle.sk_tenant.proofs.laws.a_desk_stays_of_its_tenants.Goals as goal

pub returns-clause-same : goal.returns-clause-same
returns-clause-same c = desk_stays

pub returns-clause-tenants : goal.returns-clause-tenants
returns-clause-tenants c = stays_of_tenants
