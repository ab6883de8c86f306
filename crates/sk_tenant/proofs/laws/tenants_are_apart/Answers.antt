use Rattle.sk_tenant.proofs.Done.{lone_on_desk}
use Rattle.sk_tenant.proofs.laws.tenants_are_apart.Goals as goal

pub returns-clause-lone : goal.returns-clause-lone
returns-clause-lone c = lone_on_desk
