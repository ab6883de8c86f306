use Rattle.std.proofs.Common.{map}
use Rattle.sk_tenant.specs.Names.{HasNoSpace}
use Rattle.sk_tenant.proofs.Places.{found_here, none_if}
use Rattle.sk_tenant.proofs.names.sought_plain.Goals as goal

pub returns-else-contains-clause-found : goal.returns-else-contains-clause-found
returns-else-contains-clause-found c = found_here c.sought.result (map (λ own. own.items) c.args.names.now.keys) c.args.name.now c.sought.ensures

pub returns-else-contains-clause-none : goal.returns-else-contains-clause-none
returns-else-contains-clause-none c = none_if c.sought.result (map (λ own. own.items) c.args.names.now.keys) c.args.name.now (HasNoSpace c.args.name.now) c.sought.ensures
