use Rattle.std.proofs.Common.{rules}
use Rattle.sk_tenant.proofs.Clearing.{read_ends}
use Rattle.sk_tenant.proofs.ends.Ends.read.Goals as goal

pub returns : goal.returns
returns c = read_ends c.args.text.now c.args.at c.args.reach c.cleared.result c.cleared-2.result c.requires.reach c.requires.within c.requires.room (search rules) (search rules) c.cleared.ensures c.cleared-2.ensures
