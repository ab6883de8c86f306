use Rattle.sk_tenant.proofs.Standing.{taken_when_asked}
use Rattle.sk_tenant.proofs.tenants.Tenants.ask.Goals as goal

pub returns-clause-taken_in : goal.returns-clause-taken_in
returns-clause-taken_in c =
    taken_when_asked _ c.args.self.now c.args.t c.ask.result c.index_mut-heart.result.now c.ask.new.self c.self.view_is c.requires.place c.index_mut-heart.ensures.value c.ask.ensures.reply
