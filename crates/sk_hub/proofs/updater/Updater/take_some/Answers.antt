use Rattle.std.proofs.Common.{take, sym, ◌∙◌}
use Rattle.sk_hub.proofs.Each.{takes_filtered}
use Rattle.sk_hub.proofs.updater.Updater.take_some.Goals as goal

pub returns-clause-taken : goal.returns-clause-taken
returns-clause-taken g c =
    let k = g.C.Composable in
    takes_filtered k.keeps_of k.hint_of c.args.self.now c.put_each.new.self (take c.count_before_due-count.result c.args.items.now) (sym c.hint-hint.ensures.value ∙ c.hint-hint.ensures.hint) c.put_each.ensures
