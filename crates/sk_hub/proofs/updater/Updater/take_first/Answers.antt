use Rattle.std.proofs.Common.{sym, ◌∙◌}
use Rattle.sk_hub.proofs.Calls.{offered}
use Rattle.sk_hub.proofs.Each.{busy_takes, busy_with}
use Rattle.sk_hub.proofs.updater.Updater.take_first.Goals as goal

pub returns-in-Busy-clause-none : goal.returns-in-Busy-clause-none
returns-in-Busy-clause-none g c = λ _. let k = g.C.Composable in busy_takes k.keeps_of k.hint_of c.args.self.now c.update.new.self (c.update.ensures.busy c.in-Busy.is)

pub returns-in-Busy-clause-busy : goal.returns-in-Busy-clause-busy
returns-in-Busy-clause-busy g c = λ _.
    let n = c.update.ensures in
    busy_with g.C.Composable.keeps_of c.args.self.now c.update.new.self c.args.item c.update.result n.filtered c.in-Busy.is (n.full c.in-Busy.is) (n.busy c.in-Busy.is)

pub returns-in_default-clause-taken : goal.returns-in_default-clause-taken
returns-in_default-clause-taken g c = λ _.
    let k = g.C.Composable in let n = c.update.ensures in
    offered k.keeps_of k.early_of k.hint_of c.args.self.now c.update.new.self c.args.item c.update.result (sym c.hint-hint.ensures.value ∙ c.hint-hint.ensures.hint) n.filtered.0 n.unchanged n.kept n.handed n.grows c.in_default.not-Busy
