use Rattle.std.proofs.Common.{sym, ◌∙◌}
use Rattle.sk_feed.specs.Calls.{filter_of}
use Rattle.sk_hub.proofs.Each.{busy_with}
use Rattle.sk_feed.proofs.Calls.{was_filtered, was_accepted}
use Rattle.sk_hub.proofs.Calls.{offered}
use Rattle.sk_feed.proofs.feed.offer.Goals as goal

pub returns-clause-taken : goal.returns-clause-taken
returns-clause-taken g c =
    let k = g.C.Composable in let n = c.update.ensures in
    offered k.keeps_of k.early_of k.hint_of c.args.u.now c.update.new.self c.args.item c.update.result (sym c.hint-hint.ensures.value ∙ c.hint-hint.ensures.hint) n.filtered.0 n.unchanged n.kept n.handed n.grows

pub returns-clause-busy : goal.returns-clause-busy
returns-clause-busy g c = λ busy.
    let k = g.C.Composable in let n = c.update.ensures in
    busy_with k.keeps_of c.args.u.now c.update.new.self c.args.item c.update.result n.filtered busy (n.full busy) (n.busy busy)

pub returns-clause-filtered : goal.returns-clause-filtered
returns-clause-filtered g c = λ is.
    let k = g.C.Composable in let n = c.update.ensures in
    was_filtered (filter_of k.keeps_of k.early_of k.hint_of) c.args.u.now c.update.new.self c.args.item c.update.result n.filtered n.unchanged is

pub returns-clause-accepted : goal.returns-clause-accepted
returns-clause-accepted g c = λ is.
    let k = g.C.Composable in let n = c.update.ensures in
    was_accepted (filter_of k.keeps_of k.early_of k.hint_of) c.args.u.now c.update.new.self c.args.item c.update.result n.filtered n.kept n.handed is
