use Rattle.sk_read.proofs.DelimiterLaws.{first_marked, knows_behind}
use Rattle.sk_read.proofs.records.delimiters.take_mark.Goals as goal

pub returns-clause-next : goal.returns-clause-next
returns-clause-next c =
    let mark = c.lowest_mark-mark.ensures in
    first_marked c.args.text.now c.args.at c.args.ahead c.lowest_mark-mark.result c.requires.known mark.set mark.below

pub returns-clause-known : goal.returns-clause-known
returns-clause-known c =
    let mark = c.lowest_mark-mark.ensures in
    let left = c.without_mark.ensures in
    knows_behind c.args.text.now c.args.at c.args.ahead c.without_mark.result c.lowest_mark-mark.result c.requires.known mark.set mark.below left.kept left.cleared left.no_more
