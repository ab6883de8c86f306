use Rattle.std.proofs.Common.{arith}
use Rattle.std.proofs.lemmas.Str.Pattern.{split_parts}
use Rattle.sk_cli.proofs.ValueLaws.{parts_none, parts_cut}
use Rattle.sk_cli.proofs.values.first_part.Goals as goal

pub returns-in-Some : goal.returns-in-Some
returns-in-Some c =
    let cut = rw c.in-Some.is at (split_parts 44 c.args.word.now c.split_once.result c.split_once.ensures.cases (omega arith)) in
    parts_cut c.args.word.now c.in-Some.part.now c.in-Some.rest.now cut.0 cut.1

pub returns-in-None : goal.returns-in-None
returns-in-None c =
    let none = rw c.in-None.is at (split_parts 44 c.args.word.now c.split_once.result c.split_once.ensures.cases (omega arith)) in
    parts_none c.args.word.now none
