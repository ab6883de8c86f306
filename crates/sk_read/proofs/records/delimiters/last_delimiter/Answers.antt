use Rattle.std.proofs.Common.{◌-◌, length, drop, arith, length-drop}
use Rattle.std.proofs.lemmas.List.{take_all}
use Rattle.sk_read.proofs.DelimiterLaws.{found, not_found}
use Rattle.sk_read.proofs.records.delimiters.last_delimiter.Goals as goal

pub returns-in-Some : goal.returns-in-Some
returns-in-Some c =
    let text = c.args.text.now in
    let at = c.args.at in
    found text at c.requires _ (take_all (length text - at) (drop at text) (omega (arith, length-drop at text))) c.in-Some.place c.in-Some.ensures.0 c.in-Some.ensures.1

pub returns-in-None : goal.returns-in-None
returns-in-None c =
    let text = c.args.text.now in
    let at = c.args.at in
    not_found text at c.requires _ (take_all (length text - at) (drop at text) (omega (arith, length-drop at text))) c.in-None.ensures
