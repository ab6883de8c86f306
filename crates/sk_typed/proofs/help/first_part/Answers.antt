use Rattle.std.proofs.Common.{◌++◌}
use Rattle.std.proofs.lemmas.Str.Pattern.{split_text_parts}
use Rattle.sk_typed.specs.declared.help.TheConstants.{USE}
use Rattle.sk_typed.proofs.Parts.{whole, front_of}
use Rattle.sk_typed.proofs.help.first_part.Goals as goal

pub returns-in-Some : goal.returns-in-Some
returns-in-Some c =
    front_of c.args.text.now c.in-Some.part.now (USE.now ++ c.in-Some.field-0-1.now)
    (rw c.in-Some.is at (split_text_parts USE.now c.args.text.now c.split_once.result c.split_once.ensures.cases))

pub returns-in-None : goal.returns-in-None
returns-in-None c = whole c.args.text.now
