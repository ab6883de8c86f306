use Rattle.std.proofs.Common.{◌∙◌, ◌++◌, sym}
use Rattle.std.proofs.lemmas.List.{append_assoc}
use Rattle.std.proofs.lemmas.Str.Pattern.{split_text_parts}
use Rattle.sk_typed.specs.declared.help.TheConstants.{USE}
use Rattle.sk_typed.proofs.Parts.{within}
use Rattle.sk_typed.proofs.help.part_of.Goals as goal

pub returns-then-begins : goal.returns-then-begins
returns-then-begins c =
    let cut = rw c.in-Some.is at (split_text_parts USE.now c.part.rest.now c.split_once.result c.split_once.ensures.cases) in
    within c.args.text.now c.part.rest.now c.first_part.result.now c.part.invariant.1 c.part.invariant.2
    (c.in-Some.field-0-0.now ++ USE.now) c.in-Some.behind.now
    (cut ∙ sym (append_assoc c.in-Some.field-0-0.now USE.now c.in-Some.behind.now)) c.first_part.ensures
