use Rattle.std.proofs.Common.{◌+◌, ◌-◌, ◌∷◌, length, take, drop, sym, ap, ◌∙◌, arith, length-drop}
use Rattle.std.proofs.lemmas.List.{take_all}
use Rattle.sk_core.specs.Texts.{fields_of}
use Rattle.sk_core.proofs.Fields.{cut_at, not_cut}
use Rattle.sk_core.proofs.text.cut.Goals as goal

pub returns-in-None : goal.returns-in-None
returns-in-None c = not_cut c.args.text.now (sym c.in-None.is ∙ c.space_at.ensures)

pub returns-in-Some : goal.returns-in-Some
returns-in-Some c =
    let text = c.args.text.now in
    let at = c.in-Some.at in
    let there = cut_at text at (sym c.in-Some.is ∙ c.space_at.ensures) in
    there.1 ∙ ap (λ l. take at text ∷ fields_of l) (sym (take_all (length text - (at + 1)) (drop (at + 1) text) (omega (arith, length-drop (at + 1) text))))
