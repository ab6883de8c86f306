use Rattle.std.proofs.Common.{◌≡◌, ◌-◌, ℕ, List, take, sym, ap, ◌∙◌, arith, rules}
use Rattle.std.proofs.lemmas.List.{take_all}
use Rattle.sk_model.specs.Lines.{lines_of}
use Rattle.sk_desks.specs.Entries.{LabelledState}
use Rattle.sk_desks.proofs.window.LabelledWindow.is_text.Goals as goal

pub returns-in-Some-clause-lines : goal.returns-in-Some-clause-lines
returns-in-Some-clause-lines c = λ same.
    let lines : List (List ℕ) = c.self.inside.window.lines in
    let is : c.in-Some.run'.now ≡ c.args.text.now = search rules in
    let n : ℕ = c.len.result in
    let all : n - 0 ≡ n = omega arith in
    ap lines_of (sym is) ∙ c.in-Some.ensures.lines ∙ ap (λ (k : ℕ). take k lines) all ∙ take_all n lines (omega (arith, c.len.ensures.value)) ∙ ap (λ (w : LabelledState). w.lines) c.self.view_is
