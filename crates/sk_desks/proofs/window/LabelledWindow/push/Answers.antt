use Rattle.std.proofs.Common.{◌∷◌, [], ℕ, List, All, sym, ap, ◌∙◌, subst}
use Rattle.std.proofs.lemmas.List.Elements.{All-push}
use Rattle.sk_label.specs.declared.fault.LabelFault.{LabelFault}
use Rattle.sk_desks.specs.Entries.{LabelledState}
use Rattle.sk_desks.specs.Gathers.{IsOfTenant, StopsWithin}
use Rattle.sk_desks.proofs.ClerkLaws.{whole_line}
use Rattle.sk_desks.proofs.WentLaws.{stop_is}
use Rattle.sk_desks.proofs.WindowLaws.{refused_alone}
use Rattle.sk_desks.proofs.window.LabelledWindow.push.Goals as goal

pub returns-in_err-examine_line-clause-stopped : goal.returns-in_err-examine_line-clause-stopped
returns-in_err-examine_line-clause-stopped c =
    let line = c.args.line.now in let n = c.args.number in let f = c.in_err-examine_line.field-0.0 in
    stop_is (λ (x : LabelFault). StopsWithin c.args.self.now.names (line ∷ []) n x) f c.from_residual.result c.from_residual.ensures.1
    (subst (λ (ns : List (List ℕ)). StopsWithin ns (line ∷ []) n f) (ap (λ (s : LabelledState). s.names) c.self.view_is)
    (refused_alone c.self.inside.names.now line n f c.in_err-examine_line.ensures.refused))

pub invariant_of-self-2 : goal.invariant_of-self-2
invariant_of-self-2 c =
    let names = c.self.inside.names.now in let line = c.args.line.now in
    let fine : IsOfTenant names line = subst (IsOfTenant names) (whole_line line) c.in_ok-examine_line.ensures.fine in (
      subst (All (IsOfTenant names)) (sym c.in_ok-push_ended.ensures.lines) (All-push (IsOfTenant names) c.self.inside.window.lines line c.self.invariant.0 fine),
      c.push_ended.ensures.most ∙ c.self.invariant.1,
    )
