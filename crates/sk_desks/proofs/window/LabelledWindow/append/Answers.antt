use Rattle.std.proofs.lemmas.Result.{on_ok_weaker}
use Rattle.std.proofs.Common.{◌≡◌, ℕ, List, All, drop, sym, ap, ◌∙◌, subst}
use Rattle.std.proofs.lemmas.List.{drop_at}
use Rattle.std.proofs.lemmas.List.Elements.{All-append}
use Rattle.sk_model.specs.Lines.{lines_of}
use Rattle.sk_desks.specs.Entries.{LabelledState}
use Rattle.sk_desks.specs.Gathers.{IsOfTenant}
use Rattle.sk_desks.proofs.WindowLaws.{ok_of}
use Rattle.sk_desks.proofs.window.LabelledWindow.append.Goals as goal

pub invariant_of-self-else-is_err : goal.invariant_of-self-else-is_err
invariant_of-self-else-is_err c =
    let names = c.self.inside.names.now in let old = c.self.inside.window.lines in let group = lines_of c.args.run.now in
    let lines = c.in_ok-push_run.ensures.lines in
    let rest : drop c.len-place.result c.push_run.new.self.lines ≡ group = ap (drop c.len-place.result) lines ∙ drop_at old group c.len-place.result (sym c.len-place.ensures.value) in
    let fine : All (IsOfTenant names) group = subst (All (IsOfTenant names)) rest (ok_of c.examine_from-fine.result (sym c.is_err.ensures.value ∙ c.if-is_err.false) c.examine_from-fine.ensures.fine) in (
      subst (All (IsOfTenant names)) (sym lines) (All-append (IsOfTenant names) old group c.self.invariant.0 fine),
      c.push_run.ensures.most ∙ c.self.invariant.1,
    )

pub returns-else-is_err-clause-fine : goal.returns-else-is_err-clause-fine
returns-else-is_err-clause-fine c =
    let old = c.self.inside.window.lines in let group = lines_of c.args.run.now in
    let rest : drop c.len-place.result c.push_run.new.self.lines ≡ group = ap (drop c.len-place.result) c.in_ok-push_run.ensures.lines ∙ drop_at old group c.len-place.result (sym c.len-place.ensures.value) in
    on_ok_weaker c.examine_from-fine.result
    (λ fine. subst (λ (ns : List (List ℕ)). All (IsOfTenant ns) group) (ap (λ (s : LabelledState). s.names) c.self.view_is) (subst (All (IsOfTenant c.self.inside.names.now)) rest fine)) c.examine_from-fine.ensures.fine
