use Rattle.std.proofs.Common.{◌≡◌, [], ℕ, List, refl, subst}
use Rattle.sk_label.specs.declared.fault.LabelFault.{LabelFault}
use Rattle.sk_label.specs.declared.fault.LabelFault.TheVariants as label
use Rattle.sk_desks.specs.Gathers.{Gathers}
use Rattle.sk_desks.proofs.GatherLaws.{gathers_not}
use Rattle.sk_desks.proofs.StretchLaws.{none_on_err, no_memory, gathers_then_none}
use Rattle.sk_desks.proofs.stretch.gather_more.Goals as goal

pub returns-in_err-spare-clause-gathers : goal.returns-in_err-spare-clause-gathers
returns-in_err-spare-clause-gathers g c =
    let left = g.S.Source.left c.args.source.now in let names = c.args.gatherer.now.names.now in let r = c.args.gatherer.now.reader in let result = c.from_residual.result in (
      [],
      none_on_err _ result (λ (x : LabelFault). x ≡ label.OutOfMemory) c.from_residual.ensures.1,
      gathers_not names r r left left [] refl result label.OutOfMemory c.from_residual.ensures.1 (λ same. cc) (no_memory names r left),
    )

pub returns-in_err-push-clause-gathers : goal.returns-in_err-push-clause-gathers
returns-in_err-push-clause-gathers g c =
    let old = g.S.Source.left c.args.source.now in let new = g.S.Source.left c.gather_window.new.source in
    let names = c.args.gatherer.now.names.now in let r = c.args.gatherer.now.reader in let s = c.gather_window.new.reader in
    let lines = c.gather_window.new.window.lines in let result = c.from_residual-in_err-push.result in (
      lines,
      none_on_err _ result (λ (x : LabelFault). x ≡ label.OutOfMemory) c.from_residual-in_err-push.ensures.1,
      gathers_then_none names lines lines r s old new c.in_ok-full.full c.gather_window.result result
          (subst (λ (ns : List (List ℕ)). Gathers ns r s old new lines c.gather_window.result) c.of-window.ensures.names c.gather_window.ensures.gathers) c.in_ok-full.was c.from_residual-in_err-push.ensures.1,
    )
