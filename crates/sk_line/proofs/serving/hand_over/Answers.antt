use Rattle.std.proofs.Common.{◌≡◌, [], inl, inr, sym, ap, ◌∙◌, subst}
use Rattle.sk_hub.specs.Updaters.{UpdaterState}
use Rattle.sk_hub.specs.Calls.{KeepsNone}
use Rattle.sk_hub.specs.declared.answers.Flush.TheVariants as flush
use Rattle.sk_hub.proofs.Calls.{none_refl, none_handed, fill_handed}
use Rattle.sk_line.proofs.serving.hand_over.Goals as goal

pub returns-in-Busy : goal.returns-in-Busy
returns-in-Busy g c =
    let n = c.flush.ensures in
    record { handed = tt; busy = record { some = λ none. let empty : c.flush.result ≡ flush.Empty = n.empty.1 none in cc; look = n.busy c.in-Busy.is } }

pub returns-in-Empty : goal.returns-in-Empty
returns-in-Empty g c =
    let n = c.flush.ensures in let u = c.args.u.now in let v = c.flush.new.self in let hint = g.C.Composable.hint_of in
    let handed : KeepsNone u v × (v.fill ≡ []) = elim c.in-Empty.is [
      | inl empty ↦ (subst (KeepsNone u) (sym (n.unchanged empty)) (none_refl u), ap (λ (z : UpdaterState). z.fill) (n.unchanged empty) ∙ n.empty.0 empty)
      | inr handed ↦ (none_handed hint u v (n.handed handed), fill_handed hint u v (n.handed handed))
    ] in
    record { handed = handed; busy = tt }
