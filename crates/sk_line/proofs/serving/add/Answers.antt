use Rattle.std.proofs.Common.{ℕ, [], ◌∷◌, ◌++◌, ap, ◌∙◌}
use Rattle.sk_hub.specs.Updaters.{kept_of}
use Rattle.sk_hub.proofs.Calls.{offered, not_busy}
use Rattle.sk_line.proofs.serving.add.Goals as goal

pub returns-in-Kept : goal.returns-in-Kept
returns-in-Kept g c =
    let k = g.C.Composable in let n = c.update.ensures in
    record {
      goes = (offered k.keeps_of k.early_of k.hint_of c.args.u.now c.update.new.self c.hash63.result c.update.result c.number-number.ensures.whole.hint_is n.filtered.0 n.unchanged n.kept n.handed n.grows (not_busy c.update.result c.in-Kept.is)).goes;
      kept = n.grows c.in-Kept.is ∙ ap (λ (item : ℕ). kept_of c.args.u.now ++ item ∷ []) c.hash63.ensures.value;
    }
