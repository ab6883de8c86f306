use Rattle.std.proofs.Common.{◌≡◌, ◌≢◌, ◌⊎◌, inl, inr, sym, ◌∙◌}
use Rattle.sk_hub.specs.declared.answers.Update.{Update}
use Rattle.sk_hub.specs.declared.answers.Update.TheVariants as update
use Rattle.sk_hub.proofs.Calls.{offered, none_in_vain, not_busy}
use Rattle.uses.proofs.feeding.offer.Goals as goal

taken : (r : Update) → (r ≡ update.Filtered) ⊎ ((r ≡ update.Kept) ⊎ (r ≡ update.Handed)) → r ≢ update.Busy
taken r (inl filtered) busy = cc
taken r (inr accepted) busy = not_busy r accepted busy

pub returns-in-Busy-clause-busy : goal.returns-in-Busy-clause-busy
returns-in-Busy-clause-busy g c = none_in_vain c.args.updater.now c.update.new.self (c.update.ensures.busy c.in-Busy.is)

pub returns-in-Filtered : goal.returns-in-Filtered
returns-in-Filtered g c =
    let k = g.C.Composable in let n = c.update.ensures in record {
      taken = offered k.keeps_of k.early_of k.hint_of c.args.updater.now c.update.new.self c.args.item c.update.result (sym c.hint-hint.ensures.value ∙ c.hint-hint.ensures.hint) n.filtered.0 n.unchanged n.kept n.handed n.grows (taken c.update.result c.in-Filtered.is);
      busy = tt;
    }
