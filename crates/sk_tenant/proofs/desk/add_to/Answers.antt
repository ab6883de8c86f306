use Rattle.std.proofs.Common.{◌≡◌, sym, ◌∙◌, arith}
use Rattle.sk_hub.specs.Updaters.{base_of}
use Rattle.sk_hub.proofs.Calls.{offered, not_busy}
use Rattle.sk_feed.proofs.Calls.{was_filtered, was_accepted}
use Rattle.sk_tenant.specs.Calls.{theta_keeps, theta_hint, theta_early, by_theta}
use Rattle.sk_tenant.proofs.desk.add_to.Goals as goal

pub returns-in-Filtered : goal.returns-in-Filtered
returns-in-Filtered c =
    let u = c.args.updater.now in let u' = c.update.new.self in let n = c.update.ensures in
    let hint : u.hint ≡ theta_hint u.view.numbers (base_of u) = sym c.hint-hint.ensures.value ∙ c.hint-hint.ensures.hint in (
      record { below = omega (arith, c.requires.within, c.taken.ensures.value, c.if-taken-quota.false); is_item = c.requires.item },
      record {
        filters = was_filtered by_theta u u' c.args.item c.update.result n.filtered n.unchanged c.in-Filtered.is;
        takes = offered theta_keeps theta_early theta_hint u u' c.args.item c.update.result hint n.filtered.0 n.unchanged n.kept n.handed n.grows (λ busy. let is = c.in-Filtered.is in cc);
      },
    )

pub returns-in-Kept : goal.returns-in-Kept
returns-in-Kept c =
    let u = c.args.updater.now in let u' = c.update.new.self in let n = c.update.ensures in
    let hint : u.hint ≡ theta_hint u.view.numbers (base_of u) = sym c.hint-hint.ensures.value ∙ c.hint-hint.ensures.hint in (
      record { below = omega (arith, c.requires.within, c.taken.ensures.value, c.if-taken-quota.false); is_item = c.requires.item },
      record {
        accepts = was_accepted by_theta u u' c.args.item c.update.result n.filtered n.kept n.handed c.in-Kept.is;
        kept = n.grows c.in-Kept.is;
        takes = offered theta_keeps theta_early theta_hint u u' c.args.item c.update.result hint n.filtered.0 n.unchanged n.kept n.handed n.grows (not_busy c.update.result c.in-Kept.is);
      },
    )
