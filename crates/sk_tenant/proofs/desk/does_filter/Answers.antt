use Rattle.std.proofs.Common.{◌≡◌, ◌==◌, ℕ, Bool, true, false, not, refl, sym, ap, ◌∙◌, arith}
use Rattle.std.proofs.lemmas.Bool.{eq-eqb}
use Rattle.sk_hub.specs.Updaters.{base_of}
use Rattle.sk_tenant.specs.Calls.{theta_keeps, theta_hint}
use Rattle.sk_tenant.proofs.Owed.{owes_nothing}
use Rattle.sk_tenant.proofs.desk.does_filter.Goals as goal

dropped : (kept : Bool) → not kept ≡ true → kept ≡ false
dropped true drops = sym drops
dropped false drops = refl

pub returns-then-taken-quota-clause-owes : goal.returns-then-taken-quota-clause-owes
returns-then-taken-quota-clause-owes c = λ drops.
    let u = c.args.updater.now in
    let hint : u.hint ≡ theta_hint u.view.numbers (base_of u) = sym c.hint.ensures.value ∙ c.hint.ensures.hint in
    let drops : theta_keeps u.hint c.args.item ≡ false = ap (λ (h : ℕ). theta_keeps h c.args.item) (sym c.hint.ensures.value) ∙ sym c.keeps.ensures.value ∙ dropped c.keeps.result drops in
    owes_nothing c.args.quota u c.args.item c.requires.item (omega (arith, c.requires.within, c.taken.ensures.value, c.if-taken-quota.true)) hint drops

pub returns-then-taken-quota-clause-exact : goal.returns-then-taken-quota-clause-exact
returns-then-taken-quota-clause-exact c =
    let u = c.args.updater.now in
    let kept : c.keeps.result ≡ theta_keeps u.hint c.args.item = c.keeps.ensures.value ∙ ap (λ (h : ℕ). theta_keeps h c.args.item) c.hint.ensures.value in (
      λ drops. record { below = omega (arith, c.requires.within, c.taken.ensures.value, c.if-taken-quota.true); filtered = sym kept ∙ dropped c.keeps.result drops },
      λ is. ap not (kept ∙ is.filtered),
    )

pub returns-else-taken-quota-clause-exact : goal.returns-else-taken-quota-clause-exact
returns-else-taken-quota-clause-exact c = (
  λ is.
      let equal : (c.taken.result == c.args.quota) ≡ true = eq-eqb c.taken.result c.args.quota (omega (arith, c.if-taken-quota.false)) in
      let never : true ≡ false = sym is ∙ ap not equal in cc,
  λ is. absurd (omega (arith, is.below, c.taken.ensures.value, c.if-taken-quota.false)),
)
