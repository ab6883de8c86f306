use Rattle.std.proofs.Common.{◌≡◌, Bool, true, false, refl, sym, ◌∙◌}
use Rattle.sk_tenant.specs.Calls.{theta_keeps}
use Rattle.uses.proofs.tenants.offer_if_kept.Goals as goal

kept : (keeps : Bool) → (keeps ≡ false → ⊥) → keeps ≡ true
kept true never = refl
kept false never = absurd (never refl)

pub returns-then-filters : goal.returns-then-filters
returns-then-filters g c = λ u is below. (
  λ never. cc,
  λ keeps.
      let filtered : theta_keeps u.hint c.args.item ≡ false = ((c.filters.ensures.exact u is).0 c.if-filters.true).filtered in
      let never : true ≡ false = sym keeps ∙ filtered in cc,
)

pub returns : goal.returns
returns g c = λ u is below. (
  λ offered. kept (theta_keeps u.hint c.args.item) (λ filtered.
      let filters : c.filters.result ≡ true = (c.filters.ensures.exact u is).1 (record { below = below; filtered = filtered }) in
      let never : true ≡ false = sym filters ∙ c.if-filters.false in cc),
  λ keeps. refl,
)
