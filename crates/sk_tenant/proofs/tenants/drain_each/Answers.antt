use Rattle.std.proofs.Common.{◌≡◌, ℕ, ◌<◌, ◌++◌, ◌∷◌, [], length, get_or, set, subst, sym, ap, ◌∙◌, arith}
use Rattle.std.proofs.lemmas.List.{get_or_default}
use Rattle.sk_hub.specs.Drains.{IsDrained}
use Rattle.sk_hub.specs.Hearts.{HeartState}
use Rattle.sk_hub.specs.Updaters.{UpdaterState}
use Rattle.sk_tenant.proofs.FromEnd.{ChangedFrom, one_changed, one_fewer, last_is, rest_begins, is_inside}
use Rattle.sk_tenant.proofs.tenants.drain_each.Goals as goal

pub last-preserved : goal.last-preserved
last-preserved g c =
    let i = c.last.invariant in let us = c.args.updaters.items in let left = c.last.updaters.items in let rest = c.pop.new.self.items in let u = c.in-Some.updater in
    let old = c.args.hearts.now.items in let mid = c.last.hearts.items in let now = c.index_mut.result.now in let r = length rest in
    let is : left ≡ rest ++ u ∷ [] = c.in-Some.ensures.items in
    let n : c.len.result ≡ r = c.len.ensures ∙ c.pop.new.self.ok.0 in
    let within : r < length old = omega (arith, is_inside us left rest u i.left is, c.requires.count) in
    let here : (d : HeartState) → now ≡ get_or old r d = λ d.
    c.index_mut.ensures.value ∙ ap (λ j. get_or mid j now) n ∙ i.drained.before r now (omega (arith, one_fewer left rest u is)) ∙ get_or_default old r now d within in
    let R : ℕ → HeartState → HeartState → Type 0 = λ t h h'. (v : UpdaterState) → IsDrained h (get_or us t v) h' in
    let this : (d : HeartState) → R r (get_or old r d) c.drain_one.new.heart = λ d v.
    subst (λ w. IsDrained (get_or old r d) w c.drain_one.new.heart) (sym (last_is us left rest u v i.left is))
    (subst (λ h. IsDrained h u c.drain_one.new.heart) (here d) c.drain_one.ensures) in record {
      left = rest_begins us left rest u i.left is;
      drained = subst (λ j. ChangedFrom R r old (set mid j c.drain_one.new.heart)) (sym n) (one_changed R r (length left) old mid c.drain_one.new.heart (one_fewer left rest u is) within i.drained this);
    }

pub returns : goal.returns
returns g c =
    let none : length c.last.updaters.items ≡ 0 = sym c.last.updaters.ok.0 ∙ c.in_default.ensures.cases.0 in
    record {
      count = c.last.invariant.drained.count;
      drains = λ t h u within. c.last.invariant.drained.after t h (omega (arith, none)) within u;
    }
