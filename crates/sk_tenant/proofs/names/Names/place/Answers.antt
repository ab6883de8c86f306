use Rattle.std.proofs.Common.{◌≡◌, map, slice_get, Some, subst, ap, ◌∙◌}
use Rattle.sk_tenant.specs.Names.{AreDifferent, place_of}
use Rattle.sk_tenant.proofs.Places.{its_place, found_here, none_here}
use Rattle.sk_tenant.proofs.names.Names.place.Goals as goal

pub returns-in-Some-clause-value : goal.returns-in-Some-clause-value
returns-in-Some-clause-value c =
    let names = c.args.self.now in let name = c.args.name.now in
    let shared = ap (λ t. map (λ own. own.items) t.names.keys) c.deref-table.ensures ∙ c.self.view_is in
    its_place names name c.in-Some.t (subst AreDifferent c.self.view_is c.self.invariant.1) (subst (λ l. slice_get l c.in-Some.t ≡ Some name) shared c.in-Some.ensures.place)

pub returns-in-None-clause-value : goal.returns-in-None-clause-value
returns-in-None-clause-value c =
    c.sought.ensures ∙ ap (λ t. place_of (map (λ own. own.items) t.names.keys) c.args.name.now) c.deref-table.ensures
    ∙ ap (λ names. place_of names c.args.name.now) c.self.view_is

pub returns-in-None-clause-found : goal.returns-in-None-clause-found
returns-in-None-clause-found c = found_here c.sought.result c.args.self.now c.args.name.now (returns-in-None-clause-value c)

pub returns-in-None-clause-none : goal.returns-in-None-clause-none
returns-in-None-clause-none c = none_here c.sought.result c.args.self.now c.args.name.now (returns-in-None-clause-value c)
