use Rattle.std.proofs.Common.{◌≡◌, true, false, not, length, ◌++◌, ◌∷◌, [], map, string_bytes, Contains, refl, sym, ap, subst, ◌∙◌, append_assoc}
use Rattle.std.specs.List.{list_any}
use Rattle.std.specs.Str.{bytes_eq}
use Rattle.std.proofs.lemmas.List.{map-append}
use Rattle.sk_tenant.specs.Names.{AreDifferent, IsFirstTwice, bytes_of}
use Rattle.sk_tenant.proofs.Places.{name_added, still_different, name_stood, first_twice}
use Rattle.sk_tenant.proofs.names.set_of.Goals as goal

pub name-preserved : goal.name-preserved
name-preserved c =
    let i = c.name.invariant in let own = string_bytes c.in-Some.name in let v = c.into_bytes.result in
    let all = ap (λ l. c.name.yielded ++ l) (sym c.in-Some.ensures.steps.0) ∙ i.all in
    let same : v.items ≡ own = ap (λ v. v.items) c.into_bytes.ensures.value in
    let new : true ≡ not (list_any (λ key. bytes_eq v.items key.items) c.name.set.keys) = sym c.in-Ok-true.field-0-test ∙ c.in-Ok-true.ensures.added in
    let added = name_added (λ key. key.items) v.items c.name.set.keys c.insert.new.self.keys v refl new c.in-Ok-true.ensures.keys in record {
      all = append_assoc c.name.yielded (c.in-Some.name ∷ []) c.next.new.self.rest.items ∙ all;
      names = added ∙ ap (λ l. l ++ v.items ∷ []) i.names ∙ ap (λ n. bytes_of c.name.yielded ++ n ∷ []) same ∙ sym (map-append (λ name. string_bytes name) c.name.yielded (c.in-Some.name ∷ []));
      different = subst AreDifferent (sym added) (still_different (λ key. key.items) v.items c.name.set.keys new i.different);
    }

pub returns-in-Ok-false-clause-twice : goal.returns-in-Ok-false-clause-twice
returns-in-Ok-false-clause-twice c = λ n is.
    let i = c.name.invariant in let own = string_bytes c.in-Some.name in let v = c.into_bytes.result in let rest = c.next.new.self.rest.items in
    let all = ap (λ l. c.name.yielded ++ l) (sym c.in-Some.ensures.steps.0) ∙ i.all in
    let same : v.items ≡ own = ap (λ v. v.items) c.into_bytes.ensures.value in
    let old : false ≡ not (list_any (λ key. bytes_eq v.items key.items) c.name.set.keys) = sym c.in-Ok-false.field-0-test ∙ c.in-Ok-false.ensures.added in
    let stood = name_stood (λ key. key.items) v.items c.name.set.keys c.insert.new.self.keys v old c.in-Ok-false.ensures.keys in
    let names : bytes_of c.name.yielded ++ own ∷ bytes_of rest ≡ bytes_of c.args.names.items = sym (map-append (λ name. string_bytes name) c.name.yielded (c.in-Some.name ∷ rest)) ∙ ap bytes_of all in
    let place : c.len-in-Ok-false.result ≡ length (bytes_of c.name.yielded) = c.len-in-Ok-false.ensures.len ∙ stood.1 ∙ ap length i.names in
    let has : Contains (bytes_of c.name.yielded) own = subst (λ l. Contains l own) i.names (subst (Contains (map (λ key. key.items) c.name.set.keys)) same stood.0) in
    let told : c.len-in-Ok-false.result ≡ n = cc in
    subst (IsFirstTwice (bytes_of c.args.names.items)) told
    (first_twice (bytes_of c.args.names.items) (bytes_of c.name.yielded) (bytes_of rest) own c.len-in-Ok-false.result names place has (subst AreDifferent i.names i.different))
