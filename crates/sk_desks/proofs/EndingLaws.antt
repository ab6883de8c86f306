-- Names of which one stands twice.
use Rattle.std.proofs.Common.{◌≡◌, ℕ, ◌<◌, List, length, get_or, sym, ◌∙◌, arith}
use Rattle.std.proofs.lemmas.List.{length-take, get_or-take}
use Rattle.std.proofs.lemmas.Option.{get_or_from_slice_get, slice_get_within}
use Rattle.sk_tenant.specs.Names.{AreDifferent, IsFirstTwice}

-- names that are all different have none twice
pub not_twice : (names : List (List ℕ)) (i : ℕ) → AreDifferent names → IsFirstTwice names i → ⊥
not_twice names i different twice =
    let within : i < length names = slice_get_within names i twice.name twice.is_at in
    let k = twice.earlier.0 in
    let below : k < i = omega (arith, twice.earlier.1, length-take i names) in
    let first : get_or names k twice.name ≡ twice.name = sym (get_or-take i names k twice.name below) ∙ twice.earlier.2 in
    different k i twice.name below within (first ∙ sym (get_or_from_slice_get names i twice.name twice.name twice.is_at))
