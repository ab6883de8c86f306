-- The one updater is new of the hub.
use Rattle.std.proofs.Common.{rules, arith, ◌≡◌, ◌<◌, List, [], ◌∷◌, length, get_or, Some, sym, ap}
use Rattle.std.specs.Prelude.{slice_get}
use Rattle.sk_hub_calls.proofs.tests.hub.hub_of.Goals as goal

first_is : {A : Type 0} (xs : List A) (x : A) → 0 < length xs → x ≡ get_or xs 0 x → slice_get xs 0 ≡ Some x
first_is [] x some is = absurd (omega arith)
first_is (y ∷ ys) x some is = ap Some (sym is)

pub returns-clause-kept : goal.returns-clause-kept
returns-clause-kept g c =
    let some : 0 < length c.in_ok-heart.field-0.updaters.items = search rules in
    (c.in_ok-heart.ensures.updaters 0 c.remove-updater.result (first_is _ _ some c.remove-updater.ensures.value)).kept

pub returns-clause-updater : goal.returns-clause-updater
returns-clause-updater g c =
    let some : 0 < length c.in_ok-heart.field-0.updaters.items = search rules in
    (c.in_ok-heart.ensures.updaters 0 c.remove-updater.result (first_is _ _ some c.remove-updater.ensures.value)).table
