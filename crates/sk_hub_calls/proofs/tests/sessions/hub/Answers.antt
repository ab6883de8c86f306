-- The one updater is new of the hub.
use Rattle.std.proofs.Common.{rules, arith, ◌≡◌, ◌<◌, List, [], ◌∷◌, length, get_or, Some, sym, ap, ◌∙◌}
use Rattle.std.specs.Prelude.{slice_get}
use Rattle.sk_compose.specs.Numbers.{k_of}
use Rattle.sk_hub_calls.proofs.tests.sessions.hub.Goals as goal

first_is : {A : Type 0} (xs : List A) (x : A) → 0 < length xs → x ≡ get_or xs 0 x → slice_get xs 0 ≡ Some x
first_is [] x some is = absurd (omega arith)
first_is (y ∷ ys) x some is = ap Some (sym is)

pub returns-clause-k : goal.returns-clause-k
returns-clause-k c =
    let some : 0 < length c.in_ok-heart.field-0.updaters.items = search rules in
    let new = c.in_ok-heart.ensures.updaters 0 c.remove-updater.result (first_is _ _ some c.remove-updater.ensures.value) in
    ap k_of (new.numbers ∙ c.in_ok-heart.ensures.heart.numbers_are) ∙ c.in_ok-global.ensures.numbers ∙ c.k.ensures.value

pub returns-clause-none : goal.returns-clause-none
returns-clause-none c =
    let some : 0 < length c.in_ok-heart.field-0.updaters.items = search rules in
    (c.in_ok-heart.ensures.updaters 0 c.remove-updater.result (first_is _ _ some c.remove-updater.ensures.value)).kept

pub returns-clause-heart : goal.returns-clause-heart
returns-clause-heart c = ap k_of c.in_ok-heart.ensures.heart.numbers_are ∙ c.in_ok-global.ensures.numbers ∙ c.k.ensures.value
