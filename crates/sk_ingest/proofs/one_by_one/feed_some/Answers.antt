use Rattle.std.proofs.Common.{ℕ, ◌<◌, [], ◌∷◌, List, length, get_or, take, sym, subst, arith, length-take}
use Rattle.std.proofs.lemmas.List.{take_more}
use Rattle.sk_hub.specs.Calls.{Takes}
use Rattle.sk_hub.proofs.Calls.{takes_trans, takes_few}
use Rattle.sk_ingest.proofs.one_by_one.feed_some.Goals as goal

pub propagate_until_taken-requires-clause-room : goal.propagate_until_taken-requires-clause-room
propagate_until_taken-requires-clause-room g c =
    let k = g.C.Composable in let items : List ℕ = c.args.items.now in let n : ℕ = c.update_each-count.result in
    omega (arith, c.requires.room, c.update_each-count.ensures.within, c.if-count-items.false, length-take n items, takes_few k.keeps_of k.hint_of c.args.u.now c.update_each-count.new.self (take n items) c.update_each-count.ensures.taken)

pub returns-clause-taken : goal.returns-clause-taken
returns-clause-taken g c =
    let k = g.C.Composable in let items : List ℕ = c.args.items.now in let n : ℕ = c.update_each-count.result in let item = get_or items n 0 in
    let inside : n < length items = omega (arith, c.update_each-count.ensures.within, c.if-count-items.false) in
    subst (λ (l : List ℕ). Takes k.keeps_of k.hint_of c.args.u.now l c.propagate_until_taken.new.u) (sym (take_more items n 0 inside))
    (takes_trans k.keeps_of k.hint_of c.args.u.now c.update_each-count.new.self c.propagate_until_taken.new.u (take n items) (item ∷ []) c.update_each-count.ensures.taken c.in_ok-propagate_until_taken.ensures.taken)
