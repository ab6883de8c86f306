use Rattle.std.proofs.Common.{ℕ, ◌+◌, ◌-◌, ◌≤◌, List, ◌++◌, take, drop, slice_range, sym, ap, ◌∙◌, subst, arith, length-take, take-append-drop}
use Rattle.std.proofs.lemmas.List.Elements.{All-drop}
use Rattle.sk_model.specs.Width.{IsItem, AreItems}
use Rattle.sk_feed.proofs.OnItsWay.{range_less}
use Rattle.sk_feed.proofs.block_items.BlockItems.offer_waiting.Goals as goal

pub invariant_of-self : goal.invariant_of-self
invariant_of-self g c =
    let a = c.self.inside in
    let n = c.update_each.result in
    let waiting : List ℕ = slice_range a.kept a.at a.end in
    let few = c.update_each.ensures.within in
    let order = c.self.invariant.0 in
    let inside : a.at + n ≤ a.end = omega (arith, few, length-take (a.end - a.at) (drop a.at a.kept), order) in (
      inside,
      c.self.invariant.1,
      c.self.invariant.2,
      subst AreItems (sym (range_less a.kept a.at a.end n inside)) (All-drop IsItem n waiting c.self.invariant.3),
    )

pub returns-clause-taken : goal.returns-clause-taken
returns-clause-taken g c =
    let a = c.self.inside in
    let n = c.update_each.result in
    let waiting : List ℕ = slice_range a.kept a.at a.end in
    let few = c.update_each.ensures.within in
    let order = c.self.invariant.0 in (
      take n waiting,
      ap (λ b. b.waiting) (sym c.self.view_is) ∙ sym (take-append-drop n waiting)
          ∙ ap (λ l. take n waiting ++ l) (sym (range_less a.kept a.at a.end n (omega (arith, few, length-take (a.end - a.at) (drop a.at a.kept), order)))),
      c.update_each.ensures.taken,
    )
