use Rattle.std.proofs.Common.{◌≡◌, ℕ, ◌≤◌, ◌++◌, ◌∷◌, [], List, length, sym, ap, subst, ◌∙◌, arith}
use Rattle.std.proofs.lemmas.List.Elements.{All-push}
use Rattle.sk_model.specs.Sketch.{k_smallest, theta_of}
use Rattle.sk_model.specs.Width.{IsItem, AreItems}
use Rattle.sk_model.proofs.Sketch.{count_within, k_smallest_are_items}
use Rattle.sk_panes.specs.Candidates.{HaveSmallest}
use Rattle.sk_panes.proofs.Smallest.{candidates, put_last, cut_with}
use Rattle.sk_panes.proofs.candidates.Candidates.keep.Goals as goal

pub invariant_of-self : goal.invariant_of-self
invariant_of-self c =
    let i = c.self.inside in
    let pushed = c.push_reserved.new.self.items in
    let more : pushed ≡ i.items.items ++ c.args.item ∷ [] = c.push_reserved.ensures.items in
    let left : c.cut-self-inside.new.items.items ≡ k_smallest i.k pushed = c.cut-self-inside.ensures.smallest in
    let all : AreItems pushed = subst AreItems (sym more) (All-push IsItem i.items.items c.args.item c.self.invariant.3 c.requires.item) in
    let few : length c.cut-self-inside.new.items.items ≤ i.k = subst (λ (l : List ℕ). length l ≤ i.k) (sym left) (count_within i.k pushed) in (
      c.self.invariant.0,
      omega (arith, few, c.self.invariant.0),
      omega (arith, c.cut-self-inside.ensures.capacity, c.push_reserved.ensures.capacity, c.self.invariant.2),
      subst AreItems (sym left) (k_smallest_are_items i.k pushed all),
    )

pub returns-then-len-self-clause-smallest : goal.returns-then-len-self-clause-smallest
returns-then-len-self-clause-smallest c = λ items all have.
    let i = c.self.inside in
    let inside : HaveSmallest items (candidates i.k i.items.items i.bound) = subst (HaveSmallest items) (sym c.self.view_is) have in
    cut_with i.k i.bound c.cut-self-inside.result c.args.item i.items.items c.cut-self-inside.new.items.items items inside
    (c.cut-self-inside.ensures.smallest ∙ ap (k_smallest i.k) c.push_reserved.ensures.items)
    (c.cut-self-inside.ensures.theta ∙ ap (theta_of i.k) c.push_reserved.ensures.items)

pub returns-else-len-self-clause-smallest : goal.returns-else-len-self-clause-smallest
returns-else-len-self-clause-smallest c = λ items all have.
    let i = c.self.inside in
    let inside : HaveSmallest items (candidates i.k i.items.items i.bound) = subst (HaveSmallest items) (sym c.self.view_is) have in
    subst (λ (l : List ℕ). HaveSmallest (items ++ c.args.item ∷ []) (candidates i.k l i.bound)) (sym c.push_reserved.ensures.items)
    (put_last i.k i.bound c.args.item i.items.items items all c.requires.item inside)
