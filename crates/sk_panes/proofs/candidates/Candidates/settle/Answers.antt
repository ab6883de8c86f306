use Rattle.std.proofs.Common.{◌≡◌, ℕ, ◌≤◌, List, length, sym, ap, subst, arith}
use Rattle.std.specs.List.Sorted.{IsPermutation}
use Rattle.std.proofs.lemmas.List.Sorted.{All-permutation}
use Rattle.sk_model.specs.Sketch.{k_smallest}
use Rattle.sk_model.specs.Width.{IsItem, AreItems}
use Rattle.sk_model.proofs.Sketch.{count_within, k_smallest_are_items}
use Rattle.sk_panes.specs.Candidates.{CandidatesState}
use Rattle.sk_panes.proofs.Smallest.{settled}
use Rattle.sk_panes.proofs.candidates.Candidates.settle.Goals as goal

pub invariant_of-self : goal.invariant_of-self
invariant_of-self c =
    let i = c.self.inside in
    let left : c.cut-self-inside.new.items.items ≡ k_smallest i.k i.items.items = c.cut-self-inside.ensures.smallest in
    let few : length c.cut-self-inside.new.items.items ≤ i.k = subst (λ (l : List ℕ). length l ≤ i.k) (sym left) (count_within i.k i.items.items) in
    let all : AreItems c.cut-self-inside.new.items.items = subst AreItems (sym left) (k_smallest_are_items i.k i.items.items c.self.invariant.3) in (
      c.self.invariant.0,
      omega (arith, few, c.self.invariant.0, c.reverse.ensures.len),
      omega (arith, c.cut-self-inside.ensures.capacity, c.reverse.ensures.capacity, c.self.invariant.2),
      All-permutation IsItem c.cut-self-inside.new.items.items c.reverse.new.self.items c.reverse.ensures.permutation all,
    )

pub returns-clause-smallest : goal.returns-clause-smallest
returns-clause-smallest c =
    let i = c.self.inside in
    let turned = c.reverse.new.self.items in
    let moved : IsPermutation (k_smallest i.k i.items.items) turned = subst (λ (l : List ℕ). IsPermutation l turned) c.cut-self-inside.ensures.smallest c.reverse.ensures.permutation in
    subst (λ (s : CandidatesState). k_smallest s.k turned ≡ k_smallest s.k s.items) c.self.view_is (settled i.k i.items.items turned moved)

pub returns-clause-few : goal.returns-clause-few
returns-clause-few c =
    let i = c.self.inside in
    let left : c.cut-self-inside.new.items.items ≡ k_smallest i.k i.items.items = c.cut-self-inside.ensures.smallest in
    let few : length c.cut-self-inside.new.items.items ≤ i.k = subst (λ (l : List ℕ). length l ≤ i.k) (sym left) (count_within i.k i.items.items) in
    omega (arith, few, c.reverse.ensures.len, ap (λ (s : CandidatesState). s.k) c.self.view_is)
