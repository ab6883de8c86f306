use Rattle.std.proofs.Common.{◌≡◌, ℕ, List, ◌++◌, sym, ap, ◌∙◌}
use Rattle.std.proofs.lemmas.List.Sorted.{IsNonDecreasingBy-from_sort}
use Rattle.sk_quant.specs.Order.{in_order}
use Rattle.sk_quant.proofs.Orders.{in_order_of_permutation}
use Rattle.sk_quant.proofs.ordered.OrderedBase.of.Goals as goal

pub invariant_of-result : goal.invariant_of-result
invariant_of-result c =
    let rising = c.sort_unstable.new.self.items in
    let copied = c.extend_from_slice-3.new.self.items in
    let same : copied ≡ c.extend_from_slice-2.new.self.items =
    c.in_ok-extend_from_slice-3.ensures.items
    ∙ ap (λ (l : List ℕ). l ++ c.deref.result.now) c.in_ok-rising.ensures.items
    ∙ c.deref.ensures.value in
    let rises = IsNonDecreasingBy-from_sort (λ x. x) rising c.sort_unstable.ensures.sorted in
    sym (ap (λ (l : List ℕ). in_order l) (sym same) ∙ in_order_of_permutation copied rising c.sort_unstable.ensures.permutation rises)
