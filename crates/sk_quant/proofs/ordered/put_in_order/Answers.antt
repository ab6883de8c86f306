use Rattle.std.proofs.Common.{◌≡◌, ℕ, List, ◌++◌, length, arith, refl, sym, ap, ◌∙◌}
use Rattle.std.proofs.lemmas.List.Sorted.{IsNonDecreasingBy-from_sort}
use Rattle.sk_quant.specs.Order.{in_order}
use Rattle.sk_quant.proofs.Orders.{in_order_of_permutation, length-in_order}
use Rattle.sk_quant.proofs.ordered.put_in_order.Goals as goal

same_length : (rising items : List ℕ) → rising ≡ in_order items → length rising ≡ length items
same_length rising items is = ap (λ (l : List ℕ). length l) is ∙ length-in_order items

pub unwrap-requires : goal.unwrap-requires
unwrap-requires c =
    let is = c.rising.ensures ∙ ap (λ (l : List ℕ). in_order l) (c.if-is_of.ensures refl ∙ c.as_slice.ensures.value) in
    let long = same_length c.rising.result.now c.args.items.now.items is in
    c.extend_from_slice.ensures.succeeds (omega (arith, long, c.clear.ensures.len, c.clear.ensures.capacity, c.args.items.now.ok.0, c.args.items.now.ok.1))

pub returns-then-is_of-clause-items : goal.returns-then-is_of-clause-items
returns-then-is_of-clause-items c =
    let is = c.rising.ensures ∙ ap (λ (l : List ℕ). in_order l) (c.if-is_of.ensures refl ∙ c.as_slice.ensures.value) in
    let filled = rw c.unwrap.ensures at c.extend_from_slice.ensures.items in
    filled ∙ ap (λ (l : List ℕ). l ++ c.rising.result.now) c.clear.ensures.items ∙ is

pub returns-then-is_of-clause-len : goal.returns-then-is_of-clause-len
returns-then-is_of-clause-len c =
    let is = c.rising.ensures ∙ ap (λ (l : List ℕ). in_order l) (c.if-is_of.ensures refl ∙ c.as_slice.ensures.value) in
    let long = same_length c.rising.result.now c.args.items.now.items is in
    let filled = rw c.unwrap.ensures at c.extend_from_slice.ensures.len in
    omega (arith, filled, long, c.clear.ensures.len, c.args.items.now.ok.0)

pub returns-clause-items : goal.returns-clause-items
returns-clause-items c =
    let rising = c.sort_unstable.new.self.items in
    let rises = IsNonDecreasingBy-from_sort (λ x. x) rising c.sort_unstable.ensures.sorted in
    sym (in_order_of_permutation c.args.items.now.items rising c.sort_unstable.ensures.permutation rises)
