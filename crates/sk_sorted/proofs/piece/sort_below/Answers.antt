use Rattle.std.proofs.Common.{ℕ, List, nat_lt, ◌∙◌, subst}
use Rattle.std.specs.List.{filter}
use Rattle.std.specs.List.Sorted.{IsPermutation}
use Rattle.std.proofs.lemmas.List.Elements.{All-filter}
use Rattle.std.proofs.lemmas.List.Sorted.{All-permutation, Contains-permutation, IsPermutation-sym, IsNonDecreasingBy-from_sort}
use Rattle.sk_model.specs.Width.{IsItem}
use Rattle.sk_sorted.proofs.Members.{rising_of_members}
use Rattle.sk_sorted.proofs.piece.sort_below.Goals as goal

pub copy_once-requires-clause-items : goal.copy_once-requires-clause-items
copy_once-requires-clause-items c =
    let below = filter (λ h. nat_lt h c.args.end) c.args.hashes.now in
    let moved = subst (λ (l : List ℕ). IsPermutation l c.sort_unstable.new.self) c.copy_below-count.ensures.below c.sort_unstable.ensures.permutation in
    All-permutation IsItem below c.sort_unstable.new.self moved (All-filter (λ h. nat_lt h c.args.end) IsItem c.args.hashes.now c.requires.items)

pub copy_once-requires-clause-order : goal.copy_once-requires-clause-order
copy_once-requires-clause-order c = IsNonDecreasingBy-from_sort (λ x. x) c.sort_unstable.new.self c.sort_unstable.ensures.sorted

pub returns-clause-piece : goal.returns-clause-piece
returns-clause-piece c =
    let below = filter (λ h. nat_lt h c.args.end) c.args.hashes.now in
    let sorted = c.sort_unstable.new.self in
    let moved = subst (λ (l : List ℕ). IsPermutation l sorted) c.copy_below-count.ensures.below c.sort_unstable.ensures.permutation in
    c.copy_once.ensures.once
    ∙ rising_of_members sorted below (λ z has. Contains-permutation sorted below z (IsPermutation-sym below sorted moved) has) (λ z has. Contains-permutation below sorted z moved has)
