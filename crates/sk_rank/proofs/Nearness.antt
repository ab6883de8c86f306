-- Ranks in lists, and in the lines that they have the items of.
use Rattle.std.proofs.Common.{◌≡◌, ℕ, ◌<◌, ◌≤◌, List, [], ◌∷◌, ◌++◌, length, sym, subst}
use Rattle.std.specs.Int.{abs_diff}
use Rattle.sk_model.specs.Entries.{Entry, items_of_entries}
use Rattle.sk_quant.specs.Coins.{coin_of}
use Rattle.sk_quant.specs.Held.{ranked}
use Rattle.sk_quant.specs.Limits.{most_items}
use Rattle.sk_quant.specs.Ranks.{rank_of, rank_error}
use Rattle.sk_quant.proofs.Bounds.{ranks_are_near}
use Rattle.sk_quant.proofs.Orders.{rank-permutation}
use Rattle.sk_read.specs.Items.{items_by}
use Rattle.sk_read.specs.declared.kind.Kind.TheVariants.{Raw}
use Rattle.sk_tell.specs.Feeding.{Course}
use Rattle.sk_tell.specs.Headline.{IsListOf}
use Rattle.sk_tell.proofs.Orders.{all_items, as_many}
use Rattle.sk_rank.specs.declared.plan.Plan.{Plan}
use Rattle.sk_rank.specs.Nearness.{IsNear}
use Rattle.sk_rank.specs.Plans.{rank_manner}

pub always_near : (x k key : ℕ) (items : List ℕ) → 1 ≤ k → length items ≤ most_items → IsNear x k key items
unfolding ranked
always_near x k key items least few = ranks_are_near (coin_of key) k x items least few

module _ (plan : Plan) (units : List (List ℕ)) (course : Course (rank_manner plan) units) (list : List Entry) (is : IsListOf (rank_manner plan) (course.windows ++ course.rest ∷ []) list) (some : 0 < plan.updaters) where
  pub count : length (items_of_entries list) ≡ length (items_by Raw units)
  count = as_many (rank_manner plan) units course list is some

  pub rank : rank_of plan.at (items_of_entries list) ≡ rank_of plan.at (items_by Raw units)
  rank = rank-permutation plan.at (items_by Raw units) (items_of_entries list) (all_items (rank_manner plan) units course list is some)

  -- what is near to the rank in the list is near to that in the lines
  pub near_in_lines : IsNear plan.at plan.k plan.key (items_of_entries list) → abs_diff (ranked plan.at plan.k plan.key (items_of_entries list)) (rank_of plan.at (items_by Raw units)) ≤ rank_error (length (items_by Raw units)) plan.k
  near_in_lines near =
      let held : ℕ = ranked plan.at plan.k plan.key (items_of_entries list) in
      subst (λ m. abs_diff held m ≤ rank_error (length (items_by Raw units)) plan.k) rank (subst (λ n. abs_diff held (rank_of plan.at (items_of_entries list)) ≤ rank_error n plan.k) count near)

  pub near : 1 ≤ plan.k → length (items_by Raw units) ≤ most_items → abs_diff (ranked plan.at plan.k plan.key (items_of_entries list)) (rank_of plan.at (items_by Raw units)) ≤ rank_error (length (items_by Raw units)) plan.k
  near least few = near_in_lines (always_near plan.at plan.k plan.key (items_of_entries list) least (subst (λ n. n ≤ most_items) (sym count) few))
