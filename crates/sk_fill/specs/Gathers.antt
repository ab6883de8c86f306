-- What was found among the first of some lines.
use Rattle.std.specs.Prelude.{◌≡◌, ℕ, ◌≤◌, Bool, List, length, take, All}
use Rattle.std.specs.List.{filter}
use Rattle.sk_read.specs.Items.{IsGood}
use Rattle.sk_read.specs.declared.kind.Kind.{Kind}
use Rattle.sk_fill.specs.Windows.{items_in}

-- the first `count` lines are each empty or an item, and `items` of their items are kept
pub record HasGathered (keeps : ℕ → Bool) (kind : Kind) (lines : List (List ℕ)) (written : List ℕ) (count items : ℕ) : Type 0 where
  pub within : count ≤ length lines
  pub few : items ≤ count
  pub good : All (IsGood kind) (take count lines)
  pub kept : take items written ≡ filter keeps (items_in kind (take count lines))
