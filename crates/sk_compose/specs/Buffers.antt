-- What contracts see of a buffer.
use Rattle.std.specs.Prelude.{ℕ, ◌≤◌, List, length}
use Rattle.sk_model.specs.Width.{AreItems}
use Rattle.sk_model.specs.Limits.{most_size}

-- its items, in order, and for how many it has room
pub record Contents : Type 0 where
  pub items : List ℕ
  pub capacity : ℕ

-- what holds of every buffer
pub record IsBuffer (buffer : Contents) : Type 0 where
  pub least : 1 ≤ buffer.capacity
  pub most : buffer.capacity ≤ most_size
  pub within : length buffer.items ≤ buffer.capacity
  pub items_fit : AreItems buffer.items
