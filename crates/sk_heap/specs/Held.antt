-- A heap and a table that hold the same hashes.
use Rattle.std.specs.Prelude.{◌≡◌, ℕ, ◌+◌, ◌*◌, ◌≤◌, List, ◌∷◌, length, nat_eq, All}
use Rattle.std.specs.Int.{IsPowerOfTwo}
use Rattle.std.specs.List.{IsDistinct}
use Rattle.std.specs.List.Sorted.{IsPermutation}
use Rattle.std.specs.Ordering.{nat_cmp}
use Rattle.std.specs.BinaryHeap.{IsHeap}
use Rattle.sk_heap.specs.Heap.{times}
use Rattle.sk_heap.specs.Table.{IsProbed, HoldsEach, most_places}
use Rattle.sk_model.specs.Width.{AreItems}
use Rattle.sk_model.specs.Limits.{least_k, most_k}

-- at most k hashes, in order as a heap, none of them twice, and the table that they are looked up in, at most half full
pub record IsHeld (k : ℕ) (heap table : List ℕ) : Type 0 where
  pub least : least_k ≤ k
  pub most : k ≤ most_k
  pub within : length heap ≤ k
  pub items : AreItems heap
  pub distinct : IsDistinct nat_eq heap
  pub order : IsHeap nat_cmp heap
  pub power : IsPowerOfTwo (length table)
  pub wide : 4 ≤ length table
  pub half : 2 * length heap ≤ length table
  pub short : length table ≤ most_places
  pub probed : IsProbed table
  pub entries : HoldsEach heap table
  pub vacant : times 0 table + length heap ≡ length table

-- the table has these hashes, and no others
pub record IsTabled (hashes table : List ℕ) : Type 0 where
  pub probed : IsProbed table
  pub entries : HoldsEach hashes table
  pub vacant : times 0 table + length hashes ≡ length table

-- a hash in the place of the greatest
pub record IsExchanged (hash : ℕ) (old new : List ℕ) (greatest : ℕ) : Type 0 where
  pub rest : List ℕ
  pub out : IsPermutation old (greatest ∷ rest)
  pub put : IsPermutation (hash ∷ rest) new
  pub most : All (λ y. y ≤ greatest) old
