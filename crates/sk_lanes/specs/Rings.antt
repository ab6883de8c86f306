-- Rings to which stretches are given.
use Rattle.std.specs.Prelude.{◌≡◌, ◌⊎◌, ℕ, ◌<◌, List, ◌++◌, length, slice_index_or, All}
use Rattle.std.specs.declared.alloc.Global.{Global}
use Rattle.rtrb.specs.Ring.{sent, SameProducer}
use Rattle.rtrb.specs.declared.producer.Producer.{Producer}
use Rattle.sk_fill.specs.Stretches.{StretchState}
use Rattle.sk_feed.specs.declared.delivery.InOrder.{InOrder}
use Rattle.sk_feed.specs.Deliveries.{EndAt}

-- the end of a ring where stretches are given
abbrev pub Outlet : Type 0
Outlet = Producer StretchState Global InOrder

-- where stretches are given, and how many lines a window of them takes at most
pub record SupplyState : Type 0 where
  pub most : ℕ
  pub outlets : List Outlet

-- each of these rings was given these stretches, too
pub record GaveEach {A P : Type 0} (os os' : List (Producer StretchState A P)) (more : List StretchState) : Type 0 where
  pub count : length os' ≡ length os
  pub each : (i : ℕ) (d : Producer StretchState A P) → i < length os → SameProducer (slice_index_or os i d) (slice_index_or os' i d) × (sent (slice_index_or os' i d) ≡ sent (slice_index_or os i d) ++ more)

-- none of these rings has lost anything: each was given these stretches, too, or nothing
pub record GaveSome {A P : Type 0} (os os' : List (Producer StretchState A P)) (more : List StretchState) : Type 0 where
  pub count : length os' ≡ length os
  pub each : (i : ℕ) (d : Producer StretchState A P) → i < length os
      → SameProducer (slice_index_or os i d) (slice_index_or os' i d) × ((sent (slice_index_or os' i d) ≡ sent (slice_index_or os i d)) ⊎ (sent (slice_index_or os' i d) ≡ sent (slice_index_or os i d) ++ more))

-- the first n lines of the source end with what was given to each of these rings
abbrev pub AllEnd : {A P : Type 0} → List (Producer StretchState A P) → ℕ → Type 0
AllEnd os n = All (λ o. EndAt (sent o) n) os

-- stretches that are read anew: how many lines a window takes at most, and how many were given
pub record PoolState : Type 0 where
  pub most : ℕ
  pub count : ℕ
