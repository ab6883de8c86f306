-- Lanes, each with what takes stretches and the ring through which they come for it.
use Rattle.std.specs.Prelude.{Result, ◌≡◌, ℕ, ◌<◌, List, ◌++◌, length, map, slice_index_or, OnOk, IsOk}
use Rattle.rtrb.specs.Ring.{SameConsumer, sent, received}
use Rattle.rtrb.specs.declared.consumer.Consumer.{Consumer}
use Rattle.sk_feed.specs.declared.lane.Lane.{Lane}
use Rattle.sk_fill.specs.Stretches.{StretchState}
use Rattle.sk_feed.specs.Deliveries.{windows_of, IsUpTo, IsOpen, HasFed}
use Rattle.sk_feed.specs.Takings.{TakesOn}
use Rattle.sk_lanes.specs.Rings.{Outlet, GaveEach}

-- each has a ring to which one stretch was given
pub record AreOpen {T : Type 0} (at_most : T → ℕ → Type 0) (first : StretchState) (lanes : List (Lane T)) (outlets : List Outlet) : Type 0 where
  pub count : length outlets ≡ length lanes
  pub each : (i : ℕ) (d : Lane T) (e : Outlet) → i < length lanes → IsOpen at_most first (slice_index_or outlets i e) (slice_index_or lanes i d).inlet (slice_index_or lanes i d).taker

-- no taker has kept more than there were lines
abbrev pub AreBehind : {T : Type 0} → (T → ℕ → Type 0) → List (Lane T) → Type 0
AreBehind {T} at_most lanes = (i : ℕ) (d : Lane T) → i < length lanes → IsUpTo at_most (slice_index_or lanes i d).inlet (slice_index_or lanes i d).taker

-- so it is of those for which memory was found
abbrev pub AreBehindIfFed : {T : Type 0} → (T → ℕ → Type 0) → List (Lane T) → Type 0
AreBehindIfFed {T} at_most lanes = (i : ℕ) (d : Lane T) → i < length lanes → OnOk (slice_index_or lanes i d).fed (IsUpTo at_most (slice_index_or lanes i d).inlet (slice_index_or lanes i d).taker)

-- the taker of a lane took what came, as long as there was memory
pub record RunsLane {T A P B E : Type 0} (took : T → T → List (List (List ℕ)) → Type 0) (at_most : T → ℕ → Type 0) (inlet : Consumer StretchState A P) (t : T) (inlet' : Consumer StretchState A P) (t' : T) (fed : Result B E) : Type 0 where
  pub ring : SameConsumer inlet inlet'
  pub taken : OnOk fed (HasFed took at_most inlet t inlet' t')

-- each took what came, as number i of all
pub record HaveRun {T : Type 0} (took : ℕ → ℕ → T → T → List (List (List ℕ)) → Type 0) (at_most : T → ℕ → Type 0) (lanes lanes' : List (Lane T)) : Type 0 where
  pub count : length lanes' ≡ length lanes
  pub each : (i : ℕ) (d : Lane T) → i < length lanes
      → RunsLane (took i (length lanes)) at_most (slice_index_or lanes i d).inlet (slice_index_or lanes i d).taker (slice_index_or lanes' i d).inlet (slice_index_or lanes' i d).taker (slice_index_or lanes' i d).fed

-- a lane, for which memory was found, took all that was left in its ring, and nothing is
pub record Finishes {T : Type 0} (took : T → T → List (List (List ℕ)) → Type 0) (at_most : T → ℕ → Type 0) (lane : Lane T) (outlet : Outlet) (lane' : Lane T) : Type 0 where
  pub ok : IsOk lane.fed
  pub fed : HasFed took at_most lane.inlet lane.taker lane'.inlet lane'.taker
  pub all : received lane'.inlet ≡ sent outlet

-- so did each
pub record HaveFinished {T : Type 0} (took : ℕ → ℕ → T → T → List (List (List ℕ)) → Type 0) (at_most : T → ℕ → Type 0) (lanes : List (Lane T)) (outlets : List Outlet) (lanes' : List (Lane T)) : Type 0 where
  pub count : length lanes' ≡ length lanes
  pub each : (i : ℕ) (d : Lane T) (e : Outlet) → i < length lanes → Finishes (took i (length lanes)) at_most (slice_index_or lanes i d) (slice_index_or outlets i e) (slice_index_or lanes' i d)

-- each taker took these windows, as number i of all
pub record TakeAll {T : Type 0} (took : ℕ → ℕ → T → T → List (List (List ℕ)) → Type 0) (windows : List (List (List ℕ))) (ts ts' : List T) : Type 0 where
  pub count : length ts' ≡ length ts
  pub each : (i : ℕ) (d : T) → i < length ts → TakesOn (took i (length ts)) (slice_index_or ts i d) windows (slice_index_or ts' i d)

-- through lanes that were opened for these takers came these windows, and the lanes have run
pub record HaveRunWith {T : Type 0} (took : ℕ → ℕ → T → T → List (List (List ℕ)) → Type 0) (at_most : T → ℕ → Type 0) (takers : List T) (windows : List (List (List ℕ))) (lanes' : List (Lane T)) (outlets' : List Outlet) : Type 0 where
  pub first : StretchState
  pub given : List StretchState
  pub lanes : List (Lane T)
  pub outlets : List Outlet
  pub takers_are : map (λ l. l.taker) lanes ≡ takers
  pub windows_are : windows ≡ first.windows ++ windows_of given
  pub opened : AreOpen at_most first lanes outlets
  pub run : HaveRun took at_most lanes lanes'
  pub gave : GaveEach outlets outlets' given
