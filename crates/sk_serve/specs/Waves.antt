-- A wave of sessions, from the accepts of its links until its updaters are drained.
use Rattle.std.specs.Prelude.{◌≡◌, ℕ, ◌+◌, ◌*◌, ◌-◌, ◌<◌, ◌≤◌, min, List, [], ◌++◌, length, All, Option, Some, slice_index_or, map}
use Rattle.std.specs.List.{range_with_len}
use Rattle.atomic_table.specs.Seated.{TableId}
use Rattle.sk_model.specs.Entries.{items_of_entries}
use Rattle.sk_model.specs.Missing.{Begins}
use Rattle.sk_model.specs.Sketch.{packed_of}
use Rattle.sk_io.specs.Traffic.{Ended, Doorway, text_of}
use Rattle.sk_io.specs.declared.link.Link as link
use Rattle.sk_compose.specs.Numbers.{k_of}
use Rattle.sk_hub.specs.Drains.{HasTakenIn}
use Rattle.sk_hub.specs.Hearts.{HeartState}
use Rattle.sk_hub.specs.Updaters.{UpdaterState}
use Rattle.sk_heap.specs.declared.heap_theta.HeapTheta.{HeapTheta}
use Rattle.sk_line.specs.declared.help_pump.HelpPump.{HelpPump}
use Rattle.sk_line.specs.declared.jobs.Job.{Job}
use Rattle.sk_line.specs.declared.sessions.End.{End}
use Rattle.sk_serve.specs.declared.plan.ServePlan.{ServePlan}
use Rattle.sk_serve.specs.Doors.{DoorView, LetsOut, LetsThrough}
use Rattle.sk_serve.specs.Plans.{IsServable}
use Rattle.sk_serve.specs.Served.{IsFresh, Served, IsServed, AreServed, IsUnread, ServesSessions, links_of, ends_of}

-- the heart of a hub of this plan
pub record IsHeartOf (plan : ServePlan) (h : HeartState) : Type 0 where
  pub updaters : h.updaters ≡ plan.sessions
  pub k : k_of h.view.numbers ≡ plan.k
  pub eager_is : h.eager ≡ plan.eager

-- the hub can admit `count` updaters more, and the door listens and can close as many links
pub record CanServe (plan : ServePlan) (count : ℕ) (h : HeartState) (door : DoorView) : Type 0 where
  pub within : IsServable plan
  pub hub : IsHeartOf plan h
  pub vacant : h.admitted + count ≤ plan.sessions
  pub listens : door.doorway.port ≡ Some plan.port
  pub room : count ≤ door.room

-- how many sessions are left, and how many of them are served next
abbrev pub left_after : ServePlan → HeartState → ℕ
left_after plan h = plan.sessions - h.admitted

abbrev pub next_count : ServePlan → HeartState → ℕ
next_count plan h = min plan.wave (left_after plan h)

-- ---- links that were accepted

-- what a job shows
pub record Visit : Type 0 where
  pub link : Ended
  pub updater : UpdaterState
  pub pumps : ℕ
  pub told : Option End

abbrev pub visit_of : {L T : Type 0} → link.Ghosts L → Job HeapTheta L HelpPump T → Visit
visit_of l job = record {
  link = record { traffic = l.traffic job.link; faults = l.faults job.link; waiting = l.waiting job.link };
  updater = job.updater;
  pumps = job.pump.count;
  told = job.end;
}

-- what comes over the links of jobs
abbrev pub texts_by : {J : Type 0} → (J → Visit) → List J → List (Option (List ℕ))
texts_by visit_of jobs = map (λ job. text_of (visit_of job).link.traffic) jobs

-- session i of the plan is to be run
pub record IsReady (plan : ServePlan) (table : TableId) (i : ℕ) (v : Visit) : Type 0 where
  pub unread : IsUnread v.link
  pub fresh : IsFresh plan i v.updater
  pub table_is : v.updater.table ≡ table
  pub pumps_none : v.pumps ≡ 0

-- so these are, from this number on
abbrev pub AreReady : {J : Type 0} → ServePlan → TableId → ℕ → (J → Visit) → List J → Type 0
AreReady plan table from visit_of jobs = (i : ℕ) (d : _) → i < length jobs → IsReady plan table (from + i) (visit_of (slice_index_or jobs i d))

-- ---- sessions that were run

-- session i of the plan was run, and its link is open
pub record WasRun (plan : ServePlan) (most : ℕ) (table : TableId) (i : ℕ) (v : Visit) : Type 0 where
  pub session : Served
  pub served : IsServed plan most i session
  pub link_is : v.link ≡ session.ended
  pub updater_is : v.updater ≡ session.updater
  pub told_is : v.told ≡ Some session.end
  pub number_is : v.updater.number ≡ i
  pub table_is : v.updater.table ≡ table

abbrev pub WereRun : {J : Type 0} → ServePlan → ℕ → TableId → ℕ → (J → Visit) → List J → Type 0
WereRun plan most table from visit_of jobs = (i : ℕ) (d : _) → i < length jobs → WasRun plan most table (from + i) (visit_of (slice_index_or jobs i d))

-- ---- links that were closed

-- links over these texts, of which nothing was read, were closed
pub record ClosesUnread (texts : List (Option (List ℕ))) (old new : DoorView) : Type 0 where
  pub unread : List Ended
  pub none : All IsUnread unread
  pub closes : LetsOut texts unread old new

-- fewer than `count` links came, and were closed unread in the order in which they came
pub record StopsShort (count : ℕ) (old new : DoorView) : Type 0 where
  pub unread : List Ended
  pub fewer : length unread < count
  pub none : All IsUnread unread
  pub through : LetsThrough unread old new

-- the updaters of this hub, from this number on
pub record AreOfHub (table : TableId) (from : ℕ) (us : List UpdaterState) : Type 0 where
  pub tables : All (λ u. u.table ≡ table) us
  pub numbers : (i : ℕ) (d : UpdaterState) → i < length us → (slice_index_or us i d).number ≡ from + i

-- the links of `count` sessions, over these texts, were closed, in order; these are their ends, and their updaters
pub record ClosesLinks (plan : ServePlan) (most : ℕ) (table : TableId) (from count : ℕ) (texts : List (Option (List ℕ))) (old new : DoorView) (ends ends' : List End) (us : List UpdaterState) : Type 0 where
  pub sessions : List Served
  pub as_many : length sessions ≡ count
  pub served : AreServed plan most from sessions
  pub closes : LetsOut texts (links_of sessions) old new
  pub ended : ends' ≡ ends ++ ends_of sessions
  pub updaters : us ≡ map (λ s. s.updater) sessions
  pub of_hub : AreOfHub table from us

-- ---- updaters that were drained

-- the heart drained these updaters, in order, the first of them with this number, and has taken in each; those that it
-- took in before it has still
pub record DrainsFrom (from : ℕ) (h : HeartState) (us : List UpdaterState) (h' : HeartState) : Type 0 where
  pub table : h'.table ≡ h.table
  pub updaters : h'.updaters ≡ h.updaters
  pub admitted : h'.admitted ≡ h.admitted
  pub eager : h'.eager ≡ h.eager
  pub numbers : h'.view.numbers ≡ h.view.numbers
  pub grows : Begins h.view.seen h'.view.seen
  pub drained : h'.view.drained ≡ h.view.drained ++ range_with_len from (length us)
  pub numbered : (i : ℕ) (d : UpdaterState) → i < length us → (slice_index_or us i d).number ≡ from + i
  pub taken_in : All (HasTakenIn h') us
  pub stays : (u : UpdaterState) → u.number < from → HasTakenIn h u → HasTakenIn h' u

-- ---- a whole wave

-- the heart and the door after the next wave, whose first session has the number of the updater that is admitted next
pub record ServesWave (plan : ServePlan) (most : ℕ) (h h' : HeartState) (old new : DoorView) (ends ends' : List End) : Type 0 where
  pub sessions : List Served
  pub as_many : length sessions ≡ next_count plan h
  pub served : AreServed plan most h.admitted sessions
  pub through : LetsThrough (links_of sessions) old new
  pub ended : ends' ≡ ends ++ ends_of sessions
  pub drains : DrainsFrom h.admitted (record h { admitted = h.admitted + next_count plan h }) (map (λ s. s.updater) sessions) h'

-- ---- all waves so far

-- a heart that drained the updaters of these sessions, and admitted no others
pub record HasDrainedThem (sessions : List Served) (h : HeartState) : Type 0 where
  pub admitted : h.admitted ≡ length sessions
  pub drained : h.view.drained ≡ range_with_len 0 (length sessions)
  pub numbered : (i : ℕ) (d : Served) → i < length sessions → (slice_index_or sessions i d).updater.number ≡ i
  pub taken_in : All (λ s. HasTakenIn h s.updater) sessions

-- these sessions were served, from the first on, by a hub that is still of the plan
pub record ServesSome (plan : ServePlan) (most : ℕ) (h h' : HeartState) (old new : DoorView) (ends : List End) (sessions : List Served) : Type 0 where
  pub served : AreServed plan most 0 sessions
  pub through : LetsThrough (links_of sessions) old new
  pub ended : ends ≡ ends_of sessions
  pub heart : HasDrainedThem sessions h'
  pub hub : IsHeartOf plan h'
  pub table : h'.table ≡ h.table

-- some of these sessions are left after whole waves of them, and the next wave was not accepted whole. The heart has
-- admitted some of its updaters since it drained the last one
pub record StopsInWave (plan : ServePlan) (most : ℕ) (h h' : HeartState) (old new : DoorView) : Type 0 where
  pub sessions : List Served
  pub ends : List End
  pub last : HeartState
  pub between : DoorView
  pub some : ServesSome plan most h last old between ends sessions
  pub left : length sessions < plan.sessions
  pub waves : ℕ
  pub whole : length sessions ≡ min (waves * plan.wave) plan.sessions
  pub short : StopsShort (next_count plan last) between new
  pub heart : h' ≡ record last { admitted = h'.admitted }

-- ---- all of them

-- a hub that has admitted and drained none
pub record IsNewHub (plan : ServePlan) (h : HeartState) : Type 0 where
  pub hub : IsHeartOf plan h
  pub admitted : h.admitted ≡ 0
  pub drained : h.view.drained ≡ []

-- all sessions were served and ended so, and this word was loaded, of all that was kept
pub record ServesAndAsks (plan : ServePlan) (most : ℕ) (h h' : HeartState) (before now : Doorway) (ends : List End) (word : ℕ) : Type 0 where
  pub sessions : List Served
  pub serves : ServesSessions plan most before now sessions h'
  pub ended : ends ≡ ends_of sessions
  pub word_is : word ≡ packed_of plan.k (items_of_entries h'.view.seen)
  pub table : h'.table ≡ h.table
