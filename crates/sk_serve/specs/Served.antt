-- The sessions of a server: each from its link's accept to its close, and what becomes of what its updater kept.
use Rattle.std.specs.Prelude.{◌≡◌, ◌≢◌, ℕ, ◌+◌, ◌*◌, ◌<◌, ◌≤◌, List, [], ◌∷◌, ◌++◌, length, All, Option, Some, IfSome, slice_index_or, map, flat_map, ◌-◌, ◌^◌, min}
use Rattle.std.specs.List.{range_with_len}
use Rattle.std.proofs.Common.{inl, inr}
use Rattle.sk_model.specs.Entries.{Entry, entries_by, items_of_entries}
use Rattle.sk_model.specs.Missing.{Begins}
use Rattle.sk_model.specs.Sketch.{packed_of}
use Rattle.sk_io.specs.Traffic.{Traffic, Ended, Doorway, Pass, IsUntouched}
use Rattle.sk_theta.specs.Sizes.{Sizes}
use Rattle.sk_compose.specs.Numbers.{k_of}
use Rattle.sk_machine.specs.Coarse.{IsEntry}
use Rattle.sk_machine.specs.declared.views.Move.{Move}
use Rattle.sk_machine.specs.declared.views.Move.TheVariants.{Ask}
use Rattle.sk_gate.specs.Views.{known_of}
use Rattle.sk_hub.specs.Hearts.{HeartState}
use Rattle.sk_hub.specs.Updaters.{UpdaterState, base_of, kept_of}
use Rattle.sk_line.specs.Serving.{Answered, items_kept, items_offered}
use Rattle.sk_line.specs.Sessions.{SessionState, session_state, ComesTo, SessionEnds}
use Rattle.sk_line.specs.declared.sessions.End.{End}
use Rattle.sk_line.specs.declared.sessions.End.TheVariants.{Quit, Closed, LinkFault, Long, TooMuch, OutOfMemory}
use Rattle.sk_report.specs.Sizes.{size_at}
use Rattle.sk_serve.specs.declared.fault.ServeFault.{ServeFault}
use Rattle.sk_serve.specs.declared.fault.ServeFault.TheVariants.{NetFault}
use Rattle.sk_serve.specs.Lists.{AreBusyBehind, HoldsReplies, SayOfOneList}
use Rattle.sk_serve.specs.declared.plan.ServePlan.{ServePlan}
use Rattle.sk_serve.specs.Plans.{shape_of}

-- ---- one session

-- updater i of a hub of this plan, which has seen and kept nothing
pub record IsFresh (plan : ServePlan) (i : ℕ) (u : UpdaterState) : Type 0 where
  pub number_is : u.number ≡ i
  pub size_is : u.size ≡ size_at plan.sizes i
  pub k : k_of u.view.numbers ≡ plan.k
  pub eager_is : u.eager ≡ plan.eager
  pub kept : kept_of u ≡ []
  pub base : base_of u ≡ []
  pub seen : u.view.seen ≡ []

-- the lines that an updater answered until a session came to its end; the last reply may not have been sent whole
abbrev pub answered_in : (shape : Sizes) (most : ℕ) (a b : SessionState) (due : End) → ComesTo shape most a b due → List Answered
answered_in shape most a b Quit went = went.answered
answered_in shape most a b Closed went = went.answered
answered_in shape most a b LinkFault (inl went) = went.answered
answered_in shape most a b LinkFault (inr went) = went.answered ++ went.last ∷ []
answered_in shape most a b (Long n) went = went.answered
answered_in shape most a b TooMuch went = went.answered
answered_in shape most a b OutOfMemory went = []

-- a session that was served
pub record Served : Type 0 where
  pub end : End
  -- its link, as it was closed
  pub ended : Ended
  -- its updater, as the session left it
  pub updater : UpdaterState
  -- the lines that the updater answered
  pub answered : List Answered

-- it was number i of the plan: run over a link of which nothing was read, by a fresh updater; the link's count of faults
-- is of exactly the fault that ended it, and without one all that was written was sent before the link was closed
pub record IsServed (plan : ServePlan) (most i : ℕ) (s : Served) : Type 0 where
  pub link : Option Traffic
  pub untouched : IfSome link IsUntouched
  pub before : UpdaterState
  pub fresh : IsFresh plan i before
  pub pumps : ℕ
  pub ends : SessionEnds (shape_of plan) most (session_state link before 0) (session_state s.ended.traffic s.updater pumps) s.end
  pub answers : s.answered ≡ answered_in (shape_of plan) most (session_state link before 0) (session_state s.ended.traffic s.updater pumps) ends.due ends.comes
  pub fault : s.end ≡ LinkFault → s.ended.faults ≡ 1
  pub steady : s.end ≢ LinkFault → s.ended.faults ≡ 0
  pub sent : s.end ≢ LinkFault → s.end ≢ OutOfMemory → s.ended.waiting ≡ 0

-- they were those from this number on, in order
abbrev pub AreServed : ServePlan → ℕ → ℕ → List Served → Type 0
AreServed plan most from sessions = (i : ℕ) (d : Served) → i < length sessions → IsServed plan most (from + i) (slice_index_or sessions i d)

-- ---- one list of updates for all of them

-- what session i was answered is of this list
pub record IsOfList (plan : ServePlan) (i : ℕ) (s : Served) (list : List Entry) : Type 0 where
  -- the list has of it exactly the items of the adds that were answered `kept`, in order
  pub kept : entries_by i list ≡ items_kept plan.seed s.answered
  -- each answer is of a prefix of the list, no shorter than the one before
  pub answers : SayOfOneList plan.k plan.seed i (size_at plan.sizes i) [] [] s.answered list
  -- what was kept before it is the cause of each `busy`
  pub busy : AreBusyBehind (size_at plan.sizes i) s.answered
  -- its link's record holds the replies; if no call of it failed all of them, and sent
  pub replies : s.end ≢ OutOfMemory → HoldsReplies s.ended s.answered

-- all these sessions share one list of updates, which are of the hub's updaters
pub record ShareOneList (plan : ServePlan) (sessions : List Served) : Type 0 where
  pub list : List Entry
  pub only : All (IsEntry plan.sessions) list
  pub are : (i : ℕ) (d : Served) → i < length sessions → IsOfList plan i (slice_index_or sessions i d) list

-- ---- what a heart shows of them

-- the list has of number i exactly what the session's updater kept, and continues all that this saw and filtered by
pub record IsListed (i : ℕ) (s : Served) (list : List Entry) : Type 0 where
  pub kept : entries_by i list ≡ kept_of s.updater
  pub seen : Begins s.updater.view.seen list
  pub base : Begins (base_of s.updater) list

-- the heart drained the updaters of all sessions, in number order, knows what each kept, and then loaded the word of
-- exactly that
pub record ShowsSessions (plan : ServePlan) (sessions : List Served) (h : HeartState) : Type 0 where
  pub drained : h.view.drained ≡ range_with_len 0 plan.sessions
  pub known : (i : ℕ) → i < plan.sessions → known_of h.view i ≡ entries_by i h.view.seen
  pub listed : (i : ℕ) (d : Served) → i < length sessions → IsListed i (slice_index_or sessions i d) h.view.seen
  pub entries : All (IsEntry plan.sessions) h.view.seen
  pub steps : (earlier : List Move) × (h.view.steps ≡ earlier ++ Ask (packed_of plan.k (items_of_entries h.view.seen)) ∷ [])

-- ---- all of them

-- the records of their links, in order, and how they ended
abbrev pub links_of : List Served → List Ended
links_of sessions = map (λ s. s.ended) sessions

abbrev pub ends_of : List Served → List End
ends_of sessions = map (λ s. s.end) sessions

-- the items of all adds that were answered `kept` or `filtered`
abbrev pub all_offered : ℕ → List Served → List ℕ
all_offered seed sessions = flat_map (λ s. items_offered seed s.answered) sessions

-- all sessions of the plan were served at its port, none out of memory; their links, in number order, are those that
-- came, in order, and were closed so, and the heart shows them
pub record ServesSessions (plan : ServePlan) (most : ℕ) (before now : Doorway) (sessions : List Served) (h : HeartState) : Type 0 where
  pub listens : now.port ≡ Some plan.port
  pub count : length sessions ≡ plan.sessions
  pub served : AreServed plan most 0 sessions
  pub memory : All (λ s. s.end ≢ OutOfMemory) sessions
  pub passes : Pass before now (links_of sessions)
  pub shows : ShowsSessions plan sessions h

-- ---- links that were accepted

-- each link that a door accepted between was closed, as far as its count of them can say
pub record AreClosed (accepted accepted' : ℕ) (before now : Doorway) : Type 0 where
  pub closed : List Ended
  pub records : now.closed ≡ before.closed ++ closed
  pub as_many : min accepted' (2 ^ 64 - 1) ≡ min (accepted + length closed) (2 ^ 64 - 1)

-- ---- when no further link is served

-- nothing was read of the link or written on it
pub record IsUnread (ended : Ended) : Type 0 where
  pub untouched : IfSome ended.traffic IsUntouched
  pub faults : ended.faults ≡ 0
  pub waiting : ended.waiting ≡ 0

-- whole waves of sessions were served, which share one list, and of the next wave some links were accepted and closed
-- unread, all in the order in which they came; at a fault of the door fewer links came than the plan has sessions
pub record StopsServing (plan : ServePlan) (most : ℕ) (before now : Doorway) (fault : ServeFault) : Type 0 where
  pub sessions : List Served
  pub unread : List Ended
  pub served : AreServed plan most 0 sessions
  pub share : ShareOneList plan sessions
  pub none : All IsUnread unread
  pub passes : Pass before now (links_of sessions ++ unread)
  pub listens : 0 < length sessions + length unread → now.port ≡ Some plan.port
  pub waves : ℕ
  pub whole : length sessions ≡ min (waves * plan.wave) plan.sessions
  pub in_wave : length unread < plan.wave
  pub within : length sessions + length unread ≤ plan.sessions
  pub fewer : fault ≡ NetFault → length sessions + length unread < plan.sessions
