-- Links that are accepted, one after another.
use Rattle.std.proofs.Common.{◌≡◌, ℕ, ◌+◌, List, [], ◌∷◌, ◌++◌, ◌-◌, ◌^◌, ◌<◌, ◌≤◌, min, length, Option, Some, Result, Err, IsErrOf, sym, ap, subst, ◌∙◌, arith}
use Rattle.std.proofs.lemmas.List.{length-map}
use Rattle.atomic_table.specs.Seated.{TableId}
use Rattle.sk_model.specs.Causes.{HasCauseIn}
use Rattle.sk_model.specs.Entries.{Entry}
use Rattle.sk_compose.specs.Numbers.{k_of}
use Rattle.sk_hub.specs.Drains.{IsNew}
use Rattle.sk_hub.specs.Hearts.{HeartState}
use Rattle.sk_hub.specs.Updaters.{UpdaterState}
use Rattle.sk_line.specs.declared.sessions.End.{End}
use Rattle.sk_report.specs.Sizes.{size_at}
use Rattle.sk_serve.specs.declared.plan.ServePlan.{ServePlan}
use Rattle.sk_serve.specs.Plans.{IsServable}
use Rattle.sk_serve.specs.Served.{IsFresh, Served, links_of}
use Rattle.sk_serve.specs.Doors.{DoorView, LetsIn}
use Rattle.sk_serve.specs.Waves.{Visit, CanServe, IsHeartOf, IsNewHub, IsReady, AreReady, ServesSome, left_after, next_count}
use Rattle.sk_serve.proofs.Each.{each_none, each_last}

pub new_fresh : (hint_of : List ℕ → List Entry → ℕ) (plan : ServePlan) (i b : ℕ) (h : HeartState) (u : UpdaterState) → IsNew hint_of i b h u → b ≡ size_at plan.sizes i → IsHeartOf plan h → IsFresh plan i u
new_fresh hint_of plan i b h u new b_is hub = record { number_is = new.number_is; size_is = new.size_is ∙ b_is; k = ap k_of new.numbers ∙ hub.k; eager_is = new.eager ∙ hub.eager_is; kept = new.kept; base = new.base; seen = new.seen }

-- ---- a heart that admits

pub admitted_none : (h : HeartState) → h ≡ record h { admitted = h.admitted + 0 }
admitted_none h = let same : h.admitted ≡ h.admitted + 0 = omega arith in ap (λ n. record h { admitted = n }) same

pub admitted_more : (h h1 h2 : HeartState) (n : ℕ) → h1 ≡ record h { admitted = h.admitted + n } → h2 ≡ record h1 { admitted = h1.admitted + 1 } → h2 ≡ record h { admitted = h.admitted + (n + 1) }
admitted_more h h1 h2 n first then =
    let next : h.admitted + n + 1 ≡ h.admitted + (n + 1) = omega arith in
    then ∙ ap (λ (z : HeartState). record z { admitted = z.admitted + 1 }) first ∙ ap (λ m. record h { admitted = m }) next

-- it admitted some, and then maybe more
pub admits_then : (h h1 h2 : HeartState) (n : ℕ) → h1 ≡ record h { admitted = n } → h2 ≡ record h1 { admitted = h2.admitted } → h2 ≡ record h { admitted = h2.admitted }
admits_then h h1 h2 n first then = then ∙ ap (λ (z : HeartState). record z { admitted = h2.admitted }) first

-- after some were admitted, and their links accepted, one more can be
pub still_can : (plan : ServePlan) (count n : ℕ) (h h1 : HeartState) (a b : DoorView) (texts : List (Option (List ℕ))) → n < count → h1 ≡ record h { admitted = h.admitted + n } → LetsIn texts a b → CanServe plan count h a → CanServe plan 1 h1 b
still_can plan count n h h1 a b texts below is came can = record {
  within = can.within;
  hub = subst (IsHeartOf plan) (sym is) (record { updaters = can.hub.updaters; k = can.hub.k; eager_is = can.hub.eager_is });
  vacant = let admitted : h1.admitted ≡ h.admitted + n = ap (λ z. z.admitted) is in omega (arith, below, admitted, can.vacant);
  listens = came.arrive.port ∙ can.listens;
  room = omega (arith, below, can.room, came.room);
}

-- a new hub at a door that listens
pub can_begin : (plan : ServePlan) (h : HeartState) (a : DoorView) → IsServable plan → IsNewHub plan h → a.doorway.port ≡ Some plan.port → a.room ≡ plan.sessions → CanServe plan plan.sessions h a
can_begin plan h a within new listens room = record { within = within; hub = new.hub; vacant = omega (arith, new.admitted); listens = listens; room = omega (arith, room) }

-- the next wave can be, of those that are left
pub can_next : (plan : ServePlan) (h : HeartState) (a : DoorView) (count : ℕ) → count ≡ next_count plan h → CanServe plan (left_after plan h) h a → CanServe plan count h a
can_next plan h a count is can = record { within = can.within; hub = can.hub; vacant = omega (arith, is, can.vacant); listens = can.listens; room = omega (arith, is, can.room) }

-- after some waves, those that are left can be
pub can_go_on : (plan : ServePlan) (most : ℕ) (h h' : HeartState) (a b : DoorView) (ends : List End) (sessions : List Served) → CanServe plan plan.sessions h a → ServesSome plan most h h' a b ends sessions → length sessions ≤ plan.sessions → CanServe plan (left_after plan h') h' b
can_go_on plan most h h' a b ends sessions can s within =
    let links : length (links_of sessions) ≡ length sessions = length-map sessions (λ (z : Served). z.ended) in record {
      within = can.within;
      hub = s.hub;
      vacant = omega (arith, s.heart.admitted, within);
      listens = s.through.port ∙ can.listens;
      room = omega (arith, s.through.room, links, can.room, s.heart.admitted);
    }

-- all that a hub can admit is still to come
pub is_new : (plan : ServePlan) (h : HeartState) (a : DoorView) → CanServe plan plan.sessions h a → h.view.drained ≡ [] → IsNewHub plan h
is_new plan h a can drained = record { hub = can.hub; admitted = omega (arith, can.vacant); drained = drained }

-- ---- jobs

pub ready_none : {J : Type 0} (plan : ServePlan) (table : TableId) (from : ℕ) (visit_of : J → Visit) (jobs : List J) → jobs ≡ [] → AreReady plan table from visit_of jobs
ready_none plan table from visit_of jobs none = subst (AreReady plan table from visit_of) (sym none) (each_none (λ i job. IsReady plan table i (visit_of job)) from)

pub ready_more : {J : Type 0} (plan : ServePlan) (h h1 : HeartState) (n : ℕ) (visit_of : J → Visit) (jobs jobs' : List J) (job : J) → h1 ≡ record h { admitted = h.admitted + n } → length jobs ≡ n → jobs' ≡ jobs ++ job ∷ []
    → AreReady plan h.table h.admitted visit_of jobs → IsReady plan h1.table h1.admitted (visit_of job) → AreReady plan h.table h.admitted visit_of jobs'
ready_more plan h h1 n visit_of jobs jobs' job h1_is count more ready this =
    let table : h1.table ≡ h.table = ap (λ z. z.table) h1_is in
    let number : h1.admitted ≡ h.admitted + length jobs = ap (λ z. z.admitted) h1_is ∙ ap (λ m. h.admitted + m) (sym count) in
    subst (AreReady plan h.table h.admitted visit_of) (sym more)
    (each_last (λ i (j : _). IsReady plan h.table i (visit_of j)) h.admitted jobs job ready
    (subst (λ m. IsReady plan h.table m (visit_of job)) number (subst (λ t. IsReady plan t h1.admitted (visit_of job)) table this)))

-- ---- counts of faults

pub cause_so : {T E : Type 0} (f : E) (before before' now now' : ℕ) (r : Result T E) → before' ≡ before → now' ≡ now → HasCauseIn f before' now r → HasCauseIn f before now' r
cause_so f before before' now now' r same_before same_now cause = subst (λ n. HasCauseIn f n now' r) same_before (subst (λ n. HasCauseIn f before' n r) (sym same_now) cause)

-- an error that is handed on, between which other calls moved no count
pub cause_of_err : {T U E : Type 0} (f e : E) (before before' now now' : ℕ) → before' ≡ before → now' ≡ now → HasCauseIn {T = T} f before' now (Err e) → HasCauseIn {T = U} f before now' (Err e)
cause_of_err {T} {U} {E} f e before before' now now' same_before same_now cause = record {
  steady = λ other. same_now ∙ cause.steady (λ is. other (err_of e f is)) ∙ same_before;
  failed = λ is. same_now ∙ cause.failed (err_of e f is) ∙ ap (λ n. min (n + 1) (2 ^ 64 - 1)) same_before;
}
  where
    err_of : {A B : Type 0} (x y : E) → IsErrOf {T = A} (Err x) y → IsErrOf {T = B} (Err x) y
    err_of x y is = let same : x ≡ y = cc in ap (λ (z : E). Err z) same
