-- What a heart shows after its last ask, and what is due for it.
use Rattle.std.proofs.Common.{◌≡◌, ◌≢◌, ℕ, ◌+◌, ◌<◌, List, [], ◌∷◌, ◌++◌, length, map, get_or, All, Contains, Option, Some, Result, Ok, Err, IsErrAnd, refl, sym, ap, subst, ◌∙◌, arith}
use Rattle.std.specs.List.{range_with_len}
use Rattle.std.specs.Io.KnownBytes.{Appends}
use Rattle.std.proofs.lemmas.List.{get_or-map, length-map}
use Rattle.std.proofs.lemmas.List.Elements.{All-map}
use Rattle.std.proofs.lemmas.List.FromFn.{length-range_with_len, get_or-range_with_len}
use Rattle.sk_model.specs.Causes.{AppendsPart}
use Rattle.sk_model.specs.Entries.{Entry, items_of_entries, entries_by}
use Rattle.sk_model.specs.Sketch.{packed_of, unpacked, count_of, theta_of, fraction_of}
use Rattle.sk_model.specs.Width.{IsItem, AreItems}
use Rattle.sk_model.proofs.Missing.{begins_trans}
use Rattle.sk_model.proofs.Sketch.{packed_reads_back}
use Rattle.sk_compose.specs.Numbers.{k_of}
use Rattle.sk_lines.specs.Fractions.{estimate_line}
use Rattle.sk_machine.specs.Coarse.{IsEntry}
use Rattle.sk_machine.specs.declared.views.Move.TheVariants.{Ask}
use Rattle.sk_gate.specs.Hands.{TokenState}
use Rattle.sk_gate.specs.Views.{known_of}
use Rattle.sk_hub.specs.Hearts.{HeartState, IsWholeHeart}
use Rattle.sk_hub.specs.Replies.{IsRelaxedReply, HasDrained}
use Rattle.sk_io.specs.Traffic.{Doorway}
use Rattle.sk_io.proofs.Doors.{pass_from}
use Rattle.sk_theta.specs.declared.reply.Reply.{Reply}
use Rattle.sk_watch.specs.Masks.{mask_of}
use Rattle.sk_watch.specs.Places.{Place, answers_at, told}
use Rattle.sk_line.specs.declared.sessions.End.{End}
use Rattle.sk_line.specs.declared.sessions.End.TheVariants.{OutOfMemory}
use Rattle.sk_report.specs.Texts.{alarm_lines, reply_of, armed_with}
use Rattle.sk_serve.specs.declared.plan.ServePlan.{ServePlan}
use Rattle.sk_report.specs.declared.remains.Remains.{Remains}
use Rattle.sk_serve.specs.declared.fault.ServeFault.{ServeFault}
use Rattle.sk_serve.specs.declared.fault.ServeFault.TheVariants as fault
use Rattle.sk_serve.specs.Around.{Surroundings, surroundings, armed_for}
use Rattle.sk_serve.specs.Doors.{DoorView}
use Rattle.sk_serve.specs.Headline.{ServesExactly}
use Rattle.sk_serve.specs.Plans.{IsServable}
use Rattle.sk_serve.specs.Served.{Served, IsServed, AreServed, IsListed, ShareOneList, ShowsSessions, ServesSessions, StopsServing, ends_of}
use Rattle.sk_hub.proofs.Taking.{exactly_taken, taken_with_view}
use Rattle.sk_serve.specs.Waves.{IsHeartOf, HasDrainedThem, ServesSome, ServesAndAsks}
use Rattle.sk_serve.specs.Texts.{session_lines, served_text}
use Rattle.sk_serve.specs.Serves.{WritesPart, ServeEnds, ServesPlan}
use Rattle.sk_serve.proofs.Conclusions.{of_list, one_estimate, shares_list}

-- ---- the last ask

-- how the sketch packs a list
abbrev pub packed : List ℕ → List Entry → ℕ
packed numbers list = packed_of (k_of numbers) (items_of_entries list)

in_range : (n i : ℕ) → i < n → Contains (range_with_len 0 n) i
in_range n i below =
    let place : 0 + i ≡ i = omega arith in
    (i, omega (arith, below, length-range_with_len 0 n), get_or-range_with_len 0 n i i below ∙ place)

pub word_is : (plan : ServePlan) (h h' : HeartState) (word : ℕ) → IsHeartOf plan h → IsRelaxedReply packed h.view word h'.view → word ≡ packed_of plan.k (items_of_entries h'.view.seen)
word_is plan h h' word hub r = r.value ∙ ap (λ k. packed_of k (items_of_entries h'.view.seen)) hub.k

-- what the list has of sessions whose updaters a heart drained, after an ask; it may have admitted others before that
lists : (h h' h'' : HeartState) (sessions : List Served) (word : ℕ) → HasDrainedThem sessions h → h' ≡ record h { admitted = h'.admitted } → IsRelaxedReply packed h'.view word h''.view → HasDrained h'.view h''.view → (i : ℕ) (d : Served) → i < length sessions → IsListed i (get_or sessions i d) h''.view.seen
lists h h' h'' sessions word s admits r drained i d inside =
    let u = (get_or sessions i d).updater in
    let taken = taken_with_view h h' u (ap (λ z. z.view) admits) (s.taken_in i d inside) in record {
      kept = ap (λ n. entries_by n h''.view.seen) (sym (s.numbered i d inside)) ∙ exactly_taken h' h'' u drained taken;
      seen = begins_trans _ _ _ taken.hears r.grows;
      base = begins_trans _ _ _ taken.base r.grows;
    }

all_entries : (plan : ServePlan) (h h' h'' : HeartState) (word : ℕ) → h' ≡ record h { admitted = h'.admitted } → IsWholeHeart h' → IsHeartOf plan h → IsRelaxedReply packed h'.view word h''.view → All (IsEntry plan.sessions) h''.view.seen
all_entries plan h h' h'' word admits whole hub r =
    subst (λ n. All (IsEntry n) h''.view.seen) (whole.sized ∙ ap (λ (z : HeartState). z.updaters) admits ∙ hub.updaters) r.entries

-- these sessions share the list of that ask
pub share_list : (plan : ServePlan) (most : ℕ) (h h' h'' : HeartState) (sessions : List Served) (word : ℕ) → AreServed plan most 0 sessions → HasDrainedThem sessions h → h' ≡ record h { admitted = h'.admitted } → IsWholeHeart h' → IsHeartOf plan h
    → IsRelaxedReply packed h'.view word h''.view → HasDrained h'.view h''.view → ShareOneList plan sessions
share_list plan most h h' h'' sessions word served d admits whole hub r drained = record {
  list = h''.view.seen;
  only = all_entries plan h h' h'' word admits whole hub r;
  are = λ i e inside.
      let session = get_or sessions i e in
      let here : 0 + i ≡ i = omega arith in
      of_list plan most i session h''.view.seen (subst (λ n. IsServed plan most n session) here (served i e inside)) (lists h h' h'' sessions word d admits r drained i e inside);
}

pub shows : (plan : ServePlan) (sessions : List Served) (h h' : HeartState) (word : ℕ) → length sessions ≡ plan.sessions → HasDrainedThem sessions h → IsWholeHeart h → IsHeartOf plan h → IsRelaxedReply packed h.view word h'.view → HasDrained h.view h'.view → ShowsSessions plan sessions h'
shows plan sessions h h' word count d whole hub r drained = record {
  drained = ap (λ v. v.drained) r.stays ∙ all_drained;
  known = λ i below. ap (λ v. known_of v i) r.stays ∙ sym (listed_at i below);
  listed = lists h h h' sessions word d refl r drained;
  entries = all_entries plan h h h' word refl whole hub r;
  steps = (h.view.steps, ap (λ v. v.steps) r.stays ∙ ap (λ n. h.view.steps ++ Ask n ∷ []) (word_is plan h h' word hub r));
}
  where
    all_drained : h.view.drained ≡ range_with_len 0 plan.sessions
    all_drained = d.drained ∙ ap (range_with_len 0) count

    listed_at : (i : ℕ) → i < plan.sessions → entries_by i h'.view.seen ≡ known_of h.view i
    listed_at i below = drained i (subst (λ l. Contains l i) (sym all_drained) (in_range plan.sessions i below))

-- no session ran out of memory
pub had_memory : (sessions : List Served) (ends : List End) → ends ≡ ends_of sessions → All (λ e. e ≢ OutOfMemory) ends → All (λ s. s.end ≢ OutOfMemory) sessions
had_memory sessions ends are all i d within =
    let inside : i < length ends = omega (arith, within, ap length are, length-map sessions (λ (s : Served). s.end)) in
    subst (λ (e : End). e ≢ OutOfMemory) (ap (λ l. get_or l i d.end) are ∙ get_or-map (λ (s : Served). s.end) sessions i d d.end within) (all i d.end inside)

pub all_served : (plan : ServePlan) (most : ℕ) (h h' h'' : HeartState) (a b : DoorView) (ends : List End) (sessions : List Served) (word : ℕ) → a.doorway.port ≡ Some plan.port → length sessions ≡ plan.sessions → ServesSome plan most h h' a b ends sessions → All (λ e. e ≢ OutOfMemory) ends → IsWholeHeart h'
    → IsRelaxedReply packed h'.view word h''.view → HasDrained h'.view h''.view → ServesSessions plan most a.doorway b.doorway sessions h''
all_served plan most h h' h'' a b ends sessions word port count s memory whole r drained = record {
  listens = s.through.port ∙ port;
  count = count;
  served = s.served;
  memory = had_memory sessions ends s.ended memory;
  passes = s.through.passes;
  shows = shows plan sessions h' h'' word count s.heart whole s.hub r drained;
}

pub served_from : (plan : ServePlan) (most : ℕ) (before before' now : Doorway) (sessions : List Served) (h : HeartState) → before'.coming ≡ before.coming → before'.closed ≡ before.closed → ServesSessions plan most before' now sessions h → ServesSessions plan most before now sessions h
served_from plan most before before' now sessions h coming closed s = record { listens = s.listens; count = s.count; served = s.served; memory = s.memory; passes = pass_from before before' now _ coming closed s.passes; shows = s.shows }

-- ---- the reply

items_of : (n : ℕ) (l : List Entry) → All (IsEntry n) l → AreItems (items_of_entries l)
unfolding items_of_entries
items_of n l all = All-map IsItem (λ (e : Entry). e.1) l (λ i d inside. (all i d inside).1)

-- both numbers of a reply
abbrev pub pair_of : Reply → ℕ × ℕ
pair_of reply = (reply.count, reply.theta)

module _ (plan : ServePlan) (list : List Entry) (entries : All (IsEntry plan.sessions) list) (word : ℕ) (word_of : word ≡ packed_of plan.k (items_of_entries list)) (reply : Reply) (reads : pair_of reply ≡ unpacked plan.k word) where
  reads_back : pair_of reply ≡ (count_of plan.k (items_of_entries list), theta_of plan.k (items_of_entries list))
  reads_back = reads ∙ ap (unpacked plan.k) word_of ∙ packed_reads_back plan.k (items_of_entries list) (items_of plan.sessions list entries)

  pub reply_is : reply ≡ reply_of plan.k list
  reply_is = λ i. record { count = (reads_back i).0; theta = (reads_back i).1 }

  -- what is written for it
  pub text_is : (places armed : List Place) (ends : List End) (sessions : List Served) (gone : ℕ) (estimate : ℕ × ℕ) → armed ≡ armed_with plan.k plan.alarms places → ends ≡ ends_of sessions → gone ≡ mask_of (map (answers_at reply) armed) → estimate ≡ fraction_of plan.k reply.count reply.theta
      → session_lines 0 ends ++ (alarm_lines gone ++ estimate_line estimate) ≡ served_text plan.k (armed_with plan.k plan.alarms places) (ends_of sessions) list
  text_is places armed ends sessions gone estimate armed_is ends_are gone_is estimate_is =
      ap (λ l. session_lines 0 l ++ (alarm_lines gone ++ estimate_line estimate)) ends_are
      ∙ ap (λ n. session_lines 0 (ends_of sessions) ++ (alarm_lines n ++ estimate_line estimate)) (gone_is ∙ ap (λ p. mask_of (map (answers_at reply) p)) armed_is ∙ ap (λ z. mask_of (map (answers_at z) (armed_with plan.k plan.alarms places))) reply_is)
      ∙ ap (λ z. session_lines 0 (ends_of sessions) ++ (alarm_lines (mask_of (map (answers_at (reply_of plan.k list)) (armed_with plan.k plan.alarms places))) ++ estimate_line z)) (estimate_is ∙ ap (λ z. fraction_of plan.k z.count z.theta) reply_is)

  pub places_are : (places armed places' : List Place) → armed ≡ armed_with plan.k plan.alarms places → places' ≡ map (told reply) armed → places' ≡ map (told (reply_of plan.k list)) (armed_with plan.k plan.alarms places)
  places_are places armed places' armed_is is = is ∙ ap (λ p. map (told reply) p) armed_is ∙ ap (λ z. map (told z) (armed_with plan.k plan.alarms places)) reply_is

-- ---- how a server ends

pub ends_by : (plan : ServePlan) (most : ℕ) (old new : Surroundings) (r : Result Remains ServeFault) (f : ServeFault) → IsErrAnd r (λ e. e ≡ f) → ServeEnds plan most old new f → ServesPlan plan most old new r
ends_by plan most old new (Ok x) f is ends = absurd is
ends_by plan most old new (Err e) f is ends = subst (ServeEnds plan most old new) (sym is) ends

-- otherwise than by a failed write
pub ends_early : (plan : ServePlan) (most : ℕ) (old new : Surroundings) (f : ServeFault) → f ≢ fault.WriteFault → StopsServing plan most old.door new.door f → new.places ≡ armed_for plan old.places → ServeEnds plan most old new f
ends_early plan most old new fault.NetFault other stops places = (stops, places)
ends_early plan most old new fault.OutOfMemory other stops places = (stops, places)
ends_early plan most old new fault.WriteFault other stops places = absurd (other refl)

module _ (plan : ServePlan) (most : ℕ) (w w' : Option (List ℕ)) (places armed places' : List Place) (before now : Doorway) (ends : List End) (h0 h : HeartState) (word : ℕ) (reply : Reply) (gone : ℕ) (estimate : ℕ × ℕ)
    (within : IsServable plan) (armed_is : armed ≡ armed_with plan.k plan.alarms places) (s : ServesAndAsks plan most h0 h before now ends word) (reads : pair_of reply ≡ unpacked plan.k word)
    (gone_is : gone ≡ mask_of (map (answers_at reply) armed)) (places_is : places' ≡ map (told reply) armed) (estimate_is : estimate ≡ fraction_of plan.k reply.count reply.theta) where
  text : session_lines 0 ends ++ (alarm_lines gone ++ estimate_line estimate) ≡ served_text plan.k (armed_with plan.k plan.alarms places) (ends_of s.sessions) h.view.seen
  text = text_is plan h.view.seen s.serves.shows.entries word s.word_is reply reads places armed ends s.sessions gone estimate armed_is s.ended gone_is estimate_is

  shown : places' ≡ map (told (reply_of plan.k h.view.seen)) (armed_with plan.k plan.alarms places)
  shown = places_are plan h.view.seen s.serves.shows.entries word s.word_is reply reads places armed places' armed_is places_is

  pub exactly : (token : TokenState) → token.table ≡ h0.table → Appends w w' (session_lines 0 ends ++ (alarm_lines gone ++ estimate_line estimate)) → ServesExactly plan most (surroundings w places before) (surroundings w' places' now) (record { heart = Some h; token = Some token })
  exactly token hub written = record {
    sessions = s.sessions;
    list = h.view.seen;
    written = subst (Appends w w') text written;
    estimate = one_estimate plan most before now s.sessions h within s.serves;
    board = shown;
    count = s.serves.count;
    shares = λ i d inside. shares_list plan most before now s.sessions h s.serves i d inside;
    port = s.serves.listens;
    links = s.serves.passes;
    hub = record { heart = h; token = token; left_is = refl; hub = hub ∙ sym s.table; list_is = refl; shows = s.serves.shows };
  }

  pub in_part : AppendsPart w w' (session_lines 0 ends ++ (alarm_lines gone ++ estimate_line estimate)) → WritesPart plan most (surroundings w places before) (surroundings w' places' now)
  in_part written = record { sessions = s.sessions; heart = h; serves = s.serves; places = shown; written = subst (AppendsPart w w') text written }
