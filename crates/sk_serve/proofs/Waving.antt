-- Waves, one after another.
use Rattle.std.proofs.Common.{◌≡◌, ℕ, ◌+◌, ◌*◌, ◌-◌, ◌<◌, min, ◌≤◌, zero, suc, List, [], ◌∷◌, ◌++◌, length, map, get_or, Option, Some, refl, sym, ap, subst, ◌∙◌, arith, length-append}
use Rattle.std.specs.List.{range_with_len}
use Rattle.std.proofs.lemmas.List.{map-append, get_or-map, length-map}
use Rattle.std.proofs.lemmas.List.Elements.{All-nil, All-append}
use Rattle.std.proofs.Math.Nat.{suc-mul, mul-le-mul_left}
use Rattle.sk_io.specs.Traffic.{Doorway, Ended, text_of}
use Rattle.sk_io.proofs.Doors.{pass_none, pass_from}
use Rattle.sk_compose.specs.Numbers.{k_of}
use Rattle.sk_hub.specs.Hearts.{HeartState}
use Rattle.sk_hub.specs.Drains.{HasTakenIn}
use Rattle.sk_hub.specs.Updaters.{UpdaterState}
use Rattle.sk_hub.proofs.Taking.{taken_with_view}
use Rattle.sk_line.specs.declared.sessions.End.{End}
use Rattle.sk_machine.specs.Coarse.{IsEntry}
use Rattle.sk_model.proofs.Lists.{range_split}
use Rattle.sk_serve.specs.declared.fault.ServeFault.{ServeFault}
use Rattle.sk_serve.specs.declared.fault.ServeFault.TheVariants.{NetFault}
use Rattle.sk_serve.specs.declared.plan.ServePlan.{ServePlan}
use Rattle.sk_serve.specs.Doors.{DoorView, LetsIn, LetsOut, LetsThrough}
use Rattle.sk_serve.specs.Plans.{IsServable}
use Rattle.sk_serve.specs.Served.{Served, IsServed, AreServed, IsUnread, ShareOneList, StopsServing, links_of, ends_of}
use Rattle.sk_serve.specs.Waves.{Visit, texts_by, ClosesUnread, StopsShort, StopsInWave, ClosesLinks, DrainsFrom, ServesWave, ServesSome, IsNewHub, next_count}
use Rattle.sk_serve.proofs.Closed.{closes_none, closes_more, through_none, through_late, through_more}
use Rattle.sk_serve.proofs.Each.{each_none, each_append}

-- ---- records of links

pub records_append : (xs ys : List Served) → links_of (xs ++ ys) ≡ links_of xs ++ links_of ys
records_append xs ys = map-append (λ (s : Served). s.ended) xs ys

pub unread_none : (door : DoorView) → ClosesUnread [] door door
unread_none door = record { unread = []; none = All-nil IsUnread; closes = closes_none door }

pub unread_more : (texts : List (Option (List ℕ))) (a b c : DoorView) (e : Ended) → ClosesUnread texts a b → IsUnread e
    → c.doorway ≡ record b.doorway { closed = b.doorway.closed ++ e ∷ [] } → c.accepted ≡ b.accepted → c.room + 1 ≡ b.room → c.faults ≡ b.faults → ClosesUnread (texts ++ text_of e.traffic ∷ []) a c
unread_more texts a b c e u unread doorway accepted room faults = record {
  unread = u.unread ++ e ∷ [];
  none = All-append IsUnread u.unread (e ∷ []) u.none one;
  closes = closes_more texts u.unread a b c e u.closes doorway accepted room faults;
}
  where
    one : (i : ℕ) (d : Ended) → i < 1 → IsUnread (get_or (e ∷ []) i d)
    one zero d within = unread
    one (suc i) d within = absurd (omega arith)

-- the door can close the next of these
pub unread_room : {J : Type 0} (visit_of : J → Visit) (jobs before : List J) (job : J) (rest : List J) (a b : DoorView) → before ++ job ∷ rest ≡ jobs → ClosesUnread (texts_by visit_of before) a b → length jobs ≤ a.room → 0 < b.room
unread_room visit_of jobs before job rest a b all u room =
    let closed : length u.unread ≡ length before = sym (length-map u.unread (λ (z : Ended). text_of z.traffic)) ∙ ap length u.closes.are ∙ length-map before (λ j. text_of (visit_of j).link.traffic) in
    let split : length before + length (job ∷ rest) ≡ length jobs = sym (length-append before (job ∷ rest)) ∙ ap length all in
    omega (arith, closed, split, room, u.closes.room)

-- links that came, and then were closed unread
pub stops_short : (count n : ℕ) (texts : List (Option (List ℕ))) (a b b' c : DoorView) → LetsIn texts a b → b' ≡ record b { faults = b'.faults } → length texts ≡ n → n < count → ClosesUnread texts b' c → StopsShort count a c
stops_short count n texts a b b' c came same len below u = record {
  unread = u.unread;
  fewer = omega (arith, below, len, ap length u.closes.are, length-map u.unread (λ (z : Ended). text_of z.traffic));
  none = u.none;
  through = through_late texts u.unread a b b' c came same u.closes;
}

-- none came
pub stops_at_once : (count : ℕ) (a : DoorView) → 0 < count → StopsShort count a a
stops_at_once count a some = record { unread = []; fewer = some; none = All-nil IsUnread; through = through_none a }

-- ---- a wave

pub a_wave : (plan : ServePlan) (most n : ℕ) (h h1 h2 : HeartState) (a b c : DoorView) (texts texts' : List (Option (List ℕ))) (ends ends' : List End) (us : List UpdaterState) → n ≡ next_count plan h → LetsIn texts a b → texts' ≡ texts → h1 ≡ record h { admitted = h.admitted + next_count plan h }
    → ClosesLinks plan most h.table h.admitted n texts' b c ends ends' us → DrainsFrom h.admitted h1 us h2 → ServesWave plan most h h2 a c ends ends'
a_wave plan most n h h1 h2 a b c texts texts' ends ends' us n_is came same h1_is l d = record {
  sessions = l.sessions;
  as_many = l.as_many ∙ n_is;
  served = l.served;
  through = through_late texts (links_of l.sessions) a b b c came refl (subst (λ t. LetsOut t (links_of l.sessions) b c) same l.closes);
  ended = l.ended;
  drains = subst (λ l'. DrainsFrom h.admitted (record h { admitted = h.admitted + next_count plan h }) l' h2) l.updaters (subst (λ z. DrainsFrom h.admitted z us h2) h1_is d);
}

-- ---- all so far

pub none_served : (plan : ServePlan) (most : ℕ) (h : HeartState) (door : DoorView) (ends : List End) → ends ≡ [] → IsNewHub plan h → ServesSome plan most h h door door ends []
none_served plan most h door ends none new = record {
  served = each_none (IsServed plan most) 0;
  through = through_none door;
  ended = none;
  heart = record { admitted = new.admitted; drained = new.drained; numbered = λ i d within. absurd (omega arith); taken_in = All-nil (λ s. HasTakenIn h s.updater) };
  hub = new.hub;
  table = refl;
}

-- of sessions that were served and of those of a wave
both : (P : ℕ → UpdaterState → Type 0) (xs ys : List Served) (from : ℕ) → from ≡ length xs → ((i : ℕ) (d : Served) → i < length xs → P i (get_or xs i d).updater) → ((i : ℕ) (d : UpdaterState) → i < length (map (λ (s : Served). s.updater) ys) → P (from + i) (get_or (map (λ (s : Served). s.updater) ys) i d)) → (i : ℕ) (d : Served) → i < length (xs ++ ys) → P i (get_or (xs ++ ys) i d).updater
both P xs ys from from_is first then i d within =
    let here : 0 + i ≡ i = omega arith in
    subst (λ n. P n (get_or (xs ++ ys) i d).updater) here
    (each_append (λ n (s : Served). P n s.updater) 0 xs ys
    (λ j e inside. let there : j ≡ 0 + j = omega arith in subst (λ n. P n (get_or xs j e).updater) there (first j e inside))
    (λ j e inside.
    let there : from + j ≡ 0 + length xs + j = omega (arith, from_is) in
    let inside' : j < length (map (λ (s : Served). s.updater) ys) = omega (arith, inside, length-map ys (λ (s : Served). s.updater)) in
    subst (λ n. P n (get_or ys j e).updater) there (subst (P (from + j)) (get_or-map (λ (s : Served). s.updater) ys j e e.updater inside) (then j e.updater inside')))
    i d within)

pub wave_more : (plan : ServePlan) (most : ℕ) (h h1 h2 : HeartState) (a b c : DoorView) (ends ends' : List End) (sessions : List Served) → ServesSome plan most h h1 a b ends sessions → (w : ServesWave plan most h1 h2 b c ends ends') → ServesSome plan most h h2 a c ends' (sessions ++ w.sessions)
wave_more plan most h h1 h2 a b c ends ends' sessions s w = record {
  served = each_append (IsServed plan most) 0 sessions w.sessions s.served (let from : h1.admitted ≡ 0 + length sessions = omega (arith, s.heart.admitted) in subst (λ n. AreServed plan most n w.sessions) from w.served);
  through = subst (λ l. LetsThrough l a c) (sym (records_append sessions w.sessions)) (through_more (links_of sessions) (links_of w.sessions) a b c s.through w.through);
  ended = w.ended ∙ ap (λ l. l ++ ends_of w.sessions) s.ended ∙ sym (map-append (λ (z : Served). z.end) sessions w.sessions);
  heart = record {
    admitted = let is = w.drains.admitted in omega (arith, is, s.heart.admitted, w.as_many, length-append sessions w.sessions);
    drained = w.drains.drained ∙ ap (λ l. l ++ range_with_len h1.admitted (length (map (λ (z : Served). z.updater) w.sessions))) s.heart.drained ∙ ranged;
    numbered = both (λ i u. u.number ≡ i) sessions w.sessions h1.admitted s.heart.admitted s.heart.numbered w.drains.numbered;
    taken_in = both (λ i u. HasTakenIn h2 u) sessions w.sessions h1.admitted s.heart.admitted
        (λ i d within. w.drains.stays (get_or sessions i d).updater (omega (arith, within, s.heart.admitted, s.heart.numbered i d within))
        (taken_with_view h1 (record h1 { admitted = h1.admitted + next_count plan h1 }) (get_or sessions i d).updater refl (s.heart.taken_in i d within)))
        w.drains.taken_in;
  };
  hub = record { updaters = w.drains.updaters ∙ s.hub.updaters; k = ap k_of w.drains.numbers ∙ s.hub.k; eager_is = w.drains.eager ∙ s.hub.eager_is };
  table = w.drains.table ∙ s.table;
}
  where
    ranged : range_with_len 0 (length sessions) ++ range_with_len h1.admitted (length (map (λ (z : Served). z.updater) w.sessions)) ≡ range_with_len 0 (length (sessions ++ w.sessions))
    ranged =
        let from : h1.admitted ≡ 0 + length sessions = omega (arith, s.heart.admitted) in
        ap (λ n. range_with_len 0 (length sessions) ++ range_with_len n (length (map (λ (z : Served). z.updater) w.sessions))) from
        ∙ ap (λ n. range_with_len 0 (length sessions) ++ range_with_len (0 + length sessions) n) (length-map w.sessions (λ (z : Served). z.updater))
        ∙ sym (range_split 0 (length sessions) (length w.sessions))
        ∙ ap (range_with_len 0) (sym (length-append sessions w.sessions))

-- it adds an end for each of its sessions
pub wave_ends : (plan : ServePlan) (most : ℕ) (h h' : HeartState) (a b : DoorView) (ends ends' : List End) → (w : ServesWave plan most h h' a b ends ends') → length ends' ≡ length ends + length w.sessions
wave_ends plan most h h' a b ends ends' w = ap length w.ended ∙ length-append ends (ends_of w.sessions) ∙ ap (λ n. length ends + n) (length-map w.sessions (λ (z : Served). z.end))

-- ---- a server that stops early

-- before the first wave
pub stops_first : (plan : ServePlan) (most : ℕ) (h : HeartState) (door : DoorView) → IsServable plan → IsNewHub plan h → StopsInWave plan most h h door door
stops_first plan most h door within new = record {
  sessions = [];
  ends = [];
  last = h;
  between = door;
  some = none_served plan most h door [] refl new;
  left = omega (arith, within.sessions.0);
  waves = 0;
  whole = omega arith;
  short = stops_at_once (next_count plan h) door (omega (arith, new.admitted, within.sessions.0, within.wave));
  heart = refl;
}

-- a wave was not accepted whole
pub stops : (plan : ServePlan) (most : ℕ) (fault : ServeFault) (h h' : HeartState) (a c : DoorView) → a.doorway.port ≡ Some plan.port → (s : StopsInWave plan most h h' a c) → ShareOneList plan s.sessions → StopsServing plan most a.doorway c.doorway fault
stops plan most fault h h' a c port s share =
    let u = s.short in
    let all : length s.sessions + length u.unread < plan.sessions = omega (arith, u.fewer, s.left, s.some.heart.admitted) in
    record {
      sessions = s.sessions;
      unread = u.unread;
      served = s.some.served;
      share = share;
      none = u.none;
      passes = (through_more (links_of s.sessions) u.unread a s.between c s.some.through u.through).passes;
      listens = λ _. u.through.port ∙ s.some.through.port ∙ port;
      waves = s.waves;
      whole = s.whole;
      in_wave = omega (arith, u.fewer);
      within = omega (arith, all);
      fewer = λ _. all;
    }

-- all waves were served
pub stops_after_all : (plan : ServePlan) (most : ℕ) (fault : ServeFault) (h h' : HeartState) (a b : DoorView) (ends : List End) (sessions : List Served) → IsServable plan → a.doorway.port ≡ Some plan.port → ¬ (fault ≡ NetFault) → ServesSome plan most h h' a b ends sessions → length sessions ≡ plan.sessions
    → ShareOneList plan sessions → StopsServing plan most a.doorway b.doorway fault
stops_after_all plan most fault h h' a b ends sessions within port other s all share = record {
  sessions = sessions;
  unread = [];
  served = s.served;
  share = share;
  none = All-nil IsUnread;
  passes = (through_more (links_of sessions) [] a b b s.through (through_none b)).passes;
  listens = λ _. s.through.port ∙ port;
  waves = plan.sessions;
  whole = all ∙ all_waves plan.sessions plan.wave within.wave;
  in_wave = within.wave;
  within = omega (arith, all);
  fewer = λ is. absurd (other is);
}
  where
    -- a wave for each session is enough
    all_waves : (n wave : ℕ) → 1 ≤ wave → n ≡ min (n * wave) n
    all_waves n wave some = omega (arith, some, mul-le-mul_left {m = 1} {n = wave} n some)

-- nothing was accepted
pub none_accepted : (plan : ServePlan) (most : ℕ) (fault : ServeFault) (before now : Doorway) → IsServable plan → now.coming ≡ before.coming → now.closed ≡ before.closed → StopsServing plan most before now fault
none_accepted plan most fault before now within coming closed = record {
  sessions = [];
  unread = [];
  served = each_none (IsServed plan most) 0;
  share = record { list = []; only = All-nil (IsEntry plan.sessions); are = λ i d inside. absurd (omega arith) };
  none = All-nil IsUnread;
  passes = pass_none before now coming closed;
  listens = λ some. absurd (omega arith);
  waves = 0;
  whole = omega arith;
  in_wave = omega (arith, within.wave);
  within = omega arith;
  fewer = λ _. omega (arith, within.sessions.0);
}

-- the same from a door that shows the same links, maybe at another port
pub stops_from : (plan : ServePlan) (most : ℕ) (fault : ServeFault) (before before' now : Doorway) → before'.coming ≡ before.coming → before'.closed ≡ before.closed → StopsServing plan most before' now fault → StopsServing plan most before now fault
stops_from plan most fault before before' now coming closed s = record {
  sessions = s.sessions;
  unread = s.unread;
  served = s.served;
  share = s.share;
  none = s.none;
  passes = pass_from before before' now _ coming closed s.passes;
  listens = s.listens;
  waves = s.waves;
  whole = s.whole;
  in_wave = s.in_wave;
  within = s.within;
  fewer = s.fewer;
}

-- if some sessions are left after these waves, the next wave serves them or a whole wave of them
pub next_wave : (waves wave served sessions count : ℕ) → served ≡ min (waves * wave) sessions → served < sessions → count ≡ min wave (sessions - served) → served + count ≡ min (suc waves * wave) sessions
next_wave waves wave served sessions count is left count_is =
    omega (arith, is, left, count_is, suc-mul waves wave)
