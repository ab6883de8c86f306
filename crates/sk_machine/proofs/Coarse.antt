-- Each event keeps the invariant of the coarse machine.
use Rattle.std.proofs.Common.{◌≡◌, ◌≢◌, ℕ, ◌+◌, ◌*◌, ◌<◌, ◌≤◌, List, [], ◌∷◌, ◌++◌, length, Bool, true, false, true≢false, All, arith, length-append, append-nil, refl, sym, ap, ◌∙◌, subst}
use Rattle.std.proofs.lemmas.List.{length-map}
use Rattle.std.proofs.lemmas.List.Elements.{All-append, All-map, All-weaker, All-nil, All-tail}
use mathlib.Core.Logic.{dite}
use native.Mathlib.Decide.{ℕ_discrete}
use Rattle.sk_model.specs.Entries.{Entry, entries_by, tagged}
use Rattle.sk_model.specs.Missing.{Begins, LacksAtMost}
use Rattle.sk_model.proofs.Entries.{entries_by_append, entries_by_others, entries_by_more, entries_by_nil}
use Rattle.sk_model.proofs.Missing.{begins_refl, begins_more, begins_trans, begins_length, lacks_none, lacks_some, lacks_begins, missing_adds_up}
use Rattle.sk_machine.specs.Coarse.{most_entries, CoarseUpdater, Coarse, IsEntry, At, MayRest, IsBatch, IsBehindBy, IsClosed, MeetsUpdater, Meets, coarse_start, after_look, after_hand, after_rest, after_find, after_publish, after_give_back, after_turn, after_yield, after_admit}
use Rattle.sk_machine.specs.declared.views.Stage.{Stage}
use Rattle.sk_machine.specs.declared.views.Stage.TheVariants.{Idle, Busy, Published}
use Rattle.sk_machine.proofs.Numbered.{each_put, sum_below_most, length_by}
use Rattle.sk_model.specs.Width.{IsItem, AreItems}
use Rattle.sk_model.specs.Limits.{most_updaters, most_kept}

-- ---- lists

pub entries_by_rest : (j i : ℕ) (h : List Entry) (batch : List ℕ) → j ≢ i → entries_by j (h ++ tagged i batch) ≡ entries_by j h
entries_by_rest j i h batch other = entries_by_append j h (tagged i batch) ∙ ap (λ l. entries_by j h ++ l) (entries_by_others i j batch other) ∙ append-nil (entries_by j h)

-- one updater has no more entries of a beginning
pub entries_by_begins : (i : ℕ) (xs ys : List Entry) → Begins xs ys → Begins (entries_by i xs) (entries_by i ys)
entries_by_begins i xs ys b = (entries_by i b.0, ap (entries_by i) b.1 ∙ entries_by_append i xs b.0)

pub entries_by_longer : (i : ℕ) (xs ys : List Entry) → Begins xs ys → length (entries_by i xs) ≤ length (entries_by i ys)
entries_by_longer i xs ys b = begins_length (entries_by i xs) (entries_by i ys) (entries_by_begins i xs ys b)

pub tagged_are_entries : (n i : ℕ) (batch : List ℕ) → i < n → AreItems batch → All (IsEntry n) (tagged i batch)
tagged_are_entries n i batch inside items = All-map (IsEntry n) (λ (x : ℕ). (i, x)) batch (λ k d l. (inside, items k d l))

items_of_front : (xs ys : List ℕ) → AreItems (xs ++ ys) → AreItems ys
items_of_front [] ys items = items
items_of_front (x ∷ xs) ys items = items_of_front xs ys (All-tail IsItem x (xs ++ ys) items)

-- ---- what holds of one updater

-- a batch that has just been handed over
waits : (b : ℕ) (h : List Entry) (i : ℕ) (u : CoarseUpdater) (s : Stage) → ¬ At s i → IsBehindBy b h i u u.waiting → IsClosed b h i u s
waits b h i u Idle apart behind = behind
waits b h i u (Busy k batch) apart behind = ((λ e. absurd (apart e)), λ _. behind)
waits b h i u (Published k) apart behind = ((λ e. absurd (apart e)), λ _. behind)

-- of what it handed over, all that is published but for a batch
behind_batch : (b : ℕ) (h : List Entry) (i : ℕ) (u : CoarseUpdater) (s : Stage) → IsClosed b h i u s → (batch : List ℕ) × (length batch ≤ b) × (u.mine.handed ≡ entries_by i h ++ batch)
behind_batch b h i u Idle t = (u.waiting, t.0.1, t.1)
behind_batch b h i u (Busy k batch) t = dite (ℕ_discrete k i) (λ e. let x = t.0 e in (batch, x.0.1, x.1)) (λ e. let x = t.1 e in (u.waiting, x.0.1, x.1))
behind_batch b h i u (Published k) t = dite (ℕ_discrete k i) (λ e. ([], omega arith, t.0 e ∙ sym (append-nil (entries_by i h)))) (λ e. let x = t.1 e in (u.waiting, x.0.1, x.1))

lacking : (b : ℕ) (h : List Entry) (i : ℕ) (u : CoarseUpdater) (s : Stage) → IsClosed b h i u s → LacksAtMost u.mine.handed (entries_by i h) b
lacking b h i u s t = let x = behind_batch b h i u s t in lacks_some _ _ x.0 b x.2 x.1

published_begins : (b : ℕ) (h : List Entry) (i : ℕ) (u : CoarseUpdater) (s : Stage) → IsClosed b h i u s → Begins (entries_by i h) u.mine.handed
published_begins b h i u s t = let x = behind_batch b h i u s t in (x.0, x.2)

module _ (hint : List Entry → ℕ) (b : ℕ) (h : List Entry) (s : Stage) (i : ℕ) (u : CoarseUpdater) where
  -- the published list has a beginning of what an updater handed over
  pub of_published_begins : MeetsUpdater hint b h s i u → Begins (entries_by i h) u.mine.handed
  of_published_begins o = dite (ℕ_discrete u.word 0) (λ z. published_begins b h i u s (o.closed z)) (λ w. subst (Begins (entries_by i h)) (o.open_all w) (begins_refl (entries_by i h)))

  -- and lacks at most one batch of it
  pub handed_lacks : MeetsUpdater hint b h s i u → LacksAtMost u.mine.handed (entries_by i h) b
  handed_lacks o = dite (ℕ_discrete u.word 0) (λ z. lacking b h i u s (o.closed z)) (λ w. lacks_none _ _ b (subst (Begins u.mine.handed) (sym (o.open_all w)) (begins_refl u.mine.handed)))

  -- the propagator is at an updater only while its word is 0
  pub closed_at : MeetsUpdater hint b h s i u → At s i → u.word ≡ 0
  closed_at o at = dite (ℕ_discrete u.word 0) (λ z. z) (λ w. absurd (o.open_apart w at))

  -- an updater that is not admitted has its word as it was given
  pub open_vacant : MeetsUpdater hint b h s i u → b ≡ 0 → u.word ≢ 0
  open_vacant o none z = let more = o.closed_more z in let e = ap length (o.vacant none).0 in omega arith

  -- one that is ready has its word as it was given
  pub open_ready : MeetsUpdater hint b h s i u → u.mine.ready ≡ true → u.word ≢ 0
  open_ready o ready z = true≢false (sym ready ∙ o.closed_ready z)

-- ---- what an event makes of one updater

module _ (hint : List Entry → ℕ) (b : ℕ) (h : List Entry) (s : Stage) (i : ℕ) (u : CoarseUpdater) where
  pub looked : MeetsUpdater hint b h s i u → b ≢ 0 → u.word ≢ 0
      → MeetsUpdater hint b h s i (record u { mine = record { handed = u.mine.handed; base = u.given; ready = true; rested = false; picked = u.mine.picked } })
  looked o admitted found = record {
    given_is = o.given_is;
    base_is = begins_refl u.given;
    open_hint = o.open_hint;
    open_given = o.open_given;
    open_all = o.open_all;
    open_apart = o.open_apart;
    closed_ready = λ z. absurd (found z);
    closed_rested = λ _. refl;
    ready_base = λ _. refl;
    closed_more = λ z. absurd (found z);
    closed = λ z. absurd (found z);
    items = o.items;
    few = o.few;
    vacant = λ z. absurd (admitted z);
  }

  pub handed_over : (batch : List ℕ) → MeetsUpdater hint b h s i u → b ≢ 0 → u.mine.ready ≡ true → IsBatch b batch → AreItems batch → length u.mine.handed + length batch ≤ most_kept
      → MeetsUpdater hint b h s i (record { word = 0; given = u.given; waiting = batch; mine = record { handed = u.mine.handed ++ batch; base = u.mine.base; ready = false; rested = false; picked = false } })
  handed_over batch o admitted ready is items few =
      let w = open_ready hint b h s i u o ready in
      let u' : CoarseUpdater = record { word = 0; given = u.given; waiting = batch; mine = record { handed = u.mine.handed ++ batch; base = u.mine.base; ready = false; rested = false; picked = false } } in record {
        given_is = o.given_is;
        base_is = o.base_is;
        open_hint = λ z. absurd (z refl);
        open_given = λ z. absurd (z refl);
        open_all = λ z. absurd (z refl);
        open_apart = λ z. absurd (z refl);
        closed_ready = λ _. refl;
        closed_rested = λ _. refl;
        ready_base = λ on. absurd (true≢false (sym on));
        closed_more = λ _. let some = is.0 in let same = ap length (o.open_given w) in omega (arith, length-append u.mine.handed batch);
        closed = λ _. waits b h i u' s (o.open_apart w) (is, ap (λ l. l ++ batch) (sym (o.open_all w)));
        items = All-append IsItem u.mine.handed batch o.items items;
        few = omega (arith, length-append u.mine.handed batch);
        vacant = λ z. absurd (admitted z);
      }

  pub rested : (picked : Bool) → MeetsUpdater hint b h s i u → u.mine.ready ≡ true
      → MeetsUpdater hint b h s i (record u { mine = record { handed = u.mine.handed; base = u.mine.base; ready = false; rested = true; picked = picked } })
  rested picked o ready = let w = open_ready hint b h s i u o ready in record {
    given_is = o.given_is;
    base_is = o.base_is;
    open_hint = o.open_hint;
    open_given = o.open_given;
    open_all = o.open_all;
    open_apart = o.open_apart;
    closed_ready = λ _. refl;
    closed_rested = λ z. absurd (w z);
    ready_base = λ on. absurd (true≢false (sym on));
    closed_more = o.closed_more;
    closed = λ z. absurd (w z);
    items = o.items;
    few = o.few;
    vacant = λ z. ((o.vacant z).0, refl);
  }

  pub admitted : (b' : ℕ) → MeetsUpdater hint b h s i u → b ≡ 0 → 1 ≤ b' → MeetsUpdater hint b' h s i u
  admitted b' o none some = let w = open_vacant hint b h s i u o none in record {
    given_is = o.given_is;
    base_is = o.base_is;
    open_hint = o.open_hint;
    open_given = o.open_given;
    open_all = o.open_all;
    open_apart = o.open_apart;
    closed_ready = o.closed_ready;
    closed_rested = o.closed_rested;
    ready_base = o.ready_base;
    closed_more = o.closed_more;
    closed = λ z. absurd (w z);
    items = o.items;
    few = o.few;
    vacant = λ z. absurd (omega arith);
  }

  -- what lies in the slot is free while the propagator is at the updater, and while its word is not 0
  pub waiting_free : (waiting : List ℕ) → MeetsUpdater hint b h s i u → (u.word ≡ 0 → At s i) → MeetsUpdater hint b h s i (record u { waiting = waiting })
  waiting_free waiting o at = record {
    given_is = o.given_is;
    base_is = o.base_is;
    open_hint = o.open_hint;
    open_given = o.open_given;
    open_all = o.open_all;
    open_apart = o.open_apart;
    closed_ready = o.closed_ready;
    closed_rested = o.closed_rested;
    ready_base = o.ready_base;
    closed_more = o.closed_more;
    closed = λ z. still s (at z) (o.closed z);
    items = o.items;
    few = o.few;
    vacant = o.vacant;
  }
    where
      still : (s : Stage) → At s i → IsClosed b h i u s → IsClosed b h i (record u { waiting = waiting }) s
      still Idle at t = absurd at
      still (Busy k batch) at t = (t.0, λ ne. absurd (ne at))
      still (Published k) at t = (t.0, λ ne. absurd (ne at))

-- the batch with which the propagator is busy
pub busy_batch : (hint : List Entry → ℕ) (n : ℕ) (m : Coarse) (i : ℕ) (batch : List ℕ) → Meets hint n m → m.stage ≡ Busy i batch → IsBehindBy (m.sizes i) m.published i (m.updaters i) batch
busy_batch hint n m i batch ok has =
    let at : At m.stage i = subst (λ s. At s i) (sym has) refl in
    let o = ok.each i (ok.stage_at i at) in
    (subst (IsClosed (m.sizes i) m.published i (m.updaters i)) has (o.closed (closed_at hint (m.sizes i) m.published m.stage i (m.updaters i) o at))).0 refl

module _ (hint : List Entry → ℕ) (n : ℕ) where
  -- ---- what the invariant gives

  -- the published list lacks, of what an updater handed over, at most one batch
  pub lacks : (m : Coarse) (i : ℕ) → Meets hint n m → i < n → LacksAtMost (m.updaters i).mine.handed (entries_by i m.published) (m.sizes i)
  lacks m i ok inside = handed_lacks hint (m.sizes i) m.published m.stage i (m.updaters i) (ok.each i inside)

  -- and no more of what is known of that
  pub lacks_known : (m : Coarse) (i : ℕ) (known : List ℕ) → Meets hint n m → i < n → Begins known (m.updaters i).mine.handed → LacksAtMost known (entries_by i m.published) (m.sizes i)
  lacks_known m i known ok inside begins = lacks_begins known (m.updaters i).mine.handed (entries_by i m.published) (m.sizes i) begins (lacks m i ok inside)

  -- and no more than two of what it kept
  pub lacks_kept : (m : Coarse) (i : ℕ) (more : List ℕ) → Meets hint n m → i < n → length more ≤ m.sizes i → LacksAtMost ((m.updaters i).mine.handed ++ more) (entries_by i m.published) (2 * m.sizes i)
  lacks_kept m i more ok inside short =
      let handed : List ℕ = (m.updaters i).mine.handed in
      subst (LacksAtMost (handed ++ more) (entries_by i m.published)) (omega arith)
      (missing_adds_up (handed ++ more) handed (entries_by i m.published) (m.sizes i) (m.sizes i) (lacks_some (handed ++ more) handed more (m.sizes i) refl short) (lacks m i ok inside))

  -- the published list and a batch together are short
  pub entries_are_few : (m : Coarse) (i : ℕ) (batch : List ℕ) → Meets hint n m → n ≤ most_updaters → m.stage ≡ Busy i batch → length m.published + length batch ≤ most_entries
  entries_are_few m i batch ok few has =
      let all : List Entry = m.published ++ tagged i batch in
      let inside : i < n = ok.stage_at i (subst (λ s. At s i) (sym has) refl) in
      let at = busy_batch hint n m i batch ok has in
      let items : AreItems batch = items_of_front (entries_by i m.published) batch (subst AreItems at.1 (ok.each i inside).items) in
      let below : All (λ (e : Entry). e.0 < n) all = All-weaker (IsEntry n) (λ (e : Entry). e.0 < n) (λ e is. is.0) all (All-append (IsEntry n) m.published (tagged i batch) ok.entries (tagged_are_entries n i batch inside items)) in
      let each : (j : ℕ) → j < n → length (entries_by j all) ≤ most_kept = λ j near. dite (ℕ_discrete j i)
      (λ e. let here = ap length (ap (λ k. entries_by k all) e ∙ entries_by_more i m.published batch ∙ sym at.1) in let few = (ok.each i inside).few in omega arith)
      (λ ne. let same = ap length (entries_by_rest j i m.published batch ne) in let front = begins_length _ _ (of_published_begins hint (m.sizes j) m.published m.stage j (m.updaters j) (ok.each j near)) in let few = (ok.each j near).few in omega arith) in
      let total = sum_below_most n most_kept (λ j. length (entries_by j all)) each in
      let is = length_by n all below in
      let size = length-append m.published (tagged i batch) in
      let same : length (tagged i batch) ≡ length batch = length-map batch (λ (x : ℕ). (i, x)) in
      omega arith

  -- ---- the events

  pub starts : (sizes : ℕ → ℕ) (turn : ℕ) → hint [] ≢ 0 → turn ≤ n + 1 → Meets hint n (coarse_start hint sizes turn)
  starts sizes turn open_now within = record {
    entries = All-nil (IsEntry n);
    stage_at = λ i at. absurd at;
    turn_within = within;
    turn_free = λ _. tt;
    each = λ i _. record {
      given_is = begins_refl [];
      base_is = begins_refl [];
      open_hint = λ _. refl;
      open_given = λ _. entries_by_nil i;
      open_all = λ _. entries_by_nil i;
      open_apart = λ _ at. at;
      closed_ready = λ _. refl;
      closed_rested = λ _. refl;
      ready_base = λ _. refl;
      closed_more = λ z. absurd (open_now z);
      closed = λ z. absurd (open_now z);
      items = All-nil IsItem;
      few = omega arith;
      vacant = λ _. (refl, refl);
    };
  }

  pub looks : (m : Coarse) (i : ℕ) → Meets hint n m → i < n → m.sizes i ≢ 0 → (m.updaters i).word ≢ 0 → Meets hint n (after_look i m)
  looks m i ok inside there found = record {
    entries = ok.entries;
    stage_at = ok.stage_at;
    turn_within = ok.turn_within;
    turn_free = ok.turn_free;
    each = λ j near. let u = m.updaters i in
        each_put (λ k. MeetsUpdater hint (m.sizes k) m.published m.stage k) m.updaters i (record u { mine = record { handed = u.mine.handed; base = u.given; ready = true; rested = false; picked = u.mine.picked } }) j
        (looked hint (m.sizes i) m.published m.stage i u (ok.each i inside) there found)
        (λ _. ok.each j near);
  }

  pub hands : (m : Coarse) (i : ℕ) (batch : List ℕ) → Meets hint n m → i < n → m.sizes i ≢ 0 → (m.updaters i).mine.ready ≡ true → IsBatch (m.sizes i) batch
      → AreItems batch → length (m.updaters i).mine.handed + length batch ≤ most_kept → Meets hint n (after_hand i batch m)
  hands m i batch ok inside there ready is items few = record {
    entries = ok.entries;
    stage_at = ok.stage_at;
    turn_within = ok.turn_within;
    turn_free = ok.turn_free;
    each = λ j near. let u = m.updaters i in
        each_put (λ k. MeetsUpdater hint (m.sizes k) m.published m.stage k) m.updaters i
        (record { word = 0; given = u.given; waiting = batch; mine = record { handed = u.mine.handed ++ batch; base = u.mine.base; ready = false; rested = false; picked = false } }) j
        (handed_over hint (m.sizes i) m.published m.stage i u batch (ok.each i inside) there ready is items few)
        (λ _. ok.each j near);
  }

  pub rests : (m : Coarse) (i : ℕ) (picked : Bool) → Meets hint n m → i < n → (m.updaters i).mine.ready ≡ true → Meets hint n (after_rest i picked m)
  rests m i picked ok inside ready = record {
    entries = ok.entries;
    stage_at = ok.stage_at;
    turn_within = ok.turn_within;
    turn_free = ok.turn_free;
    each = λ j near. let u = m.updaters i in
        each_put (λ k. MeetsUpdater hint (m.sizes k) m.published m.stage k) m.updaters i (record u { mine = record { handed = u.mine.handed; base = u.mine.base; ready = false; rested = true; picked = picked } }) j
        (rested hint (m.sizes i) m.published m.stage i u picked (ok.each i inside) ready)
        (λ _. ok.each j near);
  }

  pub finds : (m : Coarse) (i : ℕ) → Meets hint n m → i < n → m.stage ≡ Idle → (m.updaters i).word ≡ 0 → Meets hint n (after_find i m)
  finds m i ok inside free found = record {
    entries = ok.entries;
    stage_at = λ j at. subst (λ k. k < n) at inside;
    turn_within = ok.turn_within;
    turn_free = λ _. tt;
    each = λ j near. let u = m.updaters j in let o = ok.each j near in record {
      given_is = o.given_is;
      base_is = o.base_is;
      open_hint = o.open_hint;
      open_given = o.open_given;
      open_all = o.open_all;
      open_apart = λ w e. w (ap (λ k. (m.updaters k).word) (sym e) ∙ found);
      closed_ready = o.closed_ready;
      closed_rested = o.closed_rested;
      ready_base = o.ready_base;
      closed_more = o.closed_more;
      closed = λ z. let t = subst (IsClosed (m.sizes j) m.published j u) free (o.closed z) in ((λ e. subst (IsBehindBy (m.sizes j) m.published j u) (ap (λ k. (m.updaters k).waiting) (sym e)) t), λ _. t);
      items = o.items;
      few = o.few;
      vacant = o.vacant;
    };
  }

  pub publishes : (m : Coarse) (i : ℕ) (batch : List ℕ) → Meets hint n m → m.turn ≢ 0 → m.stage ≡ Busy i batch → Meets hint n (after_publish i batch m)
  publishes m i batch ok led has =
      let at : At m.stage i = subst (λ s. At s i) (sym has) refl in
      let inside : i < n = ok.stage_at i at in
      let mine = busy_batch hint n m i batch ok has in
      let items : AreItems batch = items_of_front (entries_by i m.published) batch (subst AreItems mine.1 (ok.each i inside).items) in record {
        entries = All-append (IsEntry n) m.published (tagged i batch) ok.entries (tagged_are_entries n i batch inside items);
        stage_at = λ j e. subst (λ k. k < n) e inside;
        turn_within = ok.turn_within;
        turn_free = λ z. absurd (led z);
        each = λ j near. let u = m.updaters j in let o = ok.each j near in let h : List Entry = m.published in let h' : List Entry = h ++ tagged i batch in
            let other : (j ≢ i) → entries_by j h' ≡ entries_by j h = entries_by_rest j i h batch in record {
              given_is = begins_more _ _ _ o.given_is;
              base_is = o.base_is;
              open_hint = o.open_hint;
              open_given = o.open_given;
              open_all = λ w. other (λ e. o.open_apart w (subst (λ s. At s j) (sym has) (sym e))) ∙ o.open_all w;
              open_apart = λ w e. o.open_apart w (subst (λ s. At s j) (sym has) e);
              closed_ready = o.closed_ready;
              closed_rested = o.closed_rested;
              ready_base = o.ready_base;
              closed_more = o.closed_more;
              closed = λ z. let t = subst (IsClosed (m.sizes j) h j u) has (o.closed z) in (
                (λ e. (t.0 e).1 ∙ subst (λ k. entries_by k h ++ batch ≡ entries_by k h') e (sym (entries_by_more i h batch))),
                (λ ne. let x = t.1 ne in (x.0, x.1 ∙ ap (λ l. l ++ u.waiting) (sym (other (λ e. ne (sym e)))))),
              );
              items = o.items;
              few = o.few;
              vacant = o.vacant;
            };
      }

  pub gives_back : (m : Coarse) (i word : ℕ) → Meets hint n m → m.stage ≡ Published i → word ≡ hint m.published → word ≢ 0 → Meets hint n (after_give_back i word m)
  gives_back m i word ok has is open_now =
      let at : At m.stage i = subst (λ s. At s i) (sym has) refl in
      let inside : i < n = ok.stage_at i at in record {
        entries = ok.entries;
        stage_at = λ j e. absurd e;
        turn_within = ok.turn_within;
        turn_free = λ _. tt;
        each = λ j near. let u = m.updaters i in let o = ok.each i inside in
            let shut : u.word ≡ 0 = closed_at hint (m.sizes i) m.published m.stage i u o at in
            let all : u.mine.handed ≡ entries_by i m.published = (subst (IsClosed (m.sizes i) m.published i u) has (o.closed shut)).0 refl in
            each_put (λ k. MeetsUpdater hint (m.sizes k) m.published Idle k) m.updaters i (record u { word = word; given = m.published }) j
            (record {
              given_is = begins_refl m.published;
              base_is = begins_trans _ _ _ o.base_is o.given_is;
              open_hint = λ _. is;
              open_given = λ _. sym all;
              open_all = λ _. sym all;
              open_apart = λ _ z. z;
              closed_ready = λ z. absurd (open_now z);
              closed_rested = λ z. absurd (open_now z);
              ready_base = λ on. absurd (true≢false (sym on ∙ o.closed_ready shut));
              closed_more = λ z. absurd (open_now z);
              closed = λ z. absurd (open_now z);
              items = o.items;
              few = o.few;
              vacant = o.vacant;
            })
            (λ ne. let v = m.updaters j in let p = ok.each j near in record {
              given_is = p.given_is;
              base_is = p.base_is;
              open_hint = p.open_hint;
              open_given = p.open_given;
              open_all = p.open_all;
              open_apart = λ _ z. z;
              closed_ready = p.closed_ready;
              closed_rested = p.closed_rested;
              ready_base = p.ready_base;
              closed_more = p.closed_more;
              closed = λ z. (subst (IsClosed (m.sizes j) m.published j v) has (p.closed z)).1 (λ e. ne (sym e));
              items = p.items;
              few = p.few;
              vacant = p.vacant;
            });
      }

  pub turns : (m : Coarse) (s : ℕ) → Meets hint n m → s ≤ n → Meets hint n (after_turn s m)
  turns m s ok within = record { entries = ok.entries; stage_at = ok.stage_at; turn_within = omega arith; turn_free = λ z. absurd (omega arith); each = ok.each }

  pub yields : (m : Coarse) → Meets hint n m → MayRest m.stage → Meets hint n (after_yield m)
  yields m ok may = record { entries = ok.entries; stage_at = ok.stage_at; turn_within = omega arith; turn_free = λ _. may; each = ok.each }

  pub admits : (m : Coarse) (i b : ℕ) → Meets hint n m → i < n → m.sizes i ≡ 0 → 1 ≤ b → Meets hint n (after_admit i b m)
  admits m i b ok inside none some = record {
    entries = ok.entries;
    stage_at = ok.stage_at;
    turn_within = ok.turn_within;
    turn_free = ok.turn_free;
    each = λ j near.
        each_put (λ k c. MeetsUpdater hint c m.published m.stage k (m.updaters k)) m.sizes i b j
        (admitted hint (m.sizes i) m.published m.stage i (m.updaters i) b (ok.each i inside) none some)
        (λ _. ok.each j near);
  }
