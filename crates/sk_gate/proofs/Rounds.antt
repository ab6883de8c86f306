-- What whoever propagates does at an updater keeps the rule.
use Rattle.std.proofs.Common.{◌≡◌, ◌≢◌, ℕ, ◌+◌, ◌<◌, ◌≤◌, Bool, true, false, true≢false, List, [], ◌∷◌, ◌++◌, length, get_or, set, Some, None, sym, refl, ap, ◌∙◌, subst, ⊎_elim, arith, length-set, get_or-set_other, get_or-set_same}
use Rattle.std.proofs.lemmas.Bool.{cases_Bool}
use Rattle.std.specs.Prelude.{slice_index, slice_index_or}
use mathlib.Core.Option.{some, none}
use mathlib.Core.Option as maybe
use mathlib.Core.Logic.{dite}
use native.Mathlib.Decide.{ℕ_discrete}
use lib.ListN.{get_elem?}
use lib.Seq.{set-get_or}
use Rattle.atomic_table.specs.Table.{State, Act, step, keeps, takes, gives, Valid, Allows, stepped, homes_after, rest}
use Rattle.atomic_table.proofs.Lists.{set_here, set_else}
use Rattle.sk_model.specs.Entries.{Entry, tagged}
use Rattle.sk_model.specs.Missing.{Begins}
use Rattle.sk_model.proofs.Missing.{begins_refl}
use Rattle.sk_compose.specs.declared.buffer.Parcel.{Parcel}
use Rattle.sk_machine.specs.Numbered.{put}
use Rattle.sk_machine.specs.Coarse.{most_entries, CoarseUpdater, Coarse, At, IsBatch, IsBehindBy, IsClosed, after_find, after_publish, after_give_back}
use Rattle.sk_machine.specs.declared.views.Mine.{Mine}
use Rattle.sk_machine.specs.declared.views.Stage.{Stage}
use Rattle.sk_machine.specs.declared.views.Stage.TheVariants.{Idle, Busy, Published}
use Rattle.sk_machine.specs.declared.views.Move.TheVariants.{Find, Publish, GiveBack}
use Rattle.sk_machine.specs.declared.views.Duty.TheVariants.{Leads}
use Rattle.sk_machine.specs.declared.views.View.{View}
use Rattle.sk_machine.proofs.Numbered.{put_here, put_else, each_put}
use Rattle.sk_machine.proofs.Coarse as event
use Rattle.sk_gate.specs.Slots.{Slot, full, contents, Sketching, Telling, TellsList}
use Rattle.sk_gate.specs.Views.{known_of, given_of, size_of, leads, stage_in, left_in, batch_of}
use Rattle.sk_gate.specs.Rule.{left_home, IsSlot, KnowsDuty, Has, HasSeen, HasGiven, KeepsRule}
use Rattle.sk_gate.specs.Moves.{IsSeen, FindsAt, LeavesAt, PublishesAt, GivesBackAt}
use Rattle.sk_gate.specs.Plays.{Sat, found, left_it, published, gave_back}
use Rattle.sk_gate.proofs.Opened.{open_neutral, open_told}
use Rattle.sk_gate.proofs.Merged.{set_begins}
use Rattle.sk_gate.proofs.Known.{some_none, some_same, has_own, room_some, size_set, post_same, drained_same, stepped_knows, stepped_stays}
use Rattle.sk_gate.proofs.Published.{published_seen}
use Rattle.sk_gate.proofs.Common.{has_stays, SameUpdater, viewed, propagator_step}
use Rattle.sk_gate.proofs.Beginnings.{lists_grow, lists_see, sizes_put}
use Rattle.sk_model.specs.Limits.{most_updaters}

module _ {C T : Type 0} (hint packed : List ℕ → List Entry → ℕ) (g : Sketching C) (k : Telling T) where
  abbrev Rule : State (Slot C T) View → Type 0
  Rule = KeepsRule hint packed g k

  -- what a find of updater i shows
  abbrev FoundBy : Sat C T → ℕ → Sat C T → ℕ → Type 0
  FoundBy m x m' i = FindsAt m.0 x m'.0 i × (x ≢ 0 → m'.1 ≡ m.1) × (x ≡ 0 → (p : Parcel T) × (m'.1 ≡ (i, full p) ∷ m.1) × (p.buffer ≡ contents (batch_of m'.0) (size_of m'.0 i)))

  pub finds : (slots id n i : ℕ) (me : Sat C T) → slots ≡ n + 1 → i < n → n ≤ most_updaters → me.0.live ≡ true → me.0.duty ≡ Leads Idle false → Allows Rule slots id me (i + 1) (λ x. x) (found (step slots (i + 1) 0 0 none) me)
  finds slots id n i me size inside small live leads s r deep at _ =
      let v : View = me.0 in
      let m = r.machine in
      let x : ℕ = get_or s.words (i + 1) 0 in
      let o = r.each_seat id v at live in
      let duty = subst (KnowsDuty r.n m r.left r.leader id v.seen v.post) leads o.duty_is in
      let deep' = r.deep in
      let same_n : r.n ≡ n = omega arith in
      let near : i < r.n = omega arith in
      let u = m.updaters i in
      let ok = r.meets.each i near in
      let slot = r.each_slot i near in
      let word : x ≡ u.word = r.words_are i near in
      let here : (j : ℕ) → i + 1 ≡ j + 1 → i ≡ j = λ j e. omega arith in
      dite (ℕ_discrete x 0)
      (λ zero.
      let z : u.word ≡ 0 = sym word ∙ zero in
      let idle : m.stage ≡ Idle = sym duty.2 in
      let apart : ¬ At m.stage i = λ a. subst (λ t. At t i) idle a in
      let p = slot.waiting z apart in
      let b : ℕ = m.sizes i in
      let there : b ≢ 0 = λ e. event.open_vacant _ _ _ _ _ _ ok e z in
      let m' : Coarse = after_find i m in
      let homes' : List (maybe.Option (Slot C T)) = set s.homes i none in
      let w : View = record v { steps = v.steps ++ Find i 0 ∷ []; duty = Leads (Busy i u.waiting) false; sizes = set v.sizes i b } in
      let wide_i : i < length v.sizes = let e = o.sizes.sized in omega arith in
      let same-words : set s.words (i + 1) x ≡ s.words = set-get_or s.words (i + 1) 0 in
      let meets' = event.finds (hint r.numbers) r.n m i r.meets near idle z in
      let shut : IsBehindBy b m.published i u u.waiting = subst (IsClosed b m.published i u) idle (ok.closed z) in
      let size_now : slice_index (set v.sizes i b) i ≡ b = get_or-set_same v.sizes i b 0 wide_i in (
        w,
        takes i (full p.0),
        p.1,
        propagator_step hint packed g k s r (i + 1) id x v w m.published (Busy i u.waiting) m.updaters false r.seer r.giver homes'
            duty.0 (λ e. let t = duty.1 in omega arith) refl live (λ j e. e) at (length-set s.homes i none)
            (ap (λ ws. get_or ws 0 0) same-words ∙ r.published_is) (ap (λ ws. get_or ws (r.n + 1) 0) same-words ∙ r.turn_is) (λ j l. ap (λ ws. get_or ws (j + 1) 0) same-words ∙ r.words_are j l)
            meets' r.vacant
            (λ j l. dite (ℕ_discrete j i)
            (λ e. subst (λ a. IsSlot k r.name (m.sizes a) (Busy i u.waiting) false a (m.updaters a) (get_elem? homes' a)) (sym e) (record {
              ready = λ _. set_here s.homes i none (omega arith);
              resting = λ ne. absurd (ne z);
              waiting = λ _ off. absurd (off refl);
              led = λ _. set_here s.homes i none (omega arith);
            }))
            (λ ne. subst (IsSlot k r.name (m.sizes j) (Busy i u.waiting) false j (m.updaters j)) (sym (set_else s.homes i j none ne)) (let q = r.each_slot j l in record {
              ready = q.ready;
              resting = q.resting;
              waiting = λ a _. q.waiting a (λ t. subst (λ y. At y j) idle t);
              led = λ e. absurd (ne (sym e));
            })))
            (set_else s.homes i r.n none (λ e. omega arith))
            (begins_refl m.published) (λ j. begins_refl (m.updaters j).given) (λ j. record { mine = refl; word = λ e. e })
            (has_stays (HasSeen m.published) (HasSeen m.published) s.views id r.seer v w at (λ e. e) (λ _ e. e) r.seen)
            (λ j l. has_stays (HasGiven j (m.updaters j).given) (HasGiven j (m.updaters j).given) s.views id (r.giver j) v w at (λ e. e) (λ _ e. e) (r.given j l))
            (record {
              sketch = o.sketch;
              sizes = sizes_put i b wide_i there refl (λ _ _. refl) o.sizes;
              lists = o.lists;
              post_is = post_same r.n m m' r.owner id v.seen v.seen v.sizes (set v.sizes i b) v.drained v.post (λ _. refl) (size_set v.sizes i b m.sizes wide_i refl) (begins_refl v.seen) o.post_is;
              duty_is = (duty.0, duty.1, refl, refl, duty.4);
              open_is = open_told m m' v.steps (Find i 0) i 0 v.post (λ _ _. refl) (λ ne. absurd (ne refl)) (λ _ _ a. a) o.open_is;
              drained_is = λ j e. drained_same r.n m m' r.owner id (known_of v j) v.picked j (record { mine = refl; word = λ a. a }) (o.drained_is j e);
            }),
        λ j at-j. subst (FoundBy me x (w, (i, full p.0) ∷ me.1)) (here j at-j) (
          (
            (λ ne. absurd (ne zero)),
            λ _. record {
              view = λ a. record v { steps = v.steps ++ Find i 0 ∷ []; duty = Leads (Busy i u.waiting) false; sizes = set v.sizes i (sym size_now a) };
              batch = subst (λ c. IsBatch c u.waiting) (sym size_now) shut.0;
              few = subst (λ (l : List Entry). length l + length u.waiting ≤ most_entries) (sym duty.4) (event.entries_are_few (hint r.numbers) r.n m' i u.waiting meets' (omega arith) refl);
              same = λ e. size_now ∙ sym (o.sizes.sizes_are i e);
            },
          ),
          (λ ne. absurd (ne zero)),
          λ _. (p.0, refl, p.2 ∙ ap (contents u.waiting) (sym size_now)),
        ),
      ))
      (λ ne. let w : View = record v { steps = v.steps ++ Find i x ∷ [] } in (
        w,
        keeps,
        tt,
        viewed hint packed g k s r (i + 1) id v w at (stepped_knows r.n r.numbers r.name m r.left r.owner r.leader id v w.steps (open_told m m v.steps (Find i x) i x v.post (λ _ _. refl) (λ _ z. ne (word ∙ z)) (λ _ _ z. z) o.open_is) o) (stepped_stays r.n m v w.steps live),
        λ j at-j. subst (FoundBy me x (w, me.1)) (here j at-j) (((λ _. refl), λ zero. absurd (ne zero)), (λ _. refl), λ zero. absurd (ne zero)),
      ))

  -- what a find that leaves updater i shows
  abbrev LeftBy : Sat C T → ℕ → Sat C T → ℕ → Type 0
  LeftBy m x m' i = (x ≡ 0) × LeavesAt m.0 m'.0 i × (m'.1 ≡ rest m.1)

  pub leaves : (slots id n i : ℕ) (v : View) (more : List (ℕ × Slot C T)) → slots ≡ n + 1 → i < n → v.live ≡ true → v.duty ≡ Leads (Busy i (batch_of v)) false
      → Allows Rule slots id (v, (i, None) ∷ more) (i + 1) (λ x. x) (left_it (step slots (i + 1) 0 0 none) (v, (i, None) ∷ more))
  leaves slots id n i v more size inside live leads s r deep at _ =
      let m = r.machine in
      let x : ℕ = get_or s.words (i + 1) 0 in
      let o = r.each_seat id v at live in
      let batch : List ℕ = batch_of v in
      let duty = subst (KnowsDuty r.n m r.left r.leader id v.seen v.post) leads o.duty_is in
      let deep' = r.deep in
      let near : i < r.n = omega arith in
      let u = m.updaters i in
      let ok = r.meets.each i near in
      let word : x ≡ u.word = r.words_are i near in
      let here : (j : ℕ) → i + 1 ≡ j + 1 → i ≡ j = λ j e. omega arith in
      let busy : m.stage ≡ Busy i batch = sym duty.2 in
      let z : u.word ≡ 0 = event.closed_at (hint r.numbers) (m.sizes i) m.published m.stage i u ok (subst (λ t. At t i) duty.2 refl) in
      let homes' : List (maybe.Option (Slot C T)) = set s.homes i (some None) in
      let w : View = record v { steps = v.steps ++ Find i 0 ∷ []; duty = Leads (Busy i batch) true } in
      let same-words : set s.words (i + 1) x ≡ s.words = set-get_or s.words (i + 1) 0 in
      let laid : get_elem? homes' i ≡ some (some None) = set_here s.homes i (some None) (omega arith) in (
        w,
        gives,
        tt,
        propagator_step hint packed g k s r (i + 1) id x v w m.published m.stage m.updaters true r.seer r.giver homes'
            duty.0 (λ e. let t = duty.1 in omega arith) refl live (λ j e. e) at (length-set s.homes i (some None))
            (ap (λ ws. get_or ws 0 0) same-words ∙ r.published_is) (ap (λ ws. get_or ws (r.n + 1) 0) same-words ∙ r.turn_is) (λ j l. ap (λ ws. get_or ws (j + 1) 0) same-words ∙ r.words_are j l)
            r.meets r.vacant
            (λ j l. dite (ℕ_discrete j i)
            (λ e. subst (λ a. IsSlot k r.name (m.sizes a) m.stage true a (m.updaters a) (get_elem? homes' a)) (sym e) (record {
              ready = λ on. absurd (true≢false (sym on ∙ ok.closed_ready z));
              resting = λ ne. absurd (ne z);
              waiting = λ _ off. absurd (off (subst (λ y. At y i) duty.2 refl));
              led = λ _. laid;
            }))
            (λ ne. subst (IsSlot k r.name (m.sizes j) m.stage true j (m.updaters j)) (sym (set_else s.homes i j (some None) ne)) (let q = r.each_slot j l in record {
              ready = q.ready;
              resting = q.resting;
              waiting = q.waiting;
              led = λ e. absurd (ne (sym (subst (λ y. At y j) busy e)));
            })))
            (set_else s.homes i r.n (some None) (λ e. omega arith))
            (begins_refl m.published) (λ j. begins_refl (m.updaters j).given) (λ j. record { mine = refl; word = λ e. e })
            (has_stays (HasSeen m.published) (HasSeen m.published) s.views id r.seer v w at (λ e. e) (λ _ e. e) r.seen)
            (λ j l. has_stays (HasGiven j (m.updaters j).given) (HasGiven j (m.updaters j).given) s.views id (r.giver j) v w at (λ e. e) (λ _ e. e) (r.given j l))
            (record {
              sketch = o.sketch;
              sizes = o.sizes;
              lists = o.lists;
              post_is = o.post_is;
              duty_is = (duty.0, duty.1, duty.2, refl, duty.4);
              open_is = open_told m m v.steps (Find i 0) i 0 v.post (λ _ _. refl) (λ ne. absurd (ne refl)) (λ _ _ a. a) o.open_is;
              drained_is = o.drained_is;
            }),
        λ j at-j. subst (LeftBy (v, (i, None) ∷ more) x (w, more)) (here j at-j) (word ∙ z, refl, refl),
      )

  abbrev place_in : Stage → ℕ
  place_in Idle = 0
  place_in (Busy i batch) = i
  place_in (Published i) = i

  -- what a publish at updater i shows
  abbrev PublishedBy : Sat C T → ℕ → Sat C T → ℕ → Type 0
  PublishedBy m x m' i = (m.0.duty ≡ Leads (Busy i (batch_of m.0)) false → PublishesAt m.0 x m'.0 i × (m'.1 ≡ m.1)) × (m.0.duty ≡ Leads (Busy i (batch_of m.0)) true → PublishesAt m.0 x m'.0 i × (m'.1 ≡ (i, None) ∷ m.1))

  -- act: what happens to the slot, which was left or is in hand
  publishes_by : (slots id n i x : ℕ) (me : Sat C T) (left : Bool) (act : Act (Slot C T)) → slots ≡ n + 1 → me.0.live ≡ true → me.0.duty ≡ Leads (Busy i (batch_of me.0)) left → x ≡ packed me.0.numbers (me.0.seen ++ tagged i (batch_of me.0))
      → (s : State (Slot C T) View) (r : Rule s) → length s.homes ≡ slots → get_elem? s.views id ≡ some me.0 → Valid s.homes me.1 act → length (homes_after s.homes me.1 act) ≡ length s.homes
      → get_elem? (homes_after s.homes me.1 act) i ≡ some none → ((j : ℕ) → j ≢ i → get_elem? (homes_after s.homes me.1 act) j ≡ get_elem? s.homes j)
      → Rule (stepped s 0 x id me.1 (record me.0 { seen = me.0.seen ++ tagged i (batch_of me.0); steps = me.0.steps ++ Publish x (length (batch_of me.0)) ∷ []; duty = Leads (Published i) false }) act)
  publishes_by slots id n i x me left act size live leads is s r deep at valid as_deep out others =
      let v : View = me.0 in
      let m = r.machine in
      let o = r.each_seat id v at live in
      let batch : List ℕ = batch_of v in
      let duty = subst (KnowsDuty r.n m r.left r.leader id v.seen v.post) leads o.duty_is in
      let deep' = r.deep in
      let wide = r.wide in
      let h : List Entry = m.published in
      let h' : List Entry = h ++ tagged i batch in
      let m' : Coarse = after_publish i batch m in
      let busy : m.stage ≡ Busy i batch = sym duty.2 in
      let near : i < r.n = r.meets.stage_at i (subst (λ t. At t i) duty.2 refl) in
      let turns : m.turn ≢ 0 = λ e. let t = duty.1 in omega arith in
      let seen' : List Entry = v.seen ++ tagged i batch in
      let w : View = record v { seen = seen'; steps = v.steps ++ Publish x (length batch) ∷ []; duty = Leads (Published i) false } in
      let seen : seen' ≡ h' = ap (λ l. l ++ tagged i batch) duty.4 in
      let more : Begins v.seen seen' = (tagged i batch, refl) in
      let homes' : List (maybe.Option (Slot C T)) = homes_after s.homes me.1 act in
      propagator_step hint packed g k s r 0 id x v w h' (Published i) m.updaters false id r.giver homes'
      duty.0 turns refl live (λ j e. e) at as_deep
      (get_or-set_same s.words 0 x 0 (omega arith) ∙ is ∙ (λ a. packed (o.sketch.numbers_are a) (seen a)))
      (get_or-set_other s.words 0 (r.n + 1) x 0 (λ e. omega arith) ∙ r.turn_is) (λ j l. get_or-set_other s.words 0 (j + 1) x 0 (λ e. omega arith) ∙ r.words_are j l)
      (event.publishes (hint r.numbers) r.n m i batch r.meets turns busy) r.vacant
      (λ j l. let q = r.each_slot j l in dite (ℕ_discrete j i)
      (λ e. subst (λ a. IsSlot k r.name (m.sizes a) (Published i) false a (m.updaters a) (get_elem? homes' a)) (sym e) (let z = event.closed_at (hint r.numbers) (m.sizes i) h m.stage i (m.updaters i) (r.meets.each i near) (subst (λ t. At t i) duty.2 refl) in record {
        ready = λ _. out;
        resting = λ ne. absurd (ne z);
        waiting = λ _ off. absurd (off refl);
        led = λ _. out;
      }))
      (λ ne. subst (IsSlot k r.name (m.sizes j) (Published i) false j (m.updaters j)) (sym (others j ne)) (record {
        ready = q.ready;
        resting = q.resting;
        waiting = λ a off. q.waiting a (λ t. off (subst (λ y. At y j) busy t));
        led = λ e. absurd (ne (sym e));
      })))
      (others r.n (λ e. omega arith))
      (tagged i batch, refl) (λ j. begins_refl (m.updaters j).given) (λ j. record { mine = refl; word = λ e. e })
      (has_own (HasSeen h') s.views id v w at (live, seen))
      (λ j l. has_stays (HasGiven j (m.updaters j).given) (HasGiven j (m.updaters j).given) s.views id (r.giver j) v w at (λ e. e) (λ _ e. e) (r.given j l))
      (record {
        sketch = o.sketch;
        sizes = o.sizes;
        lists = lists_see (subst (Begins seen') seen (begins_refl seen'))
            (lists_grow (tagged i batch, refl) (λ j. begins_refl (m.updaters j).mine.handed) (λ j. begins_refl (m.updaters j).given) o.lists);
        post_is = post_same r.n m m' r.owner id v.seen seen' v.sizes v.sizes v.drained v.post (λ _. refl) (λ j e. e) more o.post_is;
        duty_is = (duty.0, duty.1, refl, refl, seen);
        open_is = open_neutral m m' v.steps (Publish x (length batch)) v.post (λ _ _. refl) (λ _ z. z) o.open_is;
        drained_is = λ j e. drained_same r.n m m' r.owner id (known_of v j) v.picked j (record { mine = refl; word = λ a. a }) (o.drained_is j e);
      })

  pub publishes : (slots id n i x : ℕ) (me : Sat C T) → slots ≡ n + 1 → me.0.live ≡ true → me.0.duty ≡ Leads (Busy i (batch_of me.0)) (left_in me.0.duty) → x ≡ packed me.0.numbers (me.0.seen ++ tagged i (batch_of me.0))
      → Allows Rule slots id me 0 (λ _. x) (λ _. published (step slots 0 x 0 none) me x)
  publishes slots id n i x me size live leads is s r deep at _ =
      let v : View = me.0 in
      let m = r.machine in
      let o = r.each_seat id v at live in
      let duty = subst (KnowsDuty r.n m r.left r.leader id v.seen v.post) leads o.duty_is in
      let at_i : At m.stage i = subst (λ t. At t i) duty.2 refl in
      let near : i < r.n = r.meets.stage_at i at_i in
      let deep' = r.deep in
      let w : View = record v { seen = v.seen ++ tagged i (batch_of v); steps = v.steps ++ Publish x (length (batch_of v)) ∷ []; duty = Leads (Published i) false } in
      let lies : get_elem? s.homes i ≡ some (left_home (left_in v.duty)) = (r.each_slot i near).led at_i ∙ ap (λ b. some (left_home b)) (sym duty.3) in
      let place : (j : ℕ) (b : Bool) → v.duty ≡ Leads (Busy j (batch_of v)) b → i ≡ j = λ j b e. ap (λ d. place_in (stage_in d)) (sym leads ∙ e) in
      let turns : m.turn ≢ 0 = λ e. let t = duty.1 in omega arith in
      let next = published_seen (hint r.numbers) r.n (after_publish i (batch_of v) m) r.owner id v o.sizes.sized (event.publishes (hint r.numbers) r.n m i (batch_of v) r.meets turns (sym duty.2)) o.post_is in
      let seen : IsSeen v w.seen = subst (IsSeen v) (ap (λ l. l ++ tagged i (batch_of v)) (sym duty.4)) next in
      ⊎_elim
      (λ (on : left_in v.duty ≡ true). let home : get_elem? s.homes i ≡ some (some None) = lies ∙ ap (λ b. some (left_home b)) on in (
        w,
        takes i None,
        home,
        publishes_by slots id n i x me (left_in v.duty) (takes i None) size live leads is s r deep at home (length-set s.homes i none) (set_here s.homes i none (omega arith)) (λ j ne. set_else s.homes i j none ne),
        λ j. (
          (λ e. absurd (true≢false (sym on ∙ ap left_in e))),
          (λ e. subst (λ a. PublishesAt v x w a × ((i, None) ∷ me.1 ≡ (a, None) ∷ me.1)) (place j true e) (refl, refl)),
          seen,
        ),
      ))
      (λ (off : left_in v.duty ≡ false). let home : get_elem? s.homes i ≡ some none = lies ∙ ap (λ b. some (left_home b)) off in (
        w,
        keeps,
        tt,
        publishes_by slots id n i x me (left_in v.duty) keeps size live leads is s r deep at tt refl home (λ j ne. refl),
        λ j. (
          (λ e. subst (λ a. PublishesAt v x w a × (me.1 ≡ me.1)) (place j false e) (refl, refl)),
          (λ e. absurd (true≢false (sym (ap left_in e) ∙ off))),
          seen,
        ),
      ))
      (cases_Bool (left_in v.duty))

  pub gives_back : (slots id n i x : ℕ) (v : View) (p : Parcel T) (t : T) (more : List (ℕ × Slot C T)) → slots ≡ n + 1 → i < n → v.live ≡ true → v.duty ≡ Leads (Published i) false → size_of v i ≢ 0 → x ≡ hint v.numbers v.seen → x ≢ 0
      → p.buffer ≡ contents [] (size_of v i) → p.told ≡ Some t → TellsList k v.name t v.seen
      → Allows Rule slots id (v, (i, full p) ∷ more) (i + 1) (λ _. x) (λ _. gave_back (step slots (i + 1) x 0 none) (v, (i, full p) ∷ more) x)
  gives_back slots id n i x v p t more size inside live leads there is open_now empty told tells s r deep at _ =
      let m = r.machine in
      let o = r.each_seat id v at live in
      let duty = subst (KnowsDuty r.n m r.left r.leader id v.seen v.post) leads o.duty_is in
      let deep' = r.deep in
      let wide = r.wide in
      let near : i < r.n = omega arith in
      let h : List Entry = m.published in
      let u = m.updaters i in
      let ok = r.meets.each i near in
      let stage : m.stage ≡ Published i = sym duty.2 in
      let z : u.word ≡ 0 = event.closed_at (hint r.numbers) (m.sizes i) h m.stage i u ok (subst (λ y. At y i) duty.2 refl) in
      let u' : CoarseUpdater = record u { word = x; given = h } in
      let m' : Coarse = after_give_back i x m in
      let homes' : List (maybe.Option (Slot C T)) = set s.homes i (some (full p)) in
      let some-handed : u.mine.handed ≢ [] = λ e. let f = ap length e in let l = ok.closed_more z in omega arith in
      let now : x ≡ hint r.numbers h = is ∙ (λ a. hint (o.sketch.numbers_are a) (duty.4 a)) in
      let b : ℕ = m.sizes i in
      let same_size : size_of v i ≡ b = o.sizes.sizes_are i there in
      let some-size : b ≢ 0 = λ e. there (same_size ∙ e) in
      let wide_i : i < length v.given = let e = o.lists.given_sized in omega arith in
      let w : View = record v { steps = v.steps ++ GiveBack i x ∷ []; duty = Leads Idle false; given = set v.given i v.seen } in
      let given_here : given_of w i ≡ h = get_or-set_same v.given i v.seen [] wide_i ∙ duty.4 in
      let place : (j : ℕ) → v.duty ≡ Leads (Published j) false → i ≡ j = λ j e. ap (λ d. place_in (stage_in d)) (sym leads ∙ e) in
      let same_mine : (j : ℕ) → (m.updaters j).mine ≡ (m'.updaters j).mine = λ j. each_put (λ a (c : CoarseUpdater). (m.updaters a).mine ≡ c.mine) m.updaters i u' j refl (λ _. refl) in
      let same : (j : ℕ) → SameUpdater (m.updaters j) (m'.updaters j) = λ j. each_put (λ a c. SameUpdater (m.updaters a) c) m.updaters i u' j (record { mine = refl; word = λ _. open_now }) (λ _. record { mine = refl; word = λ e. e }) in (
        w,
        gives,
        tt,
        propagator_step hint packed g k s r (i + 1) id x v w h Idle m'.updaters false r.seer (put r.giver i id) homes'
            duty.0 (λ e. let t = duty.1 in omega arith) refl live (λ j e. e) at (length-set s.homes i (some (full p)))
            (get_or-set_other s.words (i + 1) 0 x 0 (λ e. omega arith) ∙ r.published_is) (get_or-set_other s.words (i + 1) (r.n + 1) x 0 (λ e. omega arith) ∙ r.turn_is)
            (λ j l. each_put (λ a (c : CoarseUpdater). get_or (set s.words (i + 1) x) (a + 1) 0 ≡ c.word) m.updaters i u' j (get_or-set_same s.words (i + 1) x 0 (omega arith)) (λ ne. get_or-set_other s.words (i + 1) (j + 1) x 0 (λ e. ne (omega arith)) ∙ r.words_are j l))
            (event.gives_back (hint r.numbers) r.n m i x r.meets stage now open_now)
            (λ j l. each_put (λ a (c : CoarseUpdater). m.sizes a ≡ 0 → c.given ≡ []) m.updaters i u' j (λ e. absurd (some-size e)) (λ _. r.vacant j l))
            (λ j l. each_put (λ a (c : CoarseUpdater). IsSlot k r.name (m.sizes a) Idle false a c (get_elem? homes' a)) m.updaters i u' j
            (record {
              ready = λ on. absurd (true≢false (sym on ∙ ok.closed_ready z));
              resting = λ _ _. (
                p,
                set_here s.homes i (some (full p)) (omega arith),
                empty ∙ ap (contents []) (same_size ∙ sym (room_some b some-size)),
                λ _. (
                  (λ untold. absurd (some_none (sym told ∙ untold))),
                  λ t' is_t. (
                    some-handed,
                    subst (λ (y : List ℕ × T × List Entry). TellsList k y.0 y.1 y.2) (λ a. (o.sketch.name_is a, some_same (sym told ∙ is_t) a, duty.4 a)) tells,
                  ),
                ),
              );
              waiting = λ y. absurd (open_now y);
              led = λ y. absurd y;
            })
            (λ ne. let q = r.each_slot j l in subst (IsSlot k r.name (m.sizes j) Idle false j (m.updaters j)) (sym (set_else s.homes i j (some (full p)) ne)) (record {
              ready = q.ready;
              resting = q.resting;
              waiting = λ a _. q.waiting a (λ y. ne (sym (subst (λ c. At c j) stage y)));
              led = λ y. absurd y;
            })))
            (set_else s.homes i r.n (some (full p)) (λ e. omega arith))
            (begins_refl h) (λ j. each_put (λ a (c : CoarseUpdater). Begins (m.updaters a).given c.given) m.updaters i u' j ok.given_is (λ _. begins_refl (m.updaters j).given)) same
            (has_stays (HasSeen h) (HasSeen h) s.views id r.seer v w at (λ e. e) (λ _ e. e) r.seen)
            (λ j l. each_put (λ a (c : CoarseUpdater). Has (set s.views id w) (put r.giver i id a) (HasGiven a c.given)) m.updaters i u' j
            (subst (λ y. Has (set s.views id w) y (HasGiven i h)) (sym (put_here r.giver i id)) (has_own (HasGiven i h) s.views id v w at (live, given_here)))
            (λ ne. subst (λ y. Has (set s.views id w) y (HasGiven j (m.updaters j).given)) (sym (put_else r.giver i id j ne))
            (has_stays (HasGiven j (m.updaters j).given) (HasGiven j (m.updaters j).given) s.views id (r.giver j) v w at (λ e. (e.0, get_or-set_other v.given i j v.seen [] ne ∙ e.1)) (λ _ e. e) (r.given j l))))
            (record {
              sketch = o.sketch;
              sizes = o.sizes;
              lists = record {
                known_sized = o.lists.known_sized;
                given_sized = length-set v.given i v.seen ∙ o.lists.given_sized;
                seen_is = o.lists.seen_is;
                heard_is = o.lists.heard_is;
                known_is = λ j. subst (λ (y : Mine). Begins (known_of v j) y.handed) (same_mine j) (o.lists.known_is j);
                given_is = λ j. each_put (λ a (c : CoarseUpdater). Begins (slice_index_or (set v.given i v.seen) a []) c.given) m.updaters i u' j (set_begins v.given i v.seen h o.lists.seen_is)
                    (λ ne. subst (λ l. Begins l (m.updaters j).given) (sym (get_or-set_other v.given i j v.seen [] ne)) (o.lists.given_is j));
              };
              post_is = post_same r.n m m' r.owner id v.seen v.seen v.sizes v.sizes v.drained v.post same_mine (λ j e. e) (begins_refl v.seen) o.post_is;
              duty_is = (duty.0, duty.1, refl, refl, duty.4);
              open_is = open_told m m' v.steps (GiveBack i x) i x v.post (λ _ _. refl) (λ _. subst (λ (c : CoarseUpdater). c.word ≢ 0) (sym (put_here m.updaters i u')) open_now) (λ j ne a. (same j).word a) o.open_is;
              drained_is = λ j e. drained_same r.n m m' r.owner id (known_of v j) v.picked j (same j) (o.drained_is j e);
            }),
        λ j leads'. subst (λ a. GivesBackAt v x w a × (more ≡ more)) (place j leads') (refl, refl),
      )
