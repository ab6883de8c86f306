-- The turn and its yield keep the rule.
use Rattle.std.proofs.Common.{◌≡◌, ◌≢◌, ◌⊎◌, ℕ, ◌+◌, ◌<◌, ◌≤◌, eqb, Bool, true, false, true≢false, List, [], ◌∷◌, ◌++◌, length, get_or, set, Option, sym, refl, ap, ◌∙◌, subst, ⊎_elim, inl, inr, arith, length-set, get_or-set_other, get_or-set_same}
use Rattle.std.specs.Prelude.{slice_index}
use mathlib.Core.Option.{some, none}
use mathlib.Core.Option as maybe
use lib.ListN.{get_elem?}
use prog.Atomic.{either}
use Rattle.atomic_table.specs.Table.{State, Act, step, keeps, takes, gives, Valid, Allows, stepped, carried_after}
use Rattle.atomic_table.proofs.Lists.{set_here, set_else, exchanged}
use Rattle.sk_model.specs.Entries.{Entry}
use Rattle.sk_model.proofs.Missing.{begins_refl}
use Rattle.sk_machine.specs.Coarse.{Coarse, At, IsBatch, MayRest, after_turn, after_yield}
use Rattle.sk_machine.specs.declared.views.Stage.{Stage}
use Rattle.sk_machine.specs.declared.views.Stage.TheVariants.{Idle, Busy, Published}
use Rattle.sk_machine.specs.declared.views.Move.TheVariants.{Turn, Yield}
use Rattle.sk_machine.specs.declared.views.Duty.{Duty}
use Rattle.sk_machine.specs.declared.views.Duty.TheVariants.{Free, Leads}
use Rattle.sk_machine.specs.declared.views.View.{View}
use Rattle.sk_machine.proofs.Coarse as event
use Rattle.sk_gate.specs.declared.load.Trunk.{Trunk}
use Rattle.sk_gate.specs.declared.load.Held.{Held}
use Rattle.sk_gate.specs.Slots.{Slot, trunk, contents, Sketching, Telling, IsHeld, IsTrunkOf}
use Rattle.sk_gate.specs.Views.{known_of, size_of, seat_in, leads, stage_in, left_in, is_busy, IsAtRest, SpeaksFor}
use Rattle.sk_gate.specs.Rule.{left_home, IsSlot, KnowsDuty, KnowsSizes, Knows, HasSeen, IsLed, HasGiven, KeepsRule}
use Rattle.sk_gate.specs.Moves.{MayResume, LearnsSize}
use Rattle.sk_gate.specs.Plays.{Sat, turned, yielded}
use Rattle.sk_gate.specs.Hands.{StageKnown}
use Rattle.sk_gate.proofs.Opened.{open_neutral}
use Rattle.sk_gate.proofs.Known.{has_own, size_set, post_same, drained_same, stepped_knows, stepped_stays}
use Rattle.sk_gate.proofs.Published.{published_seen}
use Rattle.sk_gate.proofs.Common.{seats_stay, has_stays, viewed, others_know}
use Rattle.sk_gate.proofs.Beginnings.{lists_see, sizes_put}
use Rattle.sk_model.specs.Limits.{most_updaters}

-- ---- stages

stage_cases : (stage : Stage) → MayRest stage → (stage ≡ Idle) ⊎ ((i : ℕ) × (batch : List ℕ) × (stage ≡ Busy i batch))
stage_cases Idle may = inl refl
stage_cases (Busy i batch) may = inr (i, batch, refl)
stage_cases (Published i) may = absurd may

-- at an updater nothing but a batch that is held may rest
busy_at : (stage : Stage) (i : ℕ) → MayRest stage → At stage i → is_busy stage ≡ true
busy_at Idle i may at = absurd at
busy_at (Busy j batch) i may at = refl
busy_at (Published j) i may at = absurd may

held_same : {T : Type 0} (stage : Stage) (sizes sizes' : ℕ → ℕ) (held : Option (Held T)) → ((i : ℕ) → At stage i → sizes i ≡ sizes' i) → IsHeld stage sizes held → IsHeld stage sizes' held
held_same Idle sizes sizes' held same e = e
held_same (Busy i batch) sizes sizes' held same t = (t.0, t.1, t.2, t.3 ∙ ap (contents batch) (same i refl))
held_same (Published i) sizes sizes' held same e = e

pub trunk_same : {C T : Type 0} (g : Sketching C) (numbers name : List ℕ) (list : List Entry) (stage : Stage) (sizes sizes' : ℕ → ℕ) (t : Trunk C T) → ((i : ℕ) → At stage i → sizes i ≡ sizes' i)
    → IsTrunkOf g numbers name list stage sizes t → IsTrunkOf g numbers name list stage sizes' t
trunk_same g numbers name list stage sizes sizes' t same o = record { of_it = o.of_it; numbers_are = o.numbers_are; name_is = o.name_is; held_is = held_same stage sizes sizes' t.held same o.held_is }

known_at : (v : View) (stage : Stage) (left : Bool) (i : ℕ) → StageKnown v stage left → At stage i → size_of v i ≢ 0
known_at v Idle left i known at = absurd at
known_at v (Busy j batch) left i known at = subst (λ a. size_of v a ≢ 0) at known.1
known_at v (Published j) left i known at = subst (λ a. size_of v a ≢ 0) at known.1

leading : (d : Duty) → IsAtRest d → d ≡ Leads (stage_in d) (left_in d)
leading Free may = absurd may
leading (Leads stage left) may = refl

may_rest : (stage : Stage) (left : Bool) → IsAtRest (Leads stage left) → MayRest stage
may_rest Idle left may = tt
may_rest (Busy i batch) left may = tt
may_rest (Published i) left may = absurd may

left_busy : (stage : Stage) (left : Bool) → IsAtRest (Leads stage left) → is_busy stage ≡ true → left ≡ true
left_busy Idle left may busy = absurd (true≢false (sym busy))
left_busy (Busy i batch) left may busy = may
left_busy (Published i) left may busy = absurd may

-- while nobody propagates, it does not matter who did
released : (n : ℕ) (numbers name : List ℕ) (m : Coarse) (left : Bool) (owner : ℕ → ℕ) (leader leader' j : ℕ) (v : View) → m.turn ≡ 0 → Knows n numbers name m left owner leader j v → Knows n numbers name m left owner leader' j v
released n numbers name m left owner leader leader' j v free o = record {
  sketch = o.sketch;
  sizes = o.sizes;
  lists = o.lists;
  post_is = o.post_is;
  duty_is = duty v.duty o.duty_is;
  open_is = o.open_is;
  drained_is = o.drained_is;
}
  where
    duty : (d : Duty) → KnowsDuty n m left leader j v.seen v.post d → KnowsDuty n m left leader' j v.seen v.post d
    duty Free t = tt
    duty (Leads stage its) t = let e = t.1 in absurd (omega arith)

-- ---- steps

module _ {C T : Type 0} (hint packed : List ℕ → List Entry → ℕ) (g : Sketching C) (k : Telling T) where
  abbrev Rule : State (Slot C T) View → Type 0
  Rule = KeepsRule hint packed g k

  -- the view of a seat that has taken the turn
  abbrev taken_view : View → List Entry → Stage → Bool → List ℕ → View
  taken_view v seen' stage left' sizes' = record v { seen = seen'; steps = v.steps ++ Turn 0 ∷ []; duty = Leads stage left'; sizes = sizes' }

  -- sizes': those that the seat knows then, left': whether the slot of the stage was left
  takes_turn : (id n who : ℕ) (v : View) (left' : Bool) (sizes' : List ℕ) (t : Trunk C T) (more : List (ℕ × Slot C T)) → who ≡ seat_in n v.post → who ≤ n → v.live ≡ true → (s : State (Slot C T) View) (r : Rule s) → r.n ≡ n → get_elem? s.views id ≡ some v → r.machine.turn ≡ 0
      → KnowsSizes r.n r.machine.sizes sizes' v.known → ((j : ℕ) → slice_index v.sizes j ≡ r.machine.sizes j → slice_index sizes' j ≡ r.machine.sizes j)
      → ((j : ℕ) → At r.machine.stage j → r.left ≡ left')
      → Rule (stepped s (n + 1) (who + 1) id more (taken_view v r.machine.published r.machine.stage left' sizes') (takes r.n (trunk t)))
  takes_turn id n who v left' sizes' t more is within live s r same_n at free knows_sizes own lefts =
      let m = r.machine in
      let o = r.each_seat id v at live in
      let m' : Coarse = after_turn who m in
      let wide' = r.wide in
      let deep' = r.deep in
      let homes' : List (maybe.Option (Slot C T)) = set s.homes r.n none in
      let words' : List ℕ = set s.words (n + 1) (who + 1) in
      let w : View = taken_view v m.published m.stage left' sizes' in
      let known : Knows r.n r.numbers r.name m' left' r.owner id id w = record {
        sketch = o.sketch;
        sizes = knows_sizes;
        lists = lists_see (begins_refl m.published) o.lists;
        post_is = post_same r.n m m' r.owner id v.seen m.published v.sizes sizes' v.drained v.post (λ _. refl) own o.lists.seen_is o.post_is;
        duty_is = (refl, ap (λ a. a + 1) (is ∙ ap (λ a. seat_in a v.post) (sym same_n)), refl, refl, refl);
        open_is = open_neutral m m' v.steps (Turn 0) v.post (λ _ _. refl) (λ _ z. z) o.open_is;
        drained_is = λ j e. drained_same r.n m m' r.owner id (known_of v j) v.picked j (record { mine = refl; word = λ a. a }) (o.drained_is j e);
      } in record {
        n = r.n;
        numbers = r.numbers;
        name = r.name;
        machine = m';
        left = left';
        owner = r.owner;
        leader = id;
        seer = id;
        giver = r.giver;
        wide = length-set s.words (n + 1) (who + 1) ∙ r.wide;
        deep = length-set s.homes r.n none ∙ r.deep;
        published_is = get_or-set_other s.words (n + 1) 0 (who + 1) 0 (λ e. omega arith) ∙ r.published_is;
        turn_is = ap (λ a. get_or words' (a + 1) 0) same_n ∙ get_or-set_same s.words (n + 1) (who + 1) 0 (omega arith);
        words_are = λ j l. get_or-set_other s.words (n + 1) (j + 1) (who + 1) 0 (λ e. omega arith) ∙ r.words_are j l;
        meets = event.turns (hint r.numbers) r.n m who r.meets (omega arith);
        vacant = r.vacant;
        each_slot = λ j l. subst (IsSlot k r.name (m.sizes j) m.stage left' j (m.updaters j)) (sym (set_else s.homes r.n j none (λ e. omega arith))) (let q = r.each_slot j l in record {
          ready = q.ready;
          resting = q.resting;
          waiting = q.waiting;
          led = λ a. q.led a ∙ ap (λ b. some (left_home b)) (lefts j a);
        });
        rests = λ e. absurd (omega arith);
        led = λ _. (set_here s.homes r.n none (omega arith), has_own IsLed s.views id v w at (live, refl));
        seen = has_own (HasSeen m.published) s.views id v w at (live, refl);
        given = λ j l. has_stays (HasGiven j (m.updaters j).given) (HasGiven j (m.updaters j).given) s.views id (r.giver j) v w at (λ e. e) (λ _ e. e) (r.given j l);
        spoken = λ j l. has_stays (SpeaksFor j) (SpeaksFor j) s.views id (r.owner j) v w at (λ e. e) (λ _ e. e) (r.spoken j l);
        each_seat = seats_stay (Knows r.n r.numbers r.name m' left' r.owner id) s.views id w (λ _. known)
            (λ j u apart e alive. others_know hint packed g k r.n r.numbers r.name m m' r.left left' r.owner id id j u apart (λ _ _. refl) (λ _. inl refl) (begins_refl m.published)
            (λ a. begins_refl (m.updaters a).mine.handed) (λ a. begins_refl (m.updaters a).given) (λ _. inl (record { mine = refl; word = λ a. a })) (inr refl)
            (released r.n r.numbers r.name m r.left r.owner r.leader id j u free (r.each_seat j u e alive)));
      }

  abbrev Goes : State (Slot C T) View → ℕ → ℕ → Sat C T → (ℕ → Sat C T → Type 0) → ℕ → Type 0
  Goes s i id me then x = (w : View) × (a : Act (Slot C T)) × Valid s.homes me.1 a × Rule (stepped s i x id me.1 w a) × then (get_or s.words i 0) (w, carried_after me.1 a)

  -- what a turn that found 0 gives
  abbrev Lifts : Sat C T → Sat C T → ℕ → Type 0
  Lifts m m' n = (t : Trunk C T) × (m'.1 ≡ (n, trunk t) ∷ m.1) × IsTrunkOf g m'.0.numbers m'.0.name m'.0.seen (stage_in m'.0.duty) (size_of m'.0) t

  pub turns : (slots id n who : ℕ) (me : Sat C T) → slots ≡ n + 1 → n ≤ most_updaters → who ≡ seat_in n me.0.post → who ≤ n → me.0.live ≡ true → leads me.0.duty ≡ false
      → Allows Rule slots id me (n + 1) (λ x. either (eqb x 0) (who + 1) x) (turned g (step slots (n + 1) 0 (who + 1) none) me)
  turns slots id n who me size small is within live free s r deep at _ =
      let v : View = me.0 in
      let m = r.machine in
      let x : ℕ = get_or s.words (n + 1) 0 in
      let o = r.each_seat id v at live in
      let then = turned g (step slots (n + 1) 0 (who + 1) none) me in
      let deep' = r.deep in
      let same_n : r.n ≡ n = omega arith in
      let word : x ≡ m.turn = ap (λ a. get_or s.words (a + 1) 0) (sym same_n) ∙ r.turn_is in
      let long : length v.sizes ≡ r.n = o.sizes.sized in
      let numbered : (t : Trunk C T) (w : View) → IsTrunkOf g r.numbers r.name w.seen (stage_in w.duty) (size_of w) t → w.numbers ≡ v.numbers → w.name ≡ v.name → (j : ℕ) → n + 1 ≡ j + 1 → Lifts me (w, (r.n, trunk t) ∷ me.1) j
      = λ t w ok e f j l. (t, ap (λ a. (a, trunk t) ∷ me.1) (let same : r.n ≡ j = omega arith in same), subst (λ (y : List ℕ × List ℕ). IsTrunkOf g y.0 y.1 w.seen (stage_in w.duty) (size_of w) t) (λ a. (sym (e ∙ o.sketch.numbers_are) a, sym (f ∙ o.sketch.name_is) a)) ok) in
      exchanged x 0 (who + 1) (Goes s (n + 1) id me then)
      (λ zero.
      let z : m.turn ≡ 0 = sym word ∙ zero in
      let may = r.meets.turn_free z in
      let t = r.rests z in
      ⊎_elim
      (λ (idle : m.stage ≡ Idle). let w : View = taken_view v m.published m.stage false v.sizes in (
        w,
        takes r.n (trunk t.0),
        t.1,
        takes_turn id n who v false v.sizes t.0 me.1 is within live s r same_n at z o.sizes (λ _ e. e) (λ j a. absurd (subst (λ y. At y j) idle a)),
        (
          (
            (λ _. record {
              view = refl;
              grows = o.lists.seen_is;
              is_seen = published_seen (hint r.numbers) r.n m r.owner id v o.sizes.sized r.meets o.post_is;
              resumes = subst (λ y. MayResume w y false) (sym idle) refl;
              learns = subst (LearnsSize v w) (sym idle) refl;
            }),
            (λ ne. absurd (ne zero)),
          ),
          (λ ne. absurd (ne zero)),
          λ _ j l. numbered t.0 w (trunk_same g r.numbers r.name m.published m.stage m.sizes (size_of v) t.0 (λ i a. absurd (subst (λ y. At y i) idle a)) t.2) refl refl j l,
        ),
      ))
      (λ (busy : (i : ℕ) × (batch : List ℕ) × (m.stage ≡ Busy i batch)).
      let i : ℕ = busy.0 in
      let batch : List ℕ = busy.1 in
      let b : ℕ = m.sizes i in
      let at_i : At m.stage i = subst (λ y. At y i) (sym busy.2) refl in
      let near : i < r.n = r.meets.stage_at i at_i in
      let wide_i : i < length v.sizes = omega arith in
      let ok = r.meets.each i near in
      let closed = event.closed_at (hint r.numbers) b m.published m.stage i (m.updaters i) ok at_i in
      let there : b ≢ 0 = λ e. event.open_vacant _ _ _ _ _ _ ok e closed in
      let sizes' : List ℕ = set v.sizes i b in
      let w : View = taken_view v m.published m.stage true sizes' in
      let size_now : slice_index sizes' i ≡ b = get_or-set_same v.sizes i b 0 wide_i in
      let behind = event.busy_batch (hint r.numbers) r.n m i batch r.meets busy.2 in (
        w,
        takes r.n (trunk t.0),
        t.1,
        takes_turn id n who v true sizes' t.0 me.1 is within live s r same_n at z (sizes_put i b wide_i there refl (λ _ _. refl) o.sizes) (size_set v.sizes i b m.sizes wide_i refl)
            (λ j a. t.3 (busy_at m.stage j may a)),
        (
          (
            (λ _. record {
              view = refl;
              grows = o.lists.seen_is;
              is_seen = published_seen (hint r.numbers) r.n m r.owner id v o.sizes.sized r.meets o.post_is;
              resumes = subst (λ y. MayResume w y true) (sym busy.2)
                  (refl, subst (λ c. IsBatch c batch) (sym size_now) behind.0, event.entries_are_few (hint r.numbers) r.n m i batch r.meets (omega arith) busy.2);
              learns = subst (LearnsSize v w) (sym busy.2) (wide_i, (λ a. set v.sizes i (sym size_now a)), (λ e. size_now ∙ sym (o.sizes.sizes_are i e)));
            }),
            (λ ne. absurd (ne zero)),
          ),
          (λ ne. absurd (ne zero)),
          λ _ j l. numbered t.0 w (trunk_same g r.numbers r.name m.published m.stage m.sizes (slice_index sizes') t.0
              (λ a e. let same : i ≡ a = subst (λ y. At y a) busy.2 e in ap m.sizes (sym same) ∙ sym size_now ∙ ap (slice_index sizes') same) t.2) refl refl j l,
        ),
      ))
      (stage_cases m.stage may))
      (λ ne. let w : View = record v { steps = v.steps ++ Turn x ∷ [] } in (
        w,
        keeps,
        tt,
        subst (λ (y : ℕ). Rule record { words = set s.words (n + 1) y; homes = s.homes; views = set s.views id w }) refl
            (viewed hint packed g k s r (n + 1) id v w at (stepped_knows r.n r.numbers r.name m r.left r.owner r.leader id v w.steps (open_neutral m m v.steps (Turn x) v.post (λ _ _. refl) (λ _ z. z) o.open_is) o) (stepped_stays r.n m v w.steps live)),
        (
          (
            (λ zero. absurd (ne zero)),
            (λ _. record { view = refl; within = let top = r.meets.turn_within in omega arith }),
          ),
          (λ _. refl),
          (λ zero. absurd (ne zero)),
        ),
      ))

  pub yields : (slots id n : ℕ) (v : View) (t : Trunk C T) (more : List (ℕ × Slot C T)) → slots ≡ n + 1 → v.live ≡ true → IsAtRest v.duty → StageKnown v (stage_in v.duty) (left_in v.duty) → IsTrunkOf g v.numbers v.name v.seen (stage_in v.duty) (size_of v) t
      → Allows Rule slots id (v, (n, trunk t) ∷ more) (n + 1) (λ _. 0) (λ _. yielded (step slots (n + 1) 0 0 none) (v, (n, trunk t) ∷ more) 0)
  yields slots id n v t more size live may known laid s r deep at _ =
      let m = r.machine in
      let o = r.each_seat id v at live in
      let is = leading v.duty may in
      let its : Bool = left_in v.duty in
      let stage : Stage = stage_in v.duty in
      let duty = subst (KnowsDuty r.n m r.left r.leader id v.seen v.post) is o.duty_is in
      let may' : IsAtRest (Leads stage its) = subst IsAtRest is may in
      let rest_now : MayRest m.stage = subst MayRest duty.2 (may_rest stage its may') in
      let deep' = r.deep in
      let wide' = r.wide in
      let same_n : r.n ≡ n = omega arith in
      let m' : Coarse = after_yield m in
      let homes' : List (maybe.Option (Slot C T)) = set s.homes n (some (trunk t)) in
      let words' : List ℕ = set s.words (n + 1) 0 in
      let w : View = record v { steps = v.steps ++ Yield ∷ []; duty = Free } in
      let trunk_ok : IsTrunkOf g r.numbers r.name m.published m.stage m.sizes t = subst (λ (y : List ℕ × List ℕ × List Entry × Stage). IsTrunkOf g y.0 y.1 y.2 y.3 m.sizes t) (λ a. (o.sketch.numbers_are a, o.sketch.name_is a, duty.4 a, duty.2 a))
      (trunk_same g v.numbers v.name v.seen stage (size_of v) m.sizes t (λ i a. o.sizes.sizes_are i (known_at v stage its i known a)) laid) in
      let known' : Knows r.n r.numbers r.name m' r.left r.owner r.leader id w = record {
        sketch = o.sketch;
        sizes = o.sizes;
        lists = o.lists;
        post_is = post_same r.n m m' r.owner id v.seen v.seen v.sizes v.sizes v.drained v.post (λ _. refl) (λ _ e. e) (begins_refl v.seen) o.post_is;
        duty_is = tt;
        open_is = open_neutral m m' v.steps Yield v.post (λ _ _. refl) (λ _ z. z) o.open_is;
        drained_is = λ j e. drained_same r.n m m' r.owner id (known_of v j) v.picked j (record { mine = refl; word = λ a. a }) (o.drained_is j e);
      } in (
        w,
        gives,
        tt,
        record {
          n = r.n;
          numbers = r.numbers;
          name = r.name;
          machine = m';
          left = r.left;
          owner = r.owner;
          leader = r.leader;
          seer = r.seer;
          giver = r.giver;
          wide = length-set s.words (n + 1) 0 ∙ r.wide;
          deep = length-set s.homes n (some (trunk t)) ∙ r.deep;
          published_is = get_or-set_other s.words (n + 1) 0 0 0 (λ e. omega arith) ∙ r.published_is;
          turn_is = ap (λ a. get_or words' (a + 1) 0) same_n ∙ get_or-set_same s.words (n + 1) 0 0 (omega arith);
          words_are = λ j l. get_or-set_other s.words (n + 1) (j + 1) 0 0 (λ e. omega arith) ∙ r.words_are j l;
          meets = event.yields (hint r.numbers) r.n m r.meets rest_now;
          vacant = r.vacant;
          each_slot = λ j l. subst (IsSlot k r.name (m.sizes j) m.stage r.left j (m.updaters j)) (sym (set_else s.homes n j (some (trunk t)) (λ e. omega arith))) (r.each_slot j l);
          rests = λ _. (t, ap (get_elem? homes') same_n ∙ set_here s.homes n (some (trunk t)) (omega arith), trunk_ok, λ busy. sym duty.3 ∙ left_busy stage its may' (ap is_busy duty.2 ∙ busy));
          led = λ ne. absurd (ne refl);
          seen = has_stays (HasSeen m.published) (HasSeen m.published) s.views id r.seer v w at (λ e. e) (λ _ e. e) r.seen;
          given = λ j l. has_stays (HasGiven j (m.updaters j).given) (HasGiven j (m.updaters j).given) s.views id (r.giver j) v w at (λ e. e) (λ _ e. e) (r.given j l);
          spoken = λ j l. has_stays (SpeaksFor j) (SpeaksFor j) s.views id (r.owner j) v w at (λ e. e) (λ _ e. e) (r.spoken j l);
          each_seat = seats_stay (Knows r.n r.numbers r.name m' r.left r.owner r.leader) s.views id w (λ _. known')
              (λ j u apart e alive. others_know hint packed g k r.n r.numbers r.name m m' r.left r.left r.owner r.leader id j u apart (λ _ _. refl) (λ _. inl refl) (begins_refl m.published)
              (λ a. begins_refl (m.updaters a).mine.handed) (λ a. begins_refl (m.updaters a).given) (λ _. inl (record { mine = refl; word = λ a. a })) (inr duty.0) (r.each_seat j u e alive));
        },
        (refl, refl),
      )
