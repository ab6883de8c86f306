-- What the lemmas on single steps share: views that stay, and a rule that is kept where little changes.
use Rattle.std.proofs.Common.{◌≡◌, ◌≢◌, ◌⊎◌, ℕ, zero, suc, ◌+◌, ◌<◌, Bool, true, List, [], ◌∷◌, length, get_or, set, Option, sym, refl, ap, ◌∙◌, subst, ⊎_elim, inl, inr, arith, length-set, get_or-set_other, get_or-set_same}
use mathlib.Core.Option.{some, some-injective}
use mathlib.Core.Option as maybe
use mathlib.Core.Logic.{dite}
use native.Mathlib.Decide.{ℕ_discrete}
use lib.ListN.{get_elem?}
use lib.Seq.{set-get_or}
use Rattle.atomic_table.specs.Table.{State}
use Rattle.atomic_table.proofs.Lists.{at_set, set_here, set_else}
use Rattle.sk_model.specs.Entries.{Entry}
use Rattle.sk_model.specs.Missing.{Begins}
use Rattle.sk_model.proofs.Lists.{at_within}
use Rattle.sk_model.proofs.Missing.{begins_refl}
use Rattle.sk_machine.specs.Numbered.{put}
use Rattle.sk_machine.specs.Coarse.{CoarseUpdater, Coarse, At, Meets}
use Rattle.sk_machine.specs.declared.views.Stage.{Stage}
use Rattle.sk_machine.specs.declared.views.Stage.TheVariants.{Idle, Busy, Published}
use Rattle.sk_machine.specs.declared.views.Mine.{Mine}
use Rattle.sk_machine.specs.declared.views.Post.{Post}
use Rattle.sk_machine.specs.declared.views.Post.TheVariants.{Guest, Root, Updater}
use Rattle.sk_machine.specs.declared.views.Duty.{Duty}
use Rattle.sk_machine.specs.declared.views.Duty.TheVariants.{Free, Leads}
use Rattle.sk_machine.specs.declared.views.View.{View}
use Rattle.sk_machine.proofs.Numbered.{each_put}
use Rattle.sk_machine.proofs.Coarse as event
use Rattle.sk_gate.specs.declared.load.Held.{Held}
use Rattle.sk_gate.specs.Slots.{Slot, contents, Sketching, Telling, IsHeld}
use Rattle.sk_gate.specs.Views.{given_of, leads, SpeaksBy, SpeaksFor}
use Rattle.sk_gate.proofs.Beginnings.{lists_grow}
use Rattle.sk_gate.specs.Rule.{IsSlot, KnowsPost, KnowsDuty, KnowsOpen, Knows, Has, HasSeen, IsLed, HasGiven, KeepsRule}

-- the live seats, where one has a new view
pub seats_stay : (K : ℕ → View → Type 0) (vs : List View) (me : ℕ) (w : View) → (w.live ≡ true → K me w)
    → ((j : ℕ) (v : View) → j ≢ me → get_elem? vs j ≡ some v → v.live ≡ true → K j v) → (j : ℕ) (v : View) → get_elem? (set vs me w) j ≡ some v → v.live ≡ true → K j v
seats_stay K vs me w mine others j v e live = ⊎_elim
    (λ (t : (j ≡ me) × (w ≡ v)). subst (λ (x : ℕ × View). K x.0 x.1) (λ i. (sym t.0 i, t.1 i)) (mine (subst (λ (x : View). x.live ≡ true) (sym t.1) live)))
    (λ (t : (j ≢ me) × (get_elem? vs j ≡ some v)). others j v t.0 t.1 live)
    (at_set vs me j w v e)

-- some view shows something, where one has a new view
pub has_stays : (P Q : View → Type 0) (vs : List View) (id place : ℕ) (v w : View) → get_elem? vs id ≡ some v → (P v → Q w) → ((u : View) → P u → Q u) → Has vs place P → Has (set vs id w) place Q
has_stays P Q vs id place v w at own others h = dite (ℕ_discrete place id)
    (λ e. let same : h.0 ≡ v = some-injective h.0 v (sym h.1 ∙ ap (get_elem? vs) e ∙ at) in
    (w, ap (get_elem? (set vs id w)) e ∙ set_here vs id w (at_within vs id v at), own (subst P same h.2)))
    (λ ne. (h.0, set_else vs id place w ne ∙ h.1, others h.0 h.2))

-- a seat's new view has what is shown by views
pub record Stays (n : ℕ) (m m' : Coarse) (v w : View) : Type 0 where
  pub live : w.live ≡ true
  pub seen : v.seen ≡ m.published → w.seen ≡ m'.published
  pub given : (i : ℕ) → i < n → given_of v i ≡ (m.updaters i).given → given_of w i ≡ (m'.updaters i).given
  pub leads : leads v.duty ≡ true → leads w.duty ≡ true
  pub speaks : (i : ℕ) → SpeaksBy i v.drained v.post → SpeaksBy i w.drained w.post

-- what other seats know of an updater is still so
pub record SameUpdater (u u' : CoarseUpdater) : Type 0 where
  pub mine : u.mine ≡ u'.mine
  pub word : u.word ≢ 0 → u'.word ≢ 0

-- the updater that the propagator is at is admitted
pub led_size : (hint : List Entry → ℕ) (n : ℕ) (m : Coarse) (i : ℕ) → Meets hint n m → At m.stage i → m.sizes i ≢ 0
led_size hint n m i ok at zeroed =
    let o = ok.each i (ok.stage_at i at) in
    event.open_vacant hint (m.sizes i) m.published m.stage i (m.updaters i) o zeroed (event.closed_at hint (m.sizes i) m.published m.stage i (m.updaters i) o at)

pub held_sizes : {T : Type 0} (stage : Stage) (b b' : ℕ → ℕ) (held : Option (Held T)) → ((i : ℕ) → At stage i → b' i ≡ b i) → IsHeld stage b held → IsHeld stage b' held
held_sizes Idle b b' held same t = t
held_sizes (Busy i batch) b b' held same t = (t.0, t.1, t.2, t.3 ∙ ap (λ z. contents batch z) (sym (same i refl)))
held_sizes (Published i) b b' held same t = t

-- the four facts that views show, where one has a new view

led_stays : (vs : List View) (id place : ℕ) (v w : View) → get_elem? vs id ≡ some v → w.live ≡ true → (leads v.duty ≡ true → leads w.duty ≡ true) → Has vs place IsLed → Has (set vs id w) place IsLed
led_stays vs id place v w at live own h = has_stays IsLed IsLed vs id place v w at (λ (p : IsLed v). (live, own p.1)) (λ u p. p) h

seen_stays : (vs : List View) (id place : ℕ) (v w : View) (h h' : List Entry) → get_elem? vs id ≡ some v → w.live ≡ true → (v.seen ≡ h → w.seen ≡ h') → h ≡ h' → Has vs place (HasSeen h) → Has (set vs id w) place (HasSeen h')
seen_stays vs id place v w h h' at live own same has = has_stays (HasSeen h) (HasSeen h') vs id place v w at (λ (p : HasSeen h v). (live, own p.1)) (λ u p. (p.0, p.1 ∙ same)) has

given_stays : (vs : List View) (id place i : ℕ) (v w : View) (h h' : List Entry) → get_elem? vs id ≡ some v → w.live ≡ true → (given_of v i ≡ h → given_of w i ≡ h') → h ≡ h' → Has vs place (HasGiven i h) → Has (set vs id w) place (HasGiven i h')
given_stays vs id place i v w h h' at live own same has = has_stays (HasGiven i h) (HasGiven i h') vs id place v w at (λ (p : HasGiven i h v). (live, own p.1)) (λ u p. (p.0, p.1 ∙ same)) has

spoken_stays : (vs : List View) (id place i : ℕ) (v w : View) → get_elem? vs id ≡ some v → w.live ≡ true → (SpeaksBy i v.drained v.post → SpeaksBy i w.drained w.post) → Has vs place (SpeaksFor i) → Has (set vs id w) place (SpeaksFor i)
spoken_stays vs id place i v w at live own has = has_stays (SpeaksFor i) (SpeaksFor i) vs id place v w at (λ (p : SpeaksFor i v). (live, own p.1)) (λ u p. p) has

module _ {C T : Type 0} (hint packed : List ℕ → List Entry → ℕ) (g : Sketching C) (k : Telling T) where
  abbrev St : Type 0
  St = State (Slot C T) View

  abbrev Rule : St → Type 0
  Rule = KeepsRule hint packed g k

  -- a step that changes the seat's own view alone
  pub viewed : (s : St) (r : Rule s) (i id : ℕ) (v w : View) → get_elem? s.views id ≡ some v → Knows r.n r.numbers r.name r.machine r.left r.owner r.leader id w → Stays r.n r.machine r.machine v w
      → Rule record { words = set s.words i (get_or s.words i 0); homes = s.homes; views = set s.views id w }
  viewed s r i id v w at known stays = subst (λ (ws : List ℕ). Rule record { words = ws; homes = s.homes; views = set s.views id w }) (sym (set-get_or s.words i 0)) record {
    n = r.n;
    numbers = r.numbers;
    name = r.name;
    machine = r.machine;
    left = r.left;
    owner = r.owner;
    leader = r.leader;
    seer = r.seer;
    giver = r.giver;
    wide = r.wide;
    deep = r.deep;
    published_is = r.published_is;
    turn_is = r.turn_is;
    words_are = r.words_are;
    meets = r.meets;
    vacant = r.vacant;
    each_slot = r.each_slot;
    rests = r.rests;
    led = λ turn. let l = r.led turn in (l.0, led_stays s.views id r.leader v w at stays.live stays.leads l.1);
    seen = seen_stays s.views id r.seer v w r.machine.published r.machine.published at stays.live stays.seen refl r.seen;
    given = λ j l. given_stays s.views id (r.giver j) j v w (r.machine.updaters j).given (r.machine.updaters j).given at stays.live (stays.given j l) refl (r.given j l);
    spoken = λ j l. spoken_stays s.views id (r.owner j) j v w at stays.live (stays.speaks j) (r.spoken j l);
    each_seat = seats_stay (Knows r.n r.numbers r.name r.machine r.left r.owner r.leader) s.views id w (λ _. known) (λ j u _ e live. r.each_seat j u e live);
  }

  was_vacant : (b b' : ℕ → ℕ) (i : ℕ) → (b i ≢ 0 → b' i ≡ b i) → b' i ≡ 0 → b i ≡ 0
  was_vacant b b' i grow z = dite (ℕ_discrete (b i) 0) (λ e. e) (λ ne. absurd (ne (sym (grow ne) ∙ z)))

  -- what a seat that takes no step still knows: m' is the machine after a step of the seat at id
  pub others_know : (n : ℕ) (numbers name : List ℕ) (m m' : Coarse) (left left' : Bool) (owner : ℕ → ℕ) (leader id j : ℕ) (v : View) → j ≢ id
      → ((i : ℕ) → m.sizes i ≢ 0 → m'.sizes i ≡ m.sizes i) → ((i : ℕ) → (m'.sizes i ≡ m.sizes i) ⊎ (owner i ≡ id)) → Begins m.published m'.published
      → ((i : ℕ) → Begins (m.updaters i).mine.handed (m'.updaters i).mine.handed) → ((i : ℕ) → Begins (m.updaters i).given (m'.updaters i).given)
      → ((i : ℕ) → SameUpdater (m.updaters i) (m'.updaters i) ⊎ (owner i ≡ id))
      → ((m'.turn ≡ m.turn) × (m'.stage ≡ m.stage) × (left' ≡ left) × (m'.published ≡ m.published)) ⊎ (leader ≡ id)
      → Knows n numbers name m left owner leader j v → Knows n numbers name m' left' owner leader j v
  others_know n numbers name m m' left left' owner leader id j v apart sizes own_sizes more-published more-handed more-given same duties o = record {
    sketch = o.sketch;
    sizes = record {
      sized = o.sizes.sized;
      sizes_are = λ i known. let is = o.sizes.sizes_are i known in is ∙ sym (sizes i (λ z. known (is ∙ z)));
      known_with_size = o.sizes.known_with_size;
    };
    lists = lists_grow more-published more-handed more-given o.lists;
    post_is = post v.post o.post_is;
    duty_is = duty v.duty o.duty_is;
    open_is = opened v.post o.post_is o.open_is;
    drained_is = λ i d. let y = o.drained_is i d in let u = others i y.own in record { within = y.within; own = y.own; all = y.all ∙ ap (λ (x : Mine). x.handed) u.mine; given = u.word y.given; was_picked = λ e. y.was_picked (ap (λ (x : Mine). x.picked) u.mine ∙ e) };
  }
    where
      others : (i : ℕ) → owner i ≡ j → SameUpdater (m.updaters i) (m'.updaters i)
      others i own = ⊎_elim (λ s. s) (λ mine. absurd (apart (sym own ∙ mine))) (same i)

      sized : (i : ℕ) → owner i ≡ j → m'.sizes i ≡ m.sizes i
      sized i own = ⊎_elim (λ s. s) (λ mine. absurd (apart (sym own ∙ mine))) (own_sizes i)

      post : (p : Post) → KnowsPost n m owner j v.seen v.sizes v.drained p → KnowsPost n m' owner j v.seen v.sizes v.drained p
      post Guest t = tt
      post (Root made) t = λ i a l. let y = t i a l in (y.0, y.1 ∙ (others i y.0).mine, y.2 ∙ sym (sized i y.0))
      post (Updater i mine) t = (t.0, t.1, t.2 ∙ (others i t.1).mine, t.3, t.4 ∙ sym (sized i t.1), t.5)

      opened : (p : Post) → KnowsPost n m owner j v.seen v.sizes v.drained p → KnowsOpen m v.steps p → KnowsOpen m' v.steps p
      opened Guest t e = tt
      opened (Root made) t e = tt
      opened (Updater i mine) t e = λ known. (others i t.1).word (e known)

      duty : (d : Duty) → KnowsDuty n m left leader j v.seen v.post d → KnowsDuty n m' left' leader j v.seen v.post d
      duty Free t = tt
      duty (Leads stage its) t = ⊎_elim (λ e. (t.0, e.0 ∙ t.1, t.2 ∙ sym e.1, t.3 ∙ sym e.2, t.4 ∙ sym e.3)) (λ mine. absurd (apart (sym t.0 ∙ mine))) duties

  -- a step of the updater i, after which the machine has u of it, and these sizes
  pub updater_step : (s : St) (r : Rule s) (i id x : ℕ) (v w : View) (u : CoarseUpdater) (sizes : ℕ → ℕ) (homes' : List (maybe.Option (Slot C T))) → i < r.n → r.owner i ≡ id → get_elem? s.views id ≡ some v → length homes' ≡ length s.homes
      → ((j : ℕ) → r.machine.sizes j ≢ 0 → sizes j ≡ r.machine.sizes j) → ((j : ℕ) → j ≢ i → sizes j ≡ r.machine.sizes j)
      → Meets (hint r.numbers) r.n (record r.machine { sizes = sizes; updaters = put r.machine.updaters i u }) → x ≡ u.word → u.given ≡ (r.machine.updaters i).given → Begins (r.machine.updaters i).mine.handed u.mine.handed
      → IsSlot k r.name (sizes i) r.machine.stage r.left i u (get_elem? homes' i) → ((j : ℕ) → j ≢ i → get_elem? homes' j ≡ get_elem? s.homes j)
      → Knows r.n r.numbers r.name (record r.machine { sizes = sizes; updaters = put r.machine.updaters i u }) r.left r.owner r.leader id w
      → Stays r.n r.machine (record r.machine { sizes = sizes; updaters = put r.machine.updaters i u }) v w
      → Rule record { words = set s.words (i + 1) x; homes = homes'; views = set s.views id w }
  updater_step s r i id x v w u sizes homes' inside owns at as-deep grow same-sizes meets now-word now-given more slot slots known stays =
      let m = r.machine in let ups : ℕ → CoarseUpdater = put m.updaters i u in let m' : Coarse = record m { sizes = sizes; updaters = ups } in let wide = r.wide in
      let given_same : (j : ℕ) → (m.updaters j).given ≡ (ups j).given = λ j. each_put (λ a (b : CoarseUpdater). (m.updaters a).given ≡ b.given) m.updaters i u j (sym now-given) (λ _. refl) in record {
        n = r.n;
        numbers = r.numbers;
        name = r.name;
        machine = m';
        left = r.left;
        owner = r.owner;
        leader = r.leader;
        seer = r.seer;
        giver = r.giver;
        wide = length-set s.words (i + 1) x ∙ r.wide;
        deep = as-deep ∙ r.deep;
        published_is = get_or-set_other s.words (i + 1) 0 x 0 (λ e. omega arith) ∙ r.published_is;
        turn_is = get_or-set_other s.words (i + 1) (r.n + 1) x 0 (λ e. omega arith) ∙ r.turn_is;
        words_are = λ j l. each_put (λ a (b : CoarseUpdater). get_or (set s.words (i + 1) x) (a + 1) 0 ≡ b.word) m.updaters i u j (get_or-set_same s.words (i + 1) x 0 (omega arith) ∙ now-word)
            (λ ne. get_or-set_other s.words (i + 1) (j + 1) x 0 (λ e. ne (omega arith)) ∙ r.words_are j l);
        meets = meets;
        vacant = λ j l. each_put (λ a (b : CoarseUpdater). sizes a ≡ 0 → b.given ≡ []) m.updaters i u j
            (λ z. now-given ∙ r.vacant i inside (was_vacant m.sizes sizes i (grow i) z))
            (λ ne z. r.vacant j l (sym (same-sizes j ne) ∙ z));
        each_slot = λ j l. each_put (λ a (b : CoarseUpdater). IsSlot k r.name (sizes a) m.stage r.left a b (get_elem? homes' a)) m.updaters i u j slot
            (λ ne. subst (λ (y : ℕ × maybe.Option (maybe.Option (Slot C T))). IsSlot k r.name y.0 m.stage r.left j (m.updaters j) y.1) (λ a. (sym (same-sizes j ne) a, sym (slots j ne) a)) (r.each_slot j l));
        rests = λ z. let t = r.rests z in (
          t.0,
          slots r.n (λ e. omega arith) ∙ t.1,
          record {
            of_it = t.2.of_it;
            numbers_are = t.2.numbers_are;
            name_is = t.2.name_is;
            held_is = held_sizes m.stage m.sizes sizes t.0.held (λ j a. grow j (led_size (hint r.numbers) r.n m j r.meets a)) t.2.held_is;
          },
          t.3,
        );
        led = λ turn. let l = r.led turn in (slots r.n (λ e. omega arith) ∙ l.0, led_stays s.views id r.leader v w at stays.live stays.leads l.1);
        seen = seen_stays s.views id r.seer v w m.published m.published at stays.live stays.seen refl r.seen;
        given = λ j l. given_stays s.views id (r.giver j) j v w (m.updaters j).given (ups j).given at stays.live (stays.given j l) (given_same j) (r.given j l);
        spoken = λ j l. spoken_stays s.views id (r.owner j) j v w at stays.live (stays.speaks j) (r.spoken j l);
        each_seat = seats_stay (Knows r.n r.numbers r.name m' r.left r.owner r.leader) s.views id w (λ _. known)
            (λ j y apart e live. others_know r.n r.numbers r.name m m' r.left r.left r.owner r.leader id j y apart grow
            (λ a. dite (ℕ_discrete a i) (λ e. inr (ap r.owner e ∙ owns)) (λ ne. inl (same-sizes a ne)))
            (begins_refl m.published)
            (λ a. each_put (λ b (c : CoarseUpdater). Begins (m.updaters b).mine.handed c.mine.handed) m.updaters i u a more (λ _. begins_refl (m.updaters a).mine.handed))
            (λ a. subst (Begins (m.updaters a).given) (given_same a) (begins_refl (m.updaters a).given))
            (λ a. each_put (λ b (c : CoarseUpdater). SameUpdater (m.updaters b) c ⊎ (r.owner b ≡ id)) m.updaters i u a (inr owns) (λ _. inl (record { mine = refl; word = λ z. z })))
            (inl (refl, refl, refl, refl)) (r.each_seat j y e live));
      }

  -- a step of whoever propagates, other than a turn and a yield: the machine has another published list, stage and
  -- updaters, which know of themselves what they did. The word a becomes x
  pub propagator_step : (s : St) (r : Rule s) (a id x : ℕ) (v w : View) (h' : List Entry) (stage' : Stage) (updaters' : ℕ → CoarseUpdater) (left' : Bool) (seer' : ℕ) (giver' : ℕ → ℕ) (homes' : List (maybe.Option (Slot C T)))
      → r.leader ≡ id → r.machine.turn ≢ 0 → leads w.duty ≡ true → w.live ≡ true → ((i : ℕ) → SpeaksBy i v.drained v.post → SpeaksBy i w.drained w.post) → get_elem? s.views id ≡ some v → length homes' ≡ length s.homes
      → get_or (set s.words a x) 0 0 ≡ packed r.numbers h' → get_or (set s.words a x) (r.n + 1) 0 ≡ r.machine.turn → ((j : ℕ) → j < r.n → get_or (set s.words a x) (j + 1) 0 ≡ (updaters' j).word)
      → Meets (hint r.numbers) r.n (record r.machine { published = h'; stage = stage'; updaters = updaters' }) → ((j : ℕ) → j < r.n → r.machine.sizes j ≡ 0 → (updaters' j).given ≡ [])
      → ((j : ℕ) → j < r.n → IsSlot k r.name (r.machine.sizes j) stage' left' j (updaters' j) (get_elem? homes' j)) → get_elem? homes' r.n ≡ get_elem? s.homes r.n
      → Begins r.machine.published h' → ((j : ℕ) → Begins (r.machine.updaters j).given (updaters' j).given) → ((j : ℕ) → SameUpdater (r.machine.updaters j) (updaters' j))
      → Has (set s.views id w) seer' (HasSeen h') → ((i : ℕ) → i < r.n → Has (set s.views id w) (giver' i) (HasGiven i (updaters' i).given))
      → Knows r.n r.numbers r.name (record r.machine { published = h'; stage = stage'; updaters = updaters' }) left' r.owner r.leader id w
      → Rule record { words = set s.words a x; homes = homes'; views = set s.views id w }
  propagator_step s r a id x v w h' stage' updaters' left' seer' giver' homes' mine turn leads' live speaks at as-deep published-word turn-word words meets vacant slots trunk more-published more-given same seen given known =
      let m = r.machine in let m' : Coarse = record m { published = h'; stage = stage'; updaters = updaters' } in record {
        n = r.n;
        numbers = r.numbers;
        name = r.name;
        machine = m';
        left = left';
        owner = r.owner;
        leader = r.leader;
        seer = seer';
        giver = giver';
        wide = length-set s.words a x ∙ r.wide;
        deep = as-deep ∙ r.deep;
        published_is = published-word;
        turn_is = turn-word;
        words_are = words;
        meets = meets;
        vacant = vacant;
        each_slot = slots;
        rests = λ z. absurd (turn z);
        led = λ z. let l = r.led z in (trunk ∙ l.0, led_stays s.views id r.leader v w at live (λ _. leads') l.1);
        seen = seen;
        given = given;
        spoken = λ j l. spoken_stays s.views id (r.owner j) j v w at live (speaks j) (r.spoken j l);
        each_seat = seats_stay (Knows r.n r.numbers r.name m' left' r.owner r.leader) s.views id w (λ _. known)
            (λ j y apart e live'. others_know r.n r.numbers r.name m m' r.left left' r.owner r.leader id j y apart (λ _ _. refl) (λ _. inl refl) more-published
            (λ b. subst (λ (c : Mine). Begins (m.updaters b).mine.handed c.handed) (same b).mine (begins_refl (m.updaters b).mine.handed))
            more-given (λ b. inl (same b)) (inr mine) (r.each_seat j y e live'));
      }

-- ---- lists

-- a place past the end has nothing
pub index_within : (l : List ℕ) (i : ℕ) → get_or l i 0 ≢ 0 → i < length l
index_within [] i n = absurd (n refl)
index_within (x ∷ xs) zero n = omega arith
index_within (x ∷ xs) (suc i) n = let more = index_within xs i n in omega arith
