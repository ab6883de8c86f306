-- A table that keeps its rule shows a whole machine that meets its whole invariant.
use Rattle.std.proofs.Common.{◌≡◌, ◌≢◌, ◌⊎◌, ℕ, ◌+◌, ◌<◌, ◌≤◌, Bool, true, false, List, get_or, Contains, Some, None, sym, refl, ap, ◌∙◌, subst, ⊎_elim, inl, inr, arith}
use Rattle.std.proofs.lemmas.Bool.{true≢false, cases_eq, cases_Bool}
use mathlib.Core.Option.{some, none, some-injective, some-ne-none}
use mathlib.Core.Option as maybe
use lib.ListN.{get_elem?}
use Rattle.atomic_table.specs.Table.{State}
use Rattle.sk_model.specs.Entries.{Entry}
use Rattle.sk_model.specs.Missing.{Begins}
use Rattle.sk_compose.specs.declared.buffer.Parcel.{Parcel}
use Rattle.sk_machine.specs.Coarse.{Coarse, CoarseUpdater, At, MeetsUpdater}
use Rattle.sk_machine.specs.Fine.{FineUpdater, Fine}
use Rattle.sk_machine.specs.Invariant.{IsAt, is_ready, stage_of}
use Rattle.sk_machine.specs.Shown.{ShowsUpdater}
use Rattle.sk_machine.specs.declared.states.Mark.{Mark}
use Rattle.sk_machine.specs.declared.states.Mark.TheVariants.{Neither, Ready, Swapped}
use Rattle.sk_machine.specs.declared.states.Progress.{Progress}
use Rattle.sk_machine.specs.declared.states.Progress.TheVariants.{Idle, Found, Holding, Published, Put}
use Rattle.sk_machine.specs.declared.views.Mine.{Mine}
use Rattle.sk_machine.specs.declared.views.Post.{Post}
use Rattle.sk_machine.specs.declared.views.Post.TheVariants.{Guest, Root, Updater}
use Rattle.sk_machine.specs.declared.views.Duty.{Duty}
use Rattle.sk_machine.specs.declared.views.Duty.TheVariants.{Free, Leads}
use Rattle.sk_machine.specs.declared.views.View.{View}
use Rattle.sk_machine.proofs.Coarse as event
use Rattle.sk_machine.proofs.Shown.{shown_by}
use Rattle.sk_gate.specs.declared.load.Load.TheVariants as load
use Rattle.sk_gate.specs.Slots.{Slot, full, contents, room, Sketching, Telling, TellsGiven, IsHeld}
use Rattle.sk_gate.specs.Views.{known_of, given_of, seat_in, leads, SpeaksBy}
use Rattle.sk_gate.specs.Rule.{left_home, IsSlot, KnowsPost, KnowsDuty, Knows, Has, HasGiven, HasSeen, KeepsRule}
use Rattle.sk_gate.specs.Shows.{IsPickedBy, IsPicked, HasParcel, ShowsSlot, KnowsOwn, LeadsBy, IsLiveSeat, ShowsTrunk, ShowsView, Shown}
use Rattle.sk_gate.proofs.Common.{held_sizes}
use Rattle.sk_gate.proofs.Known.{room_some}

marked : (mark : Mark) → mark ≢ Neither → is_ready mark ≡ true
marked Neither ne = absurd (ne refl)
marked Ready ne = refl
marked Swapped ne = refl

is_at : (updaters : ℕ → FineUpdater) (in_hand : List ℕ) (p : Progress) (i : ℕ) → At (stage_of updaters in_hand p) i → IsAt p i
is_at updaters in_hand Idle i at = at
is_at updaters in_hand (Found k) i at = at
is_at updaters in_hand (Holding k) i at = at
is_at updaters in_hand (Published k) i at = at
is_at updaters in_hand (Put k) i at = at

at_is : (updaters : ℕ → FineUpdater) (in_hand : List ℕ) (p : Progress) (i : ℕ) → IsAt p i → At (stage_of updaters in_hand p) i
at_is updaters in_hand Idle i at = at
at_is updaters in_hand (Found k) i at = at
at_is updaters in_hand (Holding k) i at = at
at_is updaters in_hand (Published k) i at = at
at_is updaters in_hand (Put k) i at = at

module _ {C T : Type 0} where
  abbrev parcel_or : Parcel T → Slot C T → Parcel T
  parcel_or d None = d
  parcel_or d (Some (load.Parcel p)) = p
  parcel_or d (Some (load.Trunk t)) = d

  same_parcel : (home : maybe.Option (maybe.Option (Slot C T))) (p q : Parcel T) → HasParcel home p → HasParcel home q → p ≡ q
  same_parcel home p q a b = ap (parcel_or p) (some-injective (full p) (full q) (some-injective (some (full p)) (some (full q)) (sym a ∙ b)))

  not_out : (home : maybe.Option (maybe.Option (Slot C T))) (p : Parcel T) → HasParcel home p → home ≡ some none → ⊥
  not_out home p a b = some-ne-none (full p) (some-injective (some (full p)) none (sym a ∙ b))

  left_or_out : (home : maybe.Option (maybe.Option (Slot C T))) (left : Bool) → home ≡ some (left_home left) → (home ≡ some none) ⊎ (home ≡ some (some None))
  left_or_out home true e = inr e
  left_or_out home false e = inl e

  not_left : (home : maybe.Option (maybe.Option (Slot C T))) (p : Parcel T) (left : Bool) → HasParcel home p → home ≡ some (left_home left) → ⊥
  not_left home p true a b = some_none (some-injective (full p) None (some-injective (some (full p)) (some None) (sym a ∙ b)))
    where
      some_none : {A : Type 0} {a : A} → Some a ≡ None → ⊥
      some_none e = cc
  not_left home p false a b = not_out home p a b

module _ {C T : Type 0} (hint packed : List ℕ → List Entry → ℕ) (g : Sketching C) (k : Telling T) (s : State (Slot C T) View) (r : KeepsRule hint packed g k s) where
  abbrev m : Coarse
  m = r.machine

  -- the told value of a parcel was not picked out
  unpicked : (i : ℕ) → i < r.n → ¬ IsPicked s.views i → (m.updaters i).mine.picked ≡ false
  unpicked i l whole = let h = r.spoken i l in let v : View = h.0 in let o = r.each_seat (r.owner i) v h.1 h.2.0 in
      go v v.post h.2.1 o.post_is (λ d on. whole (r.owner i, v, h.1, h.2.0, inl ((o.drained_is i d).was_picked on))) (λ p. whole (r.owner i, v, h.1, h.2.0, inr p))
    where
      go : (v : View) (p : Post) → SpeaksBy i v.drained p → KnowsPost r.n m r.owner (r.owner i) v.seen v.sizes v.drained p → (Contains v.drained i → ¬ ((m.updaters i).mine.picked ≡ true)) → ¬ IsPickedBy i p → (m.updaters i).mine.picked ≡ false
      go v Guest speaks t unmarked alone = absurd speaks
      go v (Root made) speaks t unmarked alone = ⊎_elim (λ (le : made ≤ i). ap (λ (x : Mine). x.picked) (sym (t i le l).1)) (λ d. ⊎_elim (λ on. absurd (unmarked d on)) (λ off. off) (cases_Bool (m.updaters i).mine.picked)) speaks
      go v (Updater a mine) e t unmarked alone = ⊎_elim (λ on. absurd (alone (e, on)))
          (λ off. ap (λ (x : ℕ). (m.updaters x).mine.picked) (sym e) ∙ sym (ap (λ (x : Mine). x.picked) t.2) ∙ off) (cases_Bool mine.picked)

  slot_shown : (f : Fine) → stage_of f.updaters f.in_hand f.progress ≡ m.stage → (i : ℕ) → i < r.n → ShowsUpdater m.stage (m.sizes i) i (m.updaters i) (f.updaters i) → ShowsSlot k r.name s.views f i (f.updaters i) (get_elem? s.homes i)
  slot_shown f stage i l x = record {
    taken = λ ne. c.ready (sym x.ready ∙ marked whole.mark ne);
    led = λ at. left_or_out home r.left (c.led (subst (λ t. At t i) stage (at_is f.updaters f.in_hand f.progress i at)));
    lies = λ e apart. let off : u.mine.ready ≡ false = sym x.ready ∙ ap is_ready e in ⊎_elim
        (λ (z : u.word ≡ 0). let y = c.waiting z (λ at. apart (is_at f.updaters f.in_hand f.progress i (subst (λ t. At t i) (sym stage) at))) in (y.0, y.1))
        (λ (ne : u.word ≢ 0). let y = c.resting ne off in (y.0, y.1))
        (cases_eq u.word 0);
    items = λ p has. (
      x.home (apart p has),
      ⊎_elim
          (λ (z : u.word ≡ 0). let y = c.waiting z (apart p has) in
          let admitted : m.sizes i ≢ 0 = λ vacant. event.open_vacant (hint r.numbers) (m.sizes i) m.published m.stage i u ok vacant z in
          ap (λ (q : Parcel T). q.buffer) (sym (same_parcel home y.0 p y.1 has)) ∙ y.2 ∙ (λ a. contents (sym (x.waiting (apart p has) z) a) (sym (room_some (m.sizes i) admitted) a)) ∙ ap (λ b. contents whole.slot (room b)) (sym x.size))
          (λ (ne : u.word ≢ 0). let y = c.resting ne (off p has) in ap (λ (q : Parcel T). q.buffer) (sym (same_parcel home y.0 p y.1 has)) ∙ y.2 ∙ (λ a. contents (sym (x.empty ne) a) (room (sym x.size a))))
          (cases_eq u.word 0),
    );
    told = λ p has open_now free. let ne : u.word ≢ 0 = λ z. open_now (x.word ∙ z) in let y = c.resting ne (off p has) in
        subst (λ (t : Parcel T × List ℕ × List Entry). TellsGiven k r.name t.0 t.1 t.2) (λ a. (same_parcel home y.0 p y.1 has a, sym x.handed a, sym x.given a)) (y.3 (unpicked i l free));
  }
    where
      u : CoarseUpdater
      u = m.updaters i

      whole : FineUpdater
      whole = f.updaters i

      home : maybe.Option (maybe.Option (Slot C T))
      home = get_elem? s.homes i

      c : IsSlot k r.name (m.sizes i) m.stage r.left i u home
      c = r.each_slot i l

      ok : MeetsUpdater (hint r.numbers) (m.sizes i) m.published m.stage i u
      ok = r.meets.each i l

      apart : (p : Parcel T) → HasParcel home p → ¬ At m.stage i
      apart p has at = not_left home p r.left has (c.led at)

      off : (p : Parcel T) → HasParcel home p → u.mine.ready ≡ false
      off p has = ⊎_elim (λ on. absurd (not_out home p has (c.ready on))) (λ e. e) (cases_Bool u.mine.ready)

  view_shown : (f : Fine) → f.n ≡ r.n → f.published ≡ m.published → stage_of f.updaters f.in_hand f.progress ≡ m.stage → f.turn ≡ m.turn → ((i : ℕ) → i < r.n → ShowsUpdater m.stage (m.sizes i) i (m.updaters i) (f.updaters i))
      → (j : ℕ) (v : View) → IsLiveSeat s.views j v → ShowsView r.numbers r.name f v
  view_shown f count published stage turn each j v at = record {
    numbers_are = o.sketch.numbers_are;
    name_is = o.sketch.name_is;
    seen = subst (Begins v.seen) (sym published) o.lists.seen_is;
    heard = λ h d. subst (Begins h) (sym published) (o.lists.heard_is h d);
    names = o.sketch.names_are;
    known = λ i l. subst (Begins (known_of v i)) (sym (each i (within i l)).handed) (o.lists.known_is i);
    given = λ i l. subst (Begins (given_of v i)) (sym (each i (within i l)).given) (o.lists.given_is i);
    sizes = λ i l ne. o.sizes.sizes_are i ne ∙ sym (each i (within i l)).size;
    own = own v.post o.post_is;
    duty = duty v.duty o.duty_is;
    drained = λ i d. let y = o.drained_is i d in let x = each i y.within in record { within = omega (arith, y.within, count); all = y.all ∙ sym x.handed; given = λ z. y.given (sym x.word ∙ z) };
  }
    where
      o : Knows r.n r.numbers r.name m r.left r.owner r.leader j v
      o = r.each_seat j v at.0 at.1

      within : (i : ℕ) → i < f.n → i < r.n
      within i l = omega arith

      own : (p : Post) → KnowsPost r.n m r.owner j v.seen v.sizes v.drained p → KnowsOwn f v p
      own Guest t = tt
      own (Root made) t = λ i a l. let x = each i (within i l) in let y = t i a (within i l) in (x.handed ∙ ap (λ (z : Mine). z.handed) (sym y.1), y.2 ∙ sym x.size)
      own (Updater i mine) t = let x = each i t.0 in
          (omega (arith, t.0, count), ap (λ (y : Mine). y.handed) t.2 ∙ sym x.handed, ap (λ (y : Mine). y.base) t.2 ∙ sym x.base, ap (λ (y : Mine). y.ready) t.2 ∙ sym x.ready, t.3, t.4 ∙ sym x.size)

      duty : (d : Duty) → KnowsDuty r.n m r.left r.leader j v.seen v.post d → LeadsBy f v d
      duty Free t = tt
      duty (Leads place left) t = (turn ∙ t.1 ∙ ap (λ n. seat_in n v.post + 1) (sym count), t.2 ∙ sym stage, t.4 ∙ sym published)

  pub always_shown : Shown hint packed g k s
  always_shown =
      let w = shown_by (hint r.numbers) (packed r.numbers) r.n m s.views r.meets (λ j v at live. let o = r.each_seat j v at live in record { seen = o.lists.seen_is; known = λ i _. o.lists.known_is i }) in
      let f : Fine = w.machine in let x = w.shown in let within : (i : ℕ) → i < f.n → i < r.n = λ i l. omega (arith, x.count) in record {
        numbers = r.numbers;
        name = r.name;
        machine = f;
        invariant = w.invariant;
        words = record {
          count = r.wide ∙ ap (λ n. n + 2) (sym x.count);
          published = r.published_is ∙ ap (packed r.numbers) (sym x.published) ∙ sym w.invariant.word;
          updaters = λ i l. r.words_are i (within i l) ∙ sym (x.updaters i (within i l)).word;
          turn = ap (λ n. get_or s.words (n + 1) 0) x.count ∙ r.turn_is ∙ sym x.turn;
        };
        count = r.deep ∙ ap (λ n. n + 1) (sym x.count);
        slots = λ i l. slot_shown f x.stage i (within i l) (x.updaters i (within i l));
        trunk_is = subst (λ n. ShowsTrunk g r.numbers r.name f (get_elem? s.homes n)) (sym x.count) (record {
          taken = λ on. (r.led (λ z. on (x.turn ∙ z))).0;
          lies = λ z. let t = r.rests (sym x.turn ∙ z) in (
            t.0,
            t.1,
            record {
              of_it = subst (g.is_of t.0.global.value) (sym x.published) t.2.of_it;
              numbers_are = t.2.numbers_are;
              name_is = t.2.name_is;
              held_is = subst (λ stage. IsHeld stage (λ i. (f.updaters i).size) t.0.held) (sym x.stage) (held_sizes m.stage m.sizes (λ i. (f.updaters i).size) t.0.held (λ i at. (x.updaters i (r.meets.stage_at i at)).size) t.2.held_is);
            },
          );
        });
        seats = record {
          each = view_shown f x.count x.published x.stage x.turn x.updaters;
          made = x.made;
          tokens = x.tokens;
          leader = λ on. (r.leader, (r.led (λ z. on (x.turn ∙ z))).1);
          one_leads = λ a b v w av bw lv lw. sym (leads_at a v.seen v.post v.duty lv (r.each_seat a v av.0 av.1).duty_is) ∙ leads_at b w.seen w.post w.duty lw (r.each_seat b w bw.0 bw.1).duty_is;
          spoken = λ i l. (r.owner i, r.spoken i (within i l));
          one_own = λ i a b v w av bw iv iw. sym (subst (KnowsPost r.n m r.owner a v.seen v.sizes v.drained) iv (r.each_seat a v av.0 av.1).post_is).1 ∙ (subst (KnowsPost r.n m r.owner b w.seen w.sizes w.drained) iw (r.each_seat b w bw.0 bw.1).post_is).1;
          seen = (r.seer, subst (λ h. Has s.views r.seer (HasSeen h)) (sym x.published) r.seen);
          given = λ i l. let at = within i l in (r.giver i, subst (λ h. Has s.views (r.giver i) (HasGiven i h)) (sym (x.updaters i at).given) (r.given i at));
        };
      }
    where
      leads_at : (j : ℕ) (seen : List Entry) (post : Post) (d : Duty) → leads d ≡ true → KnowsDuty r.n m r.left r.leader j seen post d → r.leader ≡ j
      leads_at j seen post Free e t = absurd (true≢false (sym e))
      leads_at j seen post (Leads stage left) e t = t.0
