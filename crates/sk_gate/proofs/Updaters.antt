-- The steps of any seat and of an updater keep the rule.
use Rattle.std.proofs.Common.{◌≡◌, ◌≢◌, ℕ, ◌+◌, ◌<◌, ◌≤◌, Bool, true, false, true≢false, List, [], ◌∷◌, ◌++◌, length, get_or, set, Contains, Option, Some, None, sym, refl, ap, ◌∙◌, subst, ⊎_elim, arith, length-set, get_or-set_same}
use Rattle.std.proofs.lemmas.Bool.{cases_Bool}
use Rattle.std.specs.Prelude.{not, is_some}
use mathlib.Core.Option.{some, none}
use mathlib.Core.Option as maybe
use mathlib.Core.Logic.{dite}
use native.Mathlib.Decide.{ℕ_discrete}
use lib.ListN.{get_elem?}
use Rattle.atomic_table.specs.Table.{State, step, keeps, takes, gives, Allows, rest}
use Rattle.atomic_table.proofs.Lists.{set_here, set_else}
use Rattle.sk_model.specs.Entries.{Entry, entries_by}
use Rattle.sk_model.specs.Missing.{Begins, LacksAtMost, longer}
use Rattle.sk_model.proofs.Missing.{begins_refl, begins_nil, begins_trans}
use Rattle.sk_compose.specs.declared.buffer.Parcel.{Parcel}
use Rattle.sk_machine.specs.Numbered.{put}
use Rattle.sk_machine.specs.Coarse.{CoarseUpdater, Coarse, IsBatch, after_admit}
use Rattle.sk_machine.specs.declared.views.Mine.{Mine}
use Rattle.sk_machine.specs.declared.views.Move.TheVariants.{Ask, Look, Hand}
use Rattle.sk_machine.specs.declared.views.Post.{Post}
use Rattle.sk_machine.specs.declared.views.Post.TheVariants.{Guest, Root, Updater}
use Rattle.sk_machine.specs.declared.views.Duty.{Duty}
use Rattle.sk_machine.specs.declared.views.Duty.TheVariants.{Free, Leads}
use Rattle.sk_machine.specs.declared.views.View.{View}
use Rattle.sk_machine.proofs.Numbered.{put_here, put_else, each_put}
use Rattle.sk_machine.proofs.Coarse as event
use Rattle.sk_gate.specs.declared.load.Load.TheVariants as load
use Rattle.sk_gate.specs.Slots.{Slot, full, contents, room, Sketching, Telling, TellsList, TellsGiven}
use Rattle.sk_gate.specs.Views.{known_of, given_of, size_of, mine_of, seat_in, leads, is_open, SpeaksBy}
use Rattle.sk_gate.specs.Rule.{KnowsPost, KnowsDuty, KnowsOpen, Knows, KeepsRule}
use Rattle.sk_gate.specs.Moves.{LacksOwn, looked_mine, RenewsAt, LooksAt, AdmitsAt, handed_mine}
use Rattle.sk_gate.specs.Plays.{Sat, asked, LookHand, looked, is_picked, rested_mine, rested, admitted, handed, published}
use Rattle.sk_gate.proofs.Published.{published_seen, begun_seen, seen_between}
use Rattle.sk_gate.proofs.Opened.{open_neutral, open_told, open_shut}
use Rattle.sk_model.proofs.Lists.{at_within}
use Rattle.sk_gate.proofs.Common.{Stays, viewed, updater_step, index_within}
use Rattle.sk_gate.proofs.Known.{room_some, stepped_knows, stepped_stays}
use Rattle.sk_gate.proofs.Merged.{longer_either, longer_left, longer_right, longer_same}
use Rattle.sk_gate.proofs.Beginnings.{lists_put, lists_see, sizes_put}
use Rattle.sk_model.specs.Width.{AreItems}
use Rattle.sk_model.specs.Limits.{most_kept}

-- a seat that has seen more
pub post_sees : (n : ℕ) (m : Coarse) (owner : ℕ → ℕ) (j : ℕ) (seen seen' : List Entry) (sizes drained : List ℕ) (p : Post) → Begins seen seen' → KnowsPost n m owner j seen sizes drained p → KnowsPost n m owner j seen' sizes drained p
post_sees n m owner j seen seen' sizes drained Guest b t = tt
post_sees n m owner j seen seen' sizes drained (Root made) b t = t
post_sees n m owner j seen seen' sizes drained (Updater i mine) b t = (t.0, t.1, t.2, begins_trans _ _ _ t.3 b, t.4, t.5)

pub duty_sees : (n : ℕ) (m : Coarse) (left : Bool) (leader j : ℕ) (seen seen' : List Entry) (p : Post) (d : Duty) → (seen ≡ m.published → seen' ≡ m.published) → KnowsDuty n m left leader j seen p d → KnowsDuty n m left leader j seen' p d
duty_sees n m left leader j seen seen' p Free e t = tt
duty_sees n m left leader j seen seen' p (Leads stage its) e t = (t.0, t.1, t.2, t.3, e t.4)

-- an updater's own step leaves what it knows as whoever propagates
pub duty_same : (n i : ℕ) (m m' : Coarse) (left : Bool) (leader j : ℕ) (seen seen' : List Entry) (mine mine' : Mine) (p : Post) (d : Duty) → p ≡ Updater i mine → m'.turn ≡ m.turn → m'.stage ≡ m.stage → m'.published ≡ m.published → (seen ≡ m.published → seen' ≡ m.published)
    → KnowsDuty n m left leader j seen p d → KnowsDuty n m' left leader j seen' (Updater i mine') d
duty_same n i m m' left leader j seen seen' mine mine' p Free is turn stage published e t = tt
duty_same n i m m' left leader j seen seen' mine mine' p (Leads stage its) is same_turn same_stage published e t = (t.0, same_turn ∙ t.1 ∙ ap (λ q. seat_in n q + 1) is, t.2 ∙ sym same_stage, t.3, e t.4 ∙ sym published)

pub none_drained : {P : Type 0} (l : List ℕ) (i : ℕ) → l ≡ [] → Contains l i → P
none_drained l i e d = let c : Contains [] i = subst (λ q. Contains q i) e d in let no = c.1 in absurd (omega arith)

-- whoever propagates has seen all
pub duty_seen : (n : ℕ) (m : Coarse) (left : Bool) (leader j : ℕ) (seen : List Entry) (p : Post) (d : Duty) → leads d ≡ true → KnowsDuty n m left leader j seen p d → m.published ≡ seen
duty_seen n m left leader j seen p Free leads t = absurd (true≢false (sym leads))
duty_seen n m left leader j seen p (Leads stage its) leads t = sym t.4

abbrev parcel_or : {C T : Type 0} → Parcel T → List (ℕ × Slot C T) → Parcel T
parcel_or p [] = p
parcel_or p ((i, None) ∷ more) = p
parcel_or p ((i, Some (load.Parcel q)) ∷ more) = q
parcel_or p ((i, Some (load.Trunk t)) ∷ more) = p

-- the same slots, with a parcel first
pub same_first : {C T : Type 0} (i j : ℕ) (p q : Parcel T) (xs ys : List (ℕ × Slot C T)) → (i, full p) ∷ xs ≡ (j, full q) ∷ ys → (p ≡ q) × (xs ≡ ys)
same_first i j p q xs ys e = (ap (parcel_or p) e, ap rest e)

-- what is known of the told value of a parcel that was not picked
told_rested : {T : Type 0} (k : Telling T) (name : List ℕ) (p : Parcel T) (handed : List ℕ) (given : List Entry) → is_picked handed (is_some p.told) ≡ false → ((t : T) → p.told ≡ Some t → (handed ≢ []) × TellsList k name t given) → TellsGiven k name p handed given
told_rested k name p [] given unpicked told = ((λ _. refl), told)
told_rested k name p (x ∷ xs) given unpicked told = ((λ e. absurd (true≢false (sym (ap (λ t. not (is_some t)) e) ∙ unpicked))), told)

none_of : {T : Type 0} (x : Option T) → ((t : T) → x ≡ Some t → ⊥) → x ≡ None
none_of None never = refl
none_of (Some t) never = absurd (never t refl)

module _ {C T : Type 0} (hint packed : List ℕ → List Entry → ℕ) (g : Sketching C) (k : Telling T) where
  abbrev Rule : State (Slot C T) View → Type 0
  Rule = KeepsRule hint packed g k

  lacks_own : (s : State (Slot C T) View) (r : Rule s) (j : ℕ) (v : View) (p : Post) → KnowsPost r.n r.machine r.owner j v.seen v.sizes v.drained p → LacksOwn r.machine.published (size_of v) p
  lacks_own s r j v Guest t = tt
  lacks_own s r j v (Root made) t = tt
  lacks_own s r j v (Updater i mine) t = subst (λ (y : ℕ × Mine). LacksAtMost y.1.handed (entries_by i r.machine.published) y.0) (λ a. (sym t.4 a, sym t.2 a)) (event.lacks (hint r.numbers) r.n r.machine i r.meets t.0)

  pub asks : (slots id n : ℕ) (me : Sat C T) → slots ≡ n + 1 → me.0.live ≡ true → Allows Rule slots id me 0 (λ x. x) (asked packed (step slots 0 0 0 none) me)
  asks slots id n me size live s r deep at _ = let v : View = me.0 in let m = r.machine in let h : List Entry = m.published in let x : ℕ = get_or s.words 0 0 in let o = r.each_seat id v at live in
      let w : View = record v { seen = h; steps = v.steps ++ Ask x ∷ [] } in (
        w,
        keeps,
        tt,
        viewed hint packed g k s r 0 id v w at (record {
          sketch = o.sketch;
          sizes = o.sizes;
          lists = lists_see (begins_refl h) o.lists;
          post_is = post_sees r.n m r.owner id v.seen h v.sizes v.drained v.post o.lists.seen_is o.post_is;
          duty_is = duty_sees r.n m r.left r.leader id v.seen h v.post v.duty (λ _. refl) o.duty_is;
          open_is = open_neutral m m v.steps (Ask x) v.post (λ _ _. refl) (λ _ z. z) o.open_is;
          drained_is = o.drained_is;
        }) (record { live = live; seen = λ _. refl; given = λ _ _ e. e; leads = λ e. e; speaks = λ _ t. t }),
        (
          record {
            view = refl;
            grows = o.lists.seen_is;
            is_seen = published_seen (hint r.numbers) r.n m r.owner id v o.sizes.sized r.meets o.post_is;
            heard = o.lists.heard_is;
            named = λ y d. o.sketch.names_are y d ∙ sym o.sketch.name_is;
            value = r.published_is ∙ ap (λ l. packed l h) (sym o.sketch.numbers_are);
            lacks = λ i some-known. let there = o.sizes.known_with_size i some-known in let inside : i < r.n = subst (λ z. i < z) o.sizes.sized (index_within v.sizes i there) in
                subst (LacksAtMost (known_of v i) (entries_by i h)) (sym (o.sizes.sizes_are i there)) (event.lacks_known (hint r.numbers) r.n m i (known_of v i) r.meets inside (o.lists.known_is i));
            lacks_own = lacks_own s r id v v.post o.post_is;
            leads = λ leads. duty_seen r.n m r.left r.leader id v.seen v.post v.duty leads o.duty_is;
            drained = λ i d. let y = o.drained_is i d in (r.meets.each i y.within).open_all y.given ∙ sym y.all;
          },
          refl,
        ),
      )

  pub looks : (slots id n : ℕ) (me : Sat C T) (i : ℕ) → slots ≡ n + 1 → me.0.live ≡ true → me.0.post ≡ Updater i (mine_of me.0) → size_of me.0 i ≢ 0 → Allows Rule slots id me (i + 1) (λ x. x) (looked k hint (step slots (i + 1) 0 0 none) me)
  looks slots id n me i size live is there s r deep at _ = let v : View = me.0 in let m = r.machine in let x : ℕ = get_or s.words (i + 1) 0 in let o = r.each_seat id v at live in
      let mine : Mine = mine_of v in let own = subst (KnowsPost r.n m r.owner id v.seen v.sizes v.drained) is o.post_is in let inside : i < r.n = own.0 in let u = m.updaters i in let ok = r.meets.each i inside in let slot = r.each_slot i inside in
      let word : x ≡ u.word = r.words_are i inside in let b : size_of v i ≡ m.sizes i = own.4 in let admitted : m.sizes i ≢ 0 = λ z. there (b ∙ z) in
      let here : (j : ℕ) → i + 1 ≡ j + 1 → i ≡ j = λ j e. omega arith in
      dite (ℕ_discrete x 0)
      (λ closed. let w : View = record v { steps = v.steps ++ Look i x ∷ [] } in let z : u.word ≡ 0 = sym word ∙ closed in (
        w,
        keeps,
        tt,
        viewed hint packed g k s r (i + 1) id v w at (stepped_knows r.n r.numbers r.name m r.left r.owner r.leader id v w.steps (open_told m m v.steps (Look i x) i x v.post (λ _ _. refl) (λ ne. absurd (ne closed)) (λ _ _ z. z) o.open_is) o) (stepped_stays r.n m v w.steps live),
        λ j _ at-j _. subst (λ a. LooksAt hint v x w a × LookHand k me x (w, me.1) a) (here j at-j) (
          (
            (λ ne. absurd (ne closed)),
            λ _. record {
              view = refl;
              unready = ap (λ (y : Mine). y.ready) own.2 ∙ ok.closed_ready z;
              closed = ⊎_elim (λ (known : is_open i v.steps ≡ true). absurd (subst (KnowsOpen m v.steps) is o.open_is known z)) (λ e. e) (cases_Bool (is_open i v.steps));
              more = subst (λ (y : Mine). length (entries_by i y.base) < length y.handed) (sym own.2) (let a = ok.closed_more z in let c = event.entries_by_longer i u.mine.base u.given ok.base_is in omega arith);
            },
          ),
          record { waits = λ _. refl; stays = λ _. refl; takes = λ ne _. absurd (ne closed) },
        ),
      ))
      (λ ne. let open_word : u.word ≢ 0 = λ z. ne (word ∙ z) in let base : List Entry = u.given in let w : View = record v { seen = longer v.seen base; steps = v.steps ++ Look i x ∷ []; post = Updater i (looked_mine mine base) } in
      let u' : CoarseUpdater = record u { mine = looked_mine u.mine base } in let ups : ℕ → CoarseUpdater = put m.updaters i u' in let m' : Coarse = record m { updaters = ups } in
      let now = event.looks (hint r.numbers) r.n m i r.meets inside admitted open_word in
      let still : v.seen ≡ m.published → longer v.seen base ≡ m.published = λ e. longer_same v.seen base (subst (Begins base) (sym e) ok.given_is) ∙ e in
      let seen_is : Begins (longer v.seen base) m.published = longer_either v.seen base (λ l. Begins l m.published) o.lists.seen_is ok.given_is in
      let based : Begins base (longer v.seen base) = longer_right v.seen base m.published o.lists.seen_is ok.given_is in
      let own_handed : u.mine.handed ≡ mine.handed = ap (λ (y : Mine). y.handed) (sym own.2) in
      let knows : Knows r.n r.numbers r.name m' r.left r.owner r.leader id w = record {
        sketch = o.sketch;
        sizes = o.sizes;
        lists = lists_see seen_is (lists_put i u' (begins_refl u.mine.handed) (begins_refl u.given) o.lists);
        post_is = (inside, own.1, ap (λ y. looked_mine y base) own.2 ∙ ap (λ (y : CoarseUpdater). y.mine) (sym (put_here m.updaters i u')), based, b, own.5);
        duty_is = duty_same r.n i m m' r.left r.leader id v.seen (longer v.seen base) mine (looked_mine mine base) v.post v.duty is refl refl refl still o.duty_is;
        open_is = λ _. subst (λ (y : CoarseUpdater). y.word ≢ 0) (sym (put_here m.updaters i u')) open_word;
        drained_is = λ a d. none_drained v.drained a own.5 d;
      } in
      let stays : Stays r.n m m' v w = record {
        live = live;
        seen = still;
        given = λ a l e. each_put (λ c (y : CoarseUpdater). given_of v c ≡ (m.updaters c).given → given_of v c ≡ y.given) m.updaters i u' a (λ q. q) (λ _ q. q) e;
        leads = λ e. e;
        speaks = λ a t. subst (SpeaksBy a v.drained) is t;
      } in
      let renews : RenewsAt hint v x w i = record {
        view = refl;
        hint_is = word ∙ ok.open_hint open_word ∙ ap (λ l. hint l base) (sym o.sketch.numbers_are);
        grows = subst (λ (y : Mine). Begins y.base base) (sym own.2) ok.base_is;
        sees = longer_left v.seen base m.published o.lists.seen_is ok.given_is;
        is_seen = begun_seen (hint r.numbers) r.n m r.owner id v (longer v.seen base) o.sizes.sized r.meets seen_is o.post_is;
        based = based;
        all = ok.open_given open_word ∙ own_handed;
        sees_all = seen_between i base (longer v.seen base) m.published mine.handed based seen_is (ok.open_given open_word ∙ own_handed) (ok.open_all open_word ∙ own_handed);
        again = λ on. sym (ok.ready_base (ap (λ (y : Mine). y.ready) (sym own.2) ∙ on)) ∙ ap (λ (y : Mine). y.base) (sym own.2);
        leads = λ e. let d = duty_seen r.n m r.left r.leader id v.seen v.post v.duty e o.duty_is in still (sym d) ∙ d;
      } in
      let go : (homes' : List (maybe.Option (Slot C T))) → length homes' ≡ length s.homes → get_elem? homes' i ≡ some none → ((j : ℕ) → j ≢ i → get_elem? homes' j ≡ get_elem? s.homes j)
      → Rule record { words = set s.words (i + 1) x; homes = homes'; views = set s.views id w }
      = λ homes' long out others. updater_step hint packed g k s r i id x v w u' m.sizes homes' inside own.1 at long (λ _ _. refl) (λ _ _. refl) now word refl (begins_refl u.mine.handed) (record {
        ready = λ _. out;
        resting = λ _ off. absurd (true≢false off);
        waiting = λ z. absurd (open_word z);
        led = λ a. absurd (ok.open_apart open_word a);
      })
      others knows stays in
      ⊎_elim
      (λ (on : u.mine.ready ≡ true). (
        w,
        keeps,
        tt,
        go s.homes refl (slot.ready on) (λ _ _. refl),
        λ j _ at-j _. subst (λ a. LooksAt hint v x w a × LookHand k me x (w, me.1) a) (here j at-j) (
          ((λ _. renews), λ closed. absurd (ne closed)),
          record { waits = λ _. refl; stays = λ _. refl; takes = λ _ off. absurd (true≢false (sym (ap (λ (y : Mine). y.ready) own.2 ∙ on) ∙ off)) },
        ),
      ))
      (λ (off : u.mine.ready ≡ false). let p = slot.resting open_word off in (
        w,
        takes i (full p.0),
        p.1,
        go (set s.homes i none) (length-set s.homes i none) (set_here s.homes i none (at_within s.homes i (some (full p.0)) p.1)) (λ j n. set_else s.homes i j none n),
        λ j _ at-j _. subst (λ a. LooksAt hint v x w a × LookHand k me x (w, (i, full p.0) ∷ me.1) a) (here j at-j) (
          ((λ _. renews), λ closed. absurd (ne closed)),
          record {
            waits = λ closed. absurd (ne closed);
            stays = λ on. absurd (true≢false (sym on ∙ ap (λ (y : Mine). y.ready) own.2 ∙ off));
            takes = λ _ _. (
              p.0,
              refl,
              (
                p.2 ∙ ap (λ c. contents [] c) (room_some (m.sizes i) admitted ∙ sym b),
                λ unpicked. subst (λ (y : List ℕ × List ℕ). TellsGiven k y.0 p.0 y.1 base) (λ a. (sym o.sketch.name_is a, (ap (λ (y : Mine). y.handed) (sym own.2)) a)) (p.3 (ap (λ (y : Mine). y.picked) (sym own.2) ∙ unpicked)),
              ),
            );
          },
        ),
      ))
      (cases_Bool u.mine.ready))

  -- p: the empty parcel that lies in the slot in hand
  pub rests : (slots id n : ℕ) (v : View) (i : ℕ) (p : Parcel T) (more : List (ℕ × Slot C T)) → slots ≡ n + 1 → v.live ≡ true → v.post ≡ Updater i (mine_of v) → (mine_of v).ready ≡ true → size_of v i ≢ 0 → p.buffer ≡ contents [] (size_of v i)
      → ((t : T) → p.told ≡ Some t → ((mine_of v).handed ≢ []) × TellsList k v.name t (mine_of v).base) → Allows Rule slots id (v, (i, full p) ∷ more) (i + 1) (λ x. x) (rested (step slots (i + 1) 0 0 none) (v, (i, full p) ∷ more))
  rests slots id n v i p more size live is ready there empty told s r deep at _ = let m = r.machine in let x : ℕ = get_or s.words (i + 1) 0 in let o = r.each_seat id v at live in
      let mine : Mine = mine_of v in let own = subst (KnowsPost r.n m r.owner id v.seen v.sizes v.drained) is o.post_is in let inside : i < r.n = own.0 in let deep' = r.deep in let u = m.updaters i in let ok = r.meets.each i inside in
      let word : x ≡ u.word = r.words_are i inside in let b : size_of v i ≡ m.sizes i = own.4 in let admitted : m.sizes i ≢ 0 = λ z. there (b ∙ z) in
      let on : u.mine.ready ≡ true = ap (λ (y : Mine). y.ready) (sym own.2) ∙ ready in let open_word : u.word ≢ 0 = event.open_ready (hint r.numbers) (m.sizes i) m.published m.stage i u ok on in
      let gone : Bool = is_picked mine.handed (is_some p.told) in let u' : CoarseUpdater = record u { mine = rested_mine u.mine gone } in let ups : ℕ → CoarseUpdater = put m.updaters i u' in let m' : Coarse = record m { updaters = ups } in
      let w : View = record v { steps = v.steps ++ Look i x ∷ []; post = Updater i (rested_mine mine gone) } in (
        w,
        gives,
        tt,
        updater_step hint packed g k s r i id x v w u' m.sizes (set s.homes i (some (full p))) inside own.1 at (length-set s.homes i (some (full p))) (λ _ _. refl) (λ _ _. refl)
            (event.rests (hint r.numbers) r.n m i gone r.meets inside on) word refl (begins_refl u.mine.handed)
            (record {
              ready = λ e. absurd (true≢false (sym e));
              resting = λ _ _. (
                p,
                set_here s.homes i (some (full p)) (omega arith),
                empty ∙ ap (λ c. contents [] c) (b ∙ sym (room_some (m.sizes i) admitted)),
                λ unpicked. told_rested k r.name p u.mine.handed u.given (ap (λ (y : Mine). is_picked y.handed (is_some p.told)) (sym own.2) ∙ unpicked)
                    (λ t e. subst (λ (y : List ℕ × Mine × List Entry). (y.1.handed ≢ []) × TellsList k y.0 t y.2) (λ a. (o.sketch.name_is a, own.2 a, (ap (λ (y : Mine). y.base) own.2 ∙ ok.ready_base on) a)) (told t e)),
              );
              waiting = λ z. absurd (open_word z);
              led = λ a. absurd (ok.open_apart open_word a);
            })
            (λ j ne. set_else s.homes i j (some (full p)) ne)
            (record {
              sketch = o.sketch;
              sizes = o.sizes;
              lists = lists_put i u' (begins_refl u.mine.handed) (begins_refl u.given) o.lists;
              post_is = (inside, own.1, ap (λ (y : Mine). rested_mine y gone) own.2 ∙ ap (λ (y : CoarseUpdater). y.mine) (sym (put_here m.updaters i u')), own.3, b, own.5);
              duty_is = duty_same r.n i m m' r.left r.leader id v.seen v.seen mine (rested_mine mine gone) v.post v.duty is refl refl refl (λ e. e) o.duty_is;
              open_is = λ _. subst (λ (y : CoarseUpdater). y.word ≢ 0) (sym (put_here m.updaters i u')) open_word;
              drained_is = λ a d. none_drained v.drained a own.5 d;
            })
            (record {
              live = live;
              seen = λ e. e;
              given = λ a l e. each_put (λ c (y : CoarseUpdater). given_of v c ≡ (m.updaters c).given → given_of v c ≡ y.given) m.updaters i u' a (λ q. q) (λ _ q. q) e;
              leads = λ e. e;
              speaks = λ a t. subst (SpeaksBy a v.drained) is t;
            }),
        λ i' p' more' is' has. let e = same_first i i' p p' more more' has in let at-i : i ≡ i' = ap (seat_in 0) (sym is ∙ is') in
            λ a. (record v { steps = v.steps ++ Look (at-i a) x ∷ []; post = Updater (at-i a) (rested_mine mine (is_picked mine.handed (is_some (e.0 a).told))) }, e.1 a),
      )

  pub admits : (slots id n : ℕ) (me : Sat C T) (i b : ℕ) → slots ≡ n + 1 → me.0.live ≡ true → me.0.post ≡ Updater i (mine_of me.0) → (mine_of me.0).picked ≡ false → size_of me.0 i ≡ 0 → 1 ≤ b → Allows Rule slots id me (i + 1) (λ x. x) (admitted hint b (step slots (i + 1) 0 0 none) me)
  admits slots id n me i b size live is unpicked vacant least s r deep at _ = let v : View = me.0 in let m = r.machine in let x : ℕ = get_or s.words (i + 1) 0 in let o = r.each_seat id v at live in
      let mine : Mine = mine_of v in let own = subst (KnowsPost r.n m r.owner id v.seen v.sizes v.drained) is o.post_is in let inside : i < r.n = own.0 in let u = m.updaters i in let ok = r.meets.each i inside in let slot = r.each_slot i inside in
      let word : x ≡ u.word = r.words_are i inside in let zeroed : m.sizes i ≡ 0 = sym own.4 ∙ vacant in let long = o.sizes.sized in
      let open_word : u.word ≢ 0 = event.open_vacant (hint r.numbers) (m.sizes i) m.published m.stage i u ok zeroed in
      let nothing = ok.vacant zeroed in let given : u.given ≡ [] = r.vacant i inside zeroed in
      let u' : CoarseUpdater = record u { mine = looked_mine u.mine u.given } in let ups : ℕ → CoarseUpdater = put m.updaters i u' in let sizes : ℕ → ℕ = put m.sizes i b in let m' : Coarse = record m { sizes = sizes; updaters = ups } in
      let now = event.looks (hint r.numbers) r.n (after_admit i b m) i (event.admits (hint r.numbers) r.n m i b r.meets inside zeroed least) inside (λ z. let e = put_here m.sizes i b in omega arith) open_word in
      let w : View = record v { steps = v.steps ++ Look i x ∷ []; post = Updater i (looked_mine mine []); sizes = set v.sizes i b } in
      let wide : i < length v.sizes = omega arith in let positive : b ≢ 0 = λ z. omega arith in
      let set_size : size_of w i ≡ b = get_or-set_same v.sizes i b 0 wide in
      let p = slot.resting open_word nothing.1 in
      let none_told : p.0.told ≡ None = none_of p.0.told (λ t e. ((p.3 (ap (λ (y : Mine). y.picked) (sym own.2) ∙ unpicked)).1 t e).0 nothing.0) in (
        w,
        takes i (full p.0),
        p.1,
        updater_step hint packed g k s r i id x v w u' sizes (set s.homes i none) inside own.1 at (length-set s.homes i none)
            (λ j. each_put (λ a c. m.sizes a ≢ 0 → c ≡ m.sizes a) m.sizes i b j (λ ne. absurd (ne zeroed)) (λ _ _. refl))
            (λ j ne. put_else m.sizes i b j ne) now word refl (begins_refl u.mine.handed)
            (record {
              ready = λ _. set_here s.homes i none (at_within s.homes i (some (full p.0)) p.1);
              resting = λ _ off. absurd (true≢false off);
              waiting = λ z. absurd (open_word z);
              led = λ a. absurd (ok.open_apart open_word a);
            })
            (λ j ne. set_else s.homes i j none ne)
            (record {
              sketch = o.sketch;
              sizes = sizes_put i b wide positive (put_here m.sizes i b) (λ j ne. put_else m.sizes i b j ne) o.sizes;
              lists = lists_put i u' (begins_refl u.mine.handed) (begins_refl u.given) o.lists;
              post_is = (
                inside,
                own.1,
                ap (λ (y : Mine × List Entry). looked_mine y.0 y.1) (λ a. (own.2 a, sym given a)) ∙ ap (λ (y : CoarseUpdater). y.mine) (sym (put_here m.updaters i u')),
                begins_nil v.seen,
                set_size ∙ sym (put_here m.sizes i b),
                own.5,
              );
              duty_is = duty_same r.n i m m' r.left r.leader id v.seen v.seen mine (looked_mine mine []) v.post v.duty is refl refl refl (λ e. e) o.duty_is;
              open_is = λ _. subst (λ (y : CoarseUpdater). y.word ≢ 0) (sym (put_here m.updaters i u')) open_word;
              drained_is = λ a d. none_drained v.drained a own.5 d;
            })
            (record {
              live = live;
              seen = λ e. e;
              given = λ a l e. each_put (λ c (y : CoarseUpdater). given_of v c ≡ (m.updaters c).given → given_of v c ≡ y.given) m.updaters i u' a (λ q. q) (λ _ q. q) e;
              leads = λ e. e;
              speaks = λ a t. subst (SpeaksBy a v.drained) is t;
            }),
        λ j _ at-j _. let here : i ≡ j = omega arith in subst (λ a. AdmitsAt hint v x w a b × ((q : Parcel T) × ((i, full p.0) ∷ me.1 ≡ (a, full q) ∷ me.1) × (q.buffer ≡ contents [] 1) × (q.told ≡ None))) here (
          record {
            view = refl;
            size = set_size;
            hint_is = word ∙ ok.open_hint open_word ∙ (λ a. hint (sym o.sketch.numbers_are a) (given a));
            lower = λ z. open_word (sym word ∙ z);
            none = ap (λ (y : Mine). y.handed) own.2 ∙ nothing.0;
          },
          (p.0, refl, p.2 ∙ ap (λ z. contents [] (room z)) zeroed, none_told),
        ),
      )

  pub hands : (slots id n : ℕ) (v : View) (i : ℕ) (p : Parcel T) (more : List (ℕ × Slot C T)) → slots ≡ n + 1 → v.live ≡ true → v.post ≡ Updater i (mine_of v) → (mine_of v).ready ≡ true → size_of v i ≢ 0 → p.buffer.capacity ≡ size_of v i
      → IsBatch (size_of v i) p.buffer.items → AreItems p.buffer.items → length (mine_of v).handed + length p.buffer.items ≤ most_kept
      → Allows Rule slots id (v, (i, full p) ∷ more) (i + 1) (λ _. 0) (λ _. handed (step slots (i + 1) 0 0 none) (v, (i, full p) ∷ more) 0)
  hands slots id n v i p more size live is ready there capacity batch items few s r deep at _ = let m = r.machine in let o = r.each_seat id v at live in
      let mine : Mine = mine_of v in let own = subst (KnowsPost r.n m r.owner id v.seen v.sizes v.drained) is o.post_is in let inside : i < r.n = own.0 in let deep' = r.deep in let u = m.updaters i in let ok = r.meets.each i inside in
      let b : size_of v i ≡ m.sizes i = own.4 in let admitted : m.sizes i ≢ 0 = λ z. there (b ∙ z) in let xs : List ℕ = p.buffer.items in
      let on : u.mine.ready ≡ true = ap (λ (y : Mine). y.ready) (sym own.2) ∙ ready in let open_word : u.word ≢ 0 = event.open_ready (hint r.numbers) (m.sizes i) m.published m.stage i u ok on in
      let u' : CoarseUpdater = record { word = 0; given = u.given; waiting = xs; mine = handed_mine u.mine xs } in let ups : ℕ → CoarseUpdater = put m.updaters i u' in let m' : Coarse = record m { updaters = ups } in
      let w : View = record v { steps = v.steps ++ Hand i ∷ []; post = Updater i (handed_mine mine xs) } in (
        w,
        gives,
        tt,
        updater_step hint packed g k s r i id 0 v w u' m.sizes (set s.homes i (some (full p))) inside own.1 at (length-set s.homes i (some (full p))) (λ _ _. refl) (λ _ _. refl)
            (event.hands (hint r.numbers) r.n m i xs r.meets inside admitted on (subst (λ z. IsBatch z xs) b batch) items (subst (λ (y : Mine). length y.handed + length xs ≤ most_kept) own.2 few))
            refl refl (xs, refl)
            (record {
              ready = λ e. absurd (true≢false (sym e));
              resting = λ e. absurd (e refl);
              waiting = λ _ _. (p, set_here s.homes i (some (full p)) (omega arith), ap (λ c. contents xs c) (capacity ∙ b));
              led = λ a. absurd (ok.open_apart open_word a);
            })
            (λ j ne. set_else s.homes i j (some (full p)) ne)
            (record {
              sketch = o.sketch;
              sizes = o.sizes;
              lists = lists_put i u' (xs, refl) (begins_refl u.given) o.lists;
              post_is = (inside, own.1, ap (λ (y : Mine). handed_mine y xs) own.2 ∙ ap (λ (y : CoarseUpdater). y.mine) (sym (put_here m.updaters i u')), own.3, b, own.5);
              duty_is = duty_same r.n i m m' r.left r.leader id v.seen v.seen mine (handed_mine mine xs) v.post v.duty is refl refl refl (λ e. e) o.duty_is;
              open_is = λ e. absurd (true≢false (sym e ∙ open_shut i v.steps));
              drained_is = λ a d. none_drained v.drained a own.5 d;
            })
            (record {
              live = live;
              seen = λ e. e;
              given = λ a l e. each_put (λ c (y : CoarseUpdater). given_of v c ≡ (m.updaters c).given → given_of v c ≡ y.given) m.updaters i u' a (λ q. q) (λ _ q. q) e;
              leads = λ e. e;
              speaks = λ a t. subst (SpeaksBy a v.drained) is t;
            }),
        λ i' p' more' is' has. let e = same_first i i' p p' more more' has in let at-i : i ≡ i' = ap (seat_in 0) (sym is ∙ is') in
            ((λ a. record v { steps = v.steps ++ Hand (at-i a) ∷ []; post = Updater (at-i a) (handed_mine mine (e.0 a).buffer.items) }), e.1),
      )
