-- The start keeps the rule, and so do seats that are split off and taken in.
use Rattle.std.proofs.Common.{◌≡◌, ◌≢◌, ◌⊎◌, ℕ, zero, suc, ◌+◌, ◌<◌, ◌≤◌, if◌then◌else◌, Bool, true, false, List, [], ◌∷◌, ◌++◌, map, length, get_or, set, Contains, Some, None, sym, refl, ap, ◌∙◌, subst, ⊎_elim, inl, inr, arith, length-set, length-append, get_or-set_other, get_or-set_same}
use Rattle.std.proofs.lemmas.List.{length-map}
use Rattle.std.proofs.lemmas.Bool.{true≢false, cases_eq, ne_eqb}
use Rattle.std.proofs.lemmas.List.Elements.{Contains-push, Contains-push_cases, Contains-append_left, Contains-append_cases}
use mathlib.Core.Option.{some, some-injective, some-ne-none}
use lib.ListN.{get_elem?}
use Rattle.atomic_table.specs.Table.{State, opening, Splits, Joins}
use Rattle.atomic_table.proofs.Lists.{set_here, set_else, at_longer, at_last, at_map}
use Rattle.sk_model.specs.Entries.{Entry}
use Rattle.sk_model.specs.Missing.{Begins}
use Rattle.sk_model.proofs.Missing.{begins_refl, begins_nil, begins_trans, begins_length}
use Rattle.sk_compose.specs.declared.buffer.Parcel.{Parcel}
use Rattle.sk_machine.specs.Numbered.{put}
use Rattle.sk_machine.specs.Coarse.{Coarse, Meets, blank_mine, coarse_start, MeetsUpdater}
use Rattle.sk_machine.specs.declared.views.Mine.{Mine}
use Rattle.sk_machine.specs.declared.views.Move.TheVariants.{Split, Join}
use Rattle.sk_machine.specs.declared.views.Post.{Post}
use Rattle.sk_machine.specs.declared.views.Post.TheVariants.{Guest, Root, Updater}
use Rattle.sk_machine.specs.declared.views.Duty.{Duty}
use Rattle.sk_machine.specs.declared.views.Duty.TheVariants.{Free, Leads}
use Rattle.sk_machine.specs.declared.views.View.{View}
use Rattle.sk_machine.proofs.Numbered.{put_here, put_else, each_put}
use Rattle.sk_machine.proofs.Coarse as event
use Rattle.sk_gate.specs.declared.load.Trunk.{Trunk}
use Rattle.sk_gate.specs.Slots.{Slot, full, trunk, room, Sketching, Telling}
use Rattle.sk_gate.specs.Views.{known_of, size_of, mine_of, leads, merged, admitted_sizes, blanks, first_view, made_in, after_making, new_updater, after_split, copy_of, told_on, only_at, sizes_on, known_with, drained_with, picked_with, seen_with, after_join, spent, SpeaksBy, SpeaksFor}
use Rattle.sk_gate.specs.Rule.{KnowsPost, KnowsDuty, KnowsTakenIn, Knows, Has, HasSeen, IsLed, HasGiven, KeepsRule}
use Rattle.sk_gate.specs.Plays.{Sat}
use Rattle.sk_gate.specs.Hands.{Holds}
use Rattle.sk_gate.proofs.Own.{same_holds}
use Rattle.sk_gate.proofs.Opened.{open_neutral}
use Rattle.sk_model.proofs.Lists.{at_within}
use Rattle.sk_gate.proofs.Common.{seats_stay, has_stays}
use Rattle.sk_gate.proofs.Copies.{only_here, copied_length, copied_size}
use Rattle.sk_gate.proofs.Merged.{blank_at, blanks_length, set_begins, longer_either, longer_left, whole_first, whole_second, merged_length, merged_either, merged_first, merged_second, sizes_length, sizes_either, size_first, size_second}

-- ---- lists of views

-- one more at the end
at_end : {A : Type 0} (l : List A) (a b : A) (j : ℕ) → get_elem? (l ++ a ∷ []) j ≡ some b → (get_elem? l j ≡ some b) ⊎ ((j ≡ length l) × (a ≡ b))
at_end [] a b zero e = inr (refl, some-injective a b e)
at_end [] a b (suc j) e = absurd (some-ne-none b (sym e))
at_end (x ∷ xs) a b zero e = inl e
at_end (x ∷ xs) a b (suc j) e = ⊎_elim inl (λ t. inr (ap suc t.0, t.1)) (at_end xs a b j e)

there : {A : Type 0} (l : List A) (i : ℕ) → i < length l → (a : A) × (get_elem? l i ≡ some a)
there [] i h = absurd (omega arith)
there (x ∷ xs) zero h = (x, refl)
there (x ∷ xs) (suc i) h = there xs i (omega arith)

has_split : (P Q : View → Type 0) (vs : List View) (id place : ℕ) (v left right : View) → get_elem? vs id ≡ some v → (P v → Q left) → ((u : View) → P u → Q u) → Has vs place P → Has (set vs id left ++ right ∷ []) place Q
has_split P Q vs id place v left right at own others has = let h = has_stays P Q vs id place v left at own others has in (h.0, at_longer (set vs id left) (right ∷ []) place h.0 h.1, h.2)

seats_split : (K : ℕ → View → Type 0) (vs : List View) (id : ℕ) (left right : View) → K id left → K (length vs) right → ((j : ℕ) (u : View) → j ≢ id → get_elem? vs j ≡ some u → u.live ≡ true → K j u)
    → (j : ℕ) (u : View) → get_elem? (set vs id left ++ right ∷ []) j ≡ some u → u.live ≡ true → K j u
seats_split K vs id left right mine new others j u e live = ⊎_elim
    (λ e. seats_stay K vs id left (λ _. mine) others j u e live)
    (λ t. subst (λ (x : ℕ × View). K x.0 x.1) (λ a. (sym (t.0 ∙ length-set vs id left) a, t.1 a)) new)
    (at_end (set vs id left) right u j e)

-- the seat at id took in the one at other
module _ (vs : List View) (id other : ℕ) (v w v' : View) where
  abbrev both : List View
  both = set (set vs id v') other spent

  has_kept : (P Q : View → Type 0) (place : ℕ) → get_elem? vs id ≡ some v → get_elem? vs other ≡ some w → (P v → Q v') → ¬ P w → ((u : View) → P u → Q u) → Has vs place P → Has both place Q
  has_kept P Q place at here own not others has =
      let apart : place ≢ other = λ e. not (subst P (some-injective has.0 w (sym has.1 ∙ ap (get_elem? vs) e ∙ here)) has.2) in
      let h = has_stays P Q vs id place v v' at own others has in
      (h.0, set_else (set vs id v') other place spent apart ∙ h.1, h.2)

  at_both : other ≢ id → get_elem? vs id ≡ some v → get_elem? both id ≡ some v'
  at_both apart at = set_else (set vs id v') other id spent (λ e. apart (sym e)) ∙ set_here vs id v' (at_within vs id v at)

  has_joined : (P Q : View → Type 0) (place : ℕ) → other ≢ id → get_elem? vs id ≡ some v → get_elem? vs other ≡ some w → (P v → Q v') → (P w → Q v') → ((u : View) → P u → Q u) → Has vs place P → Has both (put (λ x. x) other id place) Q
  has_joined P Q place apart at here own theirs others has = each_put (λ j x. Has vs j P → Has both x Q) (λ x. x) other id place
      (λ h. (v', at_both apart at, theirs (subst P (some-injective h.0 w (sym h.1 ∙ here)) h.2)))
      (λ ne h. let t = has_stays P Q vs id place v v' at own others h in (t.0, set_else (set vs id v') other place spent ne ∙ t.1, t.2)) has

  seats_joined : (K : ℕ → View → Type 0) → K id v' → ((j : ℕ) (u : View) → j ≢ id → j ≢ other → get_elem? vs j ≡ some u → u.live ≡ true → K j u)
      → (j : ℕ) (u : View) → get_elem? both j ≡ some u → u.live ≡ true → K j u
  seats_joined K mine others = seats_stay K (set vs id v') other spent (λ dead. absurd (true≢false (sym dead)))
      (λ j u ne e live. seats_stay (λ a b. a ≢ other → K a b) vs id v' (λ _ _. mine) (λ a b apart e live ne. others a b apart ne e live) j u e live ne)

-- ---- what seats know

-- the word of an updater that has handed nothing over is not 0
never_handed : (hint : List Entry → ℕ) (m : Coarse) (i : ℕ) → MeetsUpdater hint (m.sizes i) m.published m.stage i (m.updaters i) → (m.updaters i).mine.handed ≡ [] → (m.updaters i).word ≢ 0
never_handed hint m i ok nothing z = let more = ok.closed_more z in let e = ap length nothing in absurd (omega arith)

-- another seat speaks for the updater i from now on
owned_else : (n : ℕ) (numbers name : List ℕ) (m : Coarse) (left : Bool) (owner : ℕ → ℕ) (leader i had new j : ℕ) (u : View) → owner i ≡ had → j ≢ had → Knows n numbers name m left owner leader j u → Knows n numbers name m left (put owner i new) leader j u
owned_else n numbers name m left owner leader i had new j u was apart o = record {
  sketch = o.sketch;
  sizes = o.sizes;
  lists = o.lists;
  post_is = post u.post o.post_is;
  duty_is = o.duty_is;
  open_is = o.open_is;
  drained_is = λ a d. let y = o.drained_is a d in record { within = y.within; own = still a y.own; all = y.all; given = y.given; was_picked = y.was_picked };
}
  where
    still : (a : ℕ) → owner a ≡ j → put owner i new a ≡ j
    still a own = put_else owner i new a (λ e. apart (sym own ∙ ap owner e ∙ was)) ∙ own

    post : (p : Post) → KnowsPost n m owner j u.seen u.sizes u.drained p → KnowsPost n m (put owner i new) j u.seen u.sizes u.drained p
    post Guest t = tt
    post (Root made) t = λ a le lt. let y = t a le lt in (still a y.0, y.1, y.2)
    post (Updater a mine) t = (t.0, still a t.1, t.2, t.3, t.4, t.5)

-- what an updater handed over, in a list of blanks
blank_set : (n a i : ℕ) (xs : List ℕ) → get_or (set (blanks n) a xs) i [] ≢ [] → (i ≡ a) × (xs ≢ [])
blank_set n a i xs some_there = ⊎_elim
    (λ (e : i ≡ a). (e, λ (z : xs ≡ []). some_there (ends (get_or (set (blanks n) a xs) i []) (subst (λ l. Begins (get_or (set (blanks n) a xs) i []) l) z (subst (λ x. Begins (get_or (set (blanks n) a xs) x []) xs) (sym e) (set_begins (blanks n) a xs xs (begins_refl xs)))))))
    (λ (ne : i ≢ a). absurd (some_there (get_or-set_other (blanks n) a i xs [] ne ∙ blank_at n i)))
    (cases_eq i a)
  where
    ends : (l : List ℕ) → Begins l [] → l ≡ []
    ends [] b = refl
    ends (x ∷ l) b = absurd (let e = begins_length (x ∷ l) [] b in omega arith)

module _ (n : ℕ) (m : Coarse) (owner : ℕ → ℕ) (j : ℕ) (seen : List Entry) (sizes drained : List ℕ) (size : ℕ) (known : List (List ℕ)) where
  told_known : (p : Post) → KnowsPost n m owner j seen sizes drained p → ((i : ℕ) → Begins (get_or known i []) (m.updaters i).mine.handed) → (i : ℕ) → Begins (get_or (told_on size known p) i []) (m.updaters i).mine.handed
  told_known Guest t h i = h i
  told_known (Root made) t h i = h i
  told_known (Updater a mine) t h i = ⊎_elim
      (λ (e : i ≡ a). subst (λ z. Begins (get_or (set (blanks size) a mine.handed) z []) (m.updaters z).mine.handed) (sym e)
      (set_begins (blanks size) a mine.handed (m.updaters a).mine.handed (subst (λ (y : Mine). Begins mine.handed y.handed) t.2 (begins_refl mine.handed))))
      (λ (ne : i ≢ a). subst (λ l. Begins l (m.updaters i).mine.handed) (sym (get_or-set_other (blanks size) a i mine.handed [] ne ∙ blank_at size i)) (begins_nil (m.updaters i).mine.handed))
      (cases_eq i a)

  told_sized : (hint : List Entry → ℕ) → Meets hint n m → (p : Post) → KnowsPost n m owner j seen sizes drained p → ((i : ℕ) → get_or known i [] ≢ [] → get_or sizes i 0 ≢ 0) → (i : ℕ) → get_or (told_on size known p) i [] ≢ [] → get_or sizes i 0 ≢ 0
  told_sized hint ok Guest t h i = h i
  told_sized hint ok (Root made) t h i = h i
  told_sized hint ok (Updater a mine) t h i = λ is z. let x = blank_set size a i mine.handed is in
      let none : m.sizes a ≡ 0 = sym t.4 ∙ ap (λ b. get_or sizes b 0) (sym x.0) ∙ z in
      x.1 (ap (λ (y : Mine). y.handed) t.2 ∙ ((ok.each a t.0).vacant none).0)

-- a copy knows the size of whom it knows of
told_known_size : (size : ℕ) (sizes : List ℕ) (known : List (List ℕ)) (p : Post) → ((i : ℕ) → get_or (told_on size known p) i [] ≢ [] → get_or sizes i 0 ≢ 0) → (i : ℕ) → get_or (told_on size known p) i [] ≢ [] → get_or (sizes_on sizes p) i 0 ≢ 0
told_known_size size sizes known Guest h i is = h i is
told_known_size size sizes known (Root made) h i is = h i is
told_known_size size sizes known (Updater a mine) h i is =
    let own : i ≡ a = (blank_set size a i mine.handed is).0 in
    subst (λ z. z ≢ 0) (sym (subst (λ z. get_or (only_at z sizes) i 0 ≡ get_or sizes i 0) own (only_here sizes i))) (h i is)

told_length : (n : ℕ) (known : List (List ℕ)) (p : Post) → length known ≡ n → length (told_on n known p) ≡ n
told_length n known Guest e = e
told_length n known (Root made) e = e
told_length n known (Updater a mine) e = length-set (blanks n) a mine.handed ∙ blanks_length _ n

-- a seat has seen more, and knows more sizes
post_joined : (n : ℕ) (m : Coarse) (owner : ℕ → ℕ) (j : ℕ) (seen seen' : List Entry) (sizes sizes' drained : List ℕ) (p : Post) → Begins seen seen' → ((i : ℕ) → get_or sizes i 0 ≡ m.sizes i → get_or sizes' i 0 ≡ m.sizes i)
    → KnowsPost n m owner j seen sizes drained p → KnowsPost n m owner j seen' sizes' drained p
post_joined n m owner j seen seen' sizes sizes' drained Guest b same t = tt
post_joined n m owner j seen seen' sizes sizes' drained (Root made) b same t = λ i le lt. let y = t i le lt in (y.0, y.1, same i y.2)
post_joined n m owner j seen seen' sizes sizes' drained (Updater i mine) b same t = (t.0, t.1, t.2, begins_trans _ _ _ t.3 b, same i t.4, t.5)

heard_both : {A : Type 0} (xs ys : List A) (x y : A) (P : A → Type 0) → ((a : A) → Contains xs a → P a) → P x → P y → ((a : A) → Contains ys a → P a) → (a : A) → Contains (xs ++ x ∷ y ∷ ys) a → P a
heard_both xs ys x y P front first second back a c = ⊎_elim (front a)
    (λ d. ⊎_elim (λ e. subst P e first) (λ d. ⊎_elim (λ e. subst P e second) (back a) (first_or_rest y ys a d)) (first_or_rest x (y ∷ ys) a d))
    (Contains-append_cases xs (x ∷ y ∷ ys) a c)
  where
    first_or_rest : {A : Type 0} (x : A) (xs : List A) (a : A) → Contains (x ∷ xs) a → (x ≡ a) ⊎ Contains xs a
    first_or_rest x xs a (zero, l, e) = inl e
    first_or_rest x xs a (suc k, l, e) = inr (k, omega arith, e)

-- what a seat has seen that took in one that has seen more
record SeenBoth (h seen more seen' : List Entry) : Type 0 where
  within : Begins seen' h
  grows : Begins seen seen'
  first : seen ≡ h → seen' ≡ h
  second : more ≡ h → seen' ≡ h

seen_joined : (n : ℕ) (m : Coarse) (left : Bool) (leader j : ℕ) (seen more : List Entry) (post : Post) (d : Duty) → Begins seen m.published → Begins more m.published → KnowsDuty n m left leader j seen post d → SeenBoth m.published seen more (seen_with seen more d)
seen_joined n m left leader j seen more post Free a b t = record { within = longer_either seen more (λ l. Begins l m.published) a b; grows = longer_left seen more m.published a b; first = λ e. whole_first seen more m.published e b; second = λ e. whole_second seen more m.published e a }
seen_joined n m left leader j seen more post (Leads stage its) a b t = record { within = a; grows = begins_refl seen; first = λ e. e; second = λ _. t.4 }

duty_joined : (n : ℕ) (m : Coarse) (left : Bool) (leader j : ℕ) (seen more : List Entry) (post : Post) (d : Duty) → KnowsDuty n m left leader j seen post d → KnowsDuty n m left leader j (seen_with seen more d) post d
duty_joined n m left leader j seen more post Free t = tt
duty_joined n m left leader j seen more post (Leads stage its) t = t

-- an updater's list in a joined view
known_at : (known : List (List ℕ)) (i : ℕ) (xs : List ℕ) (a : ℕ) (P : List ℕ → Type 0) → i < length known → (a ≡ i → P xs) → (a ≢ i → P (get_or known a [])) → P (get_or (set known i xs) a [])
known_at known i xs a P inside here others = ⊎_elim
    (λ (e : a ≡ i). subst (λ z. P (get_or (set known i xs) z [])) (sym e) (subst P (sym (get_or-set_same known i xs [] inside)) (here e)))
    (λ (ne : a ≢ i). subst P (sym (get_or-set_other known i a xs [] ne)) (others ne))
    (cases_eq a i)

picked_here : (picked : List ℕ) (i : ℕ) (on : Bool) → on ≡ true → Contains (if on then picked ++ i ∷ [] else picked) i
picked_here picked i true e = Contains-push picked i
picked_here picked i false e = absurd (true≢false (sym e))

picked_still : (picked : List ℕ) (i a : ℕ) (on : Bool) → Contains picked a → Contains (if on then picked ++ i ∷ [] else picked) a
picked_still picked i a true d = Contains-append_left picked (i ∷ []) a d
picked_still picked i a false d = d

-- ---- sizes at the start

pub sizes_of_length : {T : Type 0} (admitted : ℕ) (ps : List (Parcel T)) → length (admitted_sizes admitted ps) ≡ length ps
sizes_of_length admitted [] = refl
sizes_of_length zero (p ∷ ps) = ap suc (sizes_of_length zero ps)
sizes_of_length (suc admitted) (p ∷ ps) = ap suc (sizes_of_length admitted ps)

room_at : {T : Type 0} (admitted : ℕ) (ps : List (Parcel T)) (i : ℕ) (p : Parcel T) → get_elem? ps i ≡ some p → 1 ≤ p.buffer.capacity → (admitted ≤ i → p.buffer.capacity ≡ 1) → p.buffer.capacity ≡ room (get_or (admitted_sizes admitted ps) i 0)
room_at admitted [] i p e least vacant = absurd (some-ne-none p (sym e))
room_at zero (q ∷ ps) zero p e least vacant = vacant (omega arith)
room_at zero (q ∷ ps) (suc i) p e least vacant = room_at zero ps i p e least (λ _. vacant (omega arith))
room_at {T} (suc admitted) (q ∷ ps) zero p e least vacant = let same = ap (λ (x : Parcel T). x.buffer.capacity) (some-injective q p e) in
    subst (λ z. z ≡ room q.buffer.capacity) same (ap (λ c. if c then 1 else q.buffer.capacity) (sym (ne_eqb q.buffer.capacity 0 (λ z. omega arith))))
room_at (suc admitted) (q ∷ ps) (suc i) p e least vacant = room_at admitted ps i p e least (λ le. vacant (omega arith))

module _ {C T : Type 0} (hint packed : List ℕ → List Entry → ℕ) (g : Sketching C) (k : Telling T) where
  abbrev Rule : State (Slot C T) View → Type 0
  Rule = KeepsRule hint packed g k

  pub starts : (words : List ℕ) (parcels : List (Parcel T)) (admitted : ℕ) (t : Trunk C T) → length words ≡ length parcels + 2 → get_or words 0 0 ≡ packed (g.numbers t.global.value) [] → get_or words (length parcels + 1) 0 ≡ 0
      → hint (g.numbers t.global.value) [] ≢ 0 → ((i : ℕ) → i < length parcels → get_or words (i + 1) 0 ≡ hint (g.numbers t.global.value) [])
      → ((i : ℕ) (p : Parcel T) → get_elem? parcels i ≡ some p → (p.buffer.items ≡ []) × (p.told ≡ None) × (1 ≤ p.buffer.capacity) × (admitted ≤ i → p.buffer.capacity ≡ 1))
      → g.is_of t.global.value [] → t.held ≡ None
      → Rule (opening words (Rattle.std.specs.Prelude.map (λ p. full p) parcels ++ trunk t ∷ []) (first_view (admitted_sizes admitted parcels) (g.numbers t.global.value) (g.name t.global.value)))
  starts words parcels count t long first turn positive hints empty fresh nothing =
      let numbers = g.numbers t.global.value in let name = g.name t.global.value in let sizes : List ℕ = admitted_sizes count parcels in
      let m : Coarse = coarse_start (hint numbers) (λ i. get_or sizes i 0) 0 in let v : View = first_view sizes numbers name in
      let f : Parcel T → Slot C T = λ p. full p in let last : Slot C T = trunk t in
      let many : length (map f parcels) ≡ length parcels = length-map parcels f in
      let size : length sizes ≡ length parcels = sizes_of_length count parcels in record {
        n = length parcels;
        numbers = numbers;
        name = name;
        machine = m;
        left = true;
        owner = λ _. 0;
        leader = 0;
        seer = 0;
        giver = λ _. 0;
        wide = long;
        deep = length-map (map f parcels ++ last ∷ []) (λ (x : Slot C T). some x) ∙ length-append (map f parcels) (last ∷ []) ∙ ap (λ z. z + 1) many;
        published_is = first;
        turn_is = turn;
        words_are = hints;
        meets = event.starts (hint numbers) (length parcels) (λ i. get_or sizes i 0) 0 positive (omega arith);
        vacant = λ i l z. refl;
        each_slot = λ i l. let p = there parcels i l in let e = empty i p.0 p.1 in record {
          ready = λ on. absurd (true≢false (sym on));
          resting = λ _ _. (
            p.0,
            at_map (λ (x : Slot C T). some x) (map f parcels ++ last ∷ []) i (f p.0) (at_longer (map f parcels) (last ∷ []) i (f p.0) (at_map f parcels i p.0 p.1)),
            (λ a. record { items = e.0 a; capacity = room_at count parcels i p.0 p.1 e.2 e.3 a }),
            λ _. ((λ _. refl), λ x is. absurd (none_some (sym e.1 ∙ is))),
          );
          waiting = λ z. absurd (positive z);
          led = λ at. absurd at;
        };
        rests = λ _. (
          t,
          at_map (λ (x : Slot C T). some x) (map f parcels ++ last ∷ []) (length parcels) last (at_last (map f parcels) last (length parcels) many),
          record { of_it = fresh; numbers_are = refl; name_is = refl; held_is = nothing },
          λ _. refl,
        );
        led = λ on. absurd (on refl);
        seen = (v, refl, (refl, refl));
        given = λ i l. (v, refl, (refl, blank_at (length sizes) i));
        spoken = λ i l. (v, refl, (refl, inl (omega arith)));
        each_seat = λ j w e live. one (λ a b. Knows (length parcels) numbers name m true (λ _. 0) 0 a b) v j w e (record {
          sketch = record {
            numbers_are = refl;
            name_is = refl;
            names_are = λ x d. absurd (omega (arith, d.1));
          };
          sizes = record {
            sized = size;
            sizes_are = λ i _. refl;
            known_with_size = λ i ne. absurd (ne (blank_at (length sizes) i));
          };
          lists = record {
            known_sized = blanks_length _ (length sizes) ∙ size;
            given_sized = blanks_length _ (length sizes) ∙ size;
            seen_is = begins_refl [];
            heard_is = λ h d. absurd (omega (arith, d.1));
            known_is = λ i. subst (λ l. Begins l []) (sym (blank_at (length sizes) i)) (begins_refl []);
            given_is = λ i. subst (λ l. Begins l []) (sym (blank_at (length sizes) i)) (begins_refl []);
          };
          post_is = λ i le lt. (refl, refl, refl);
          duty_is = tt;
          open_is = tt;
          drained_is = λ i d. absurd (omega (arith, d.1));
        });
      }
    where
      none_some : {A : Type 0} {a : A} → None ≡ Some a → ⊥
      none_some e = cc

      one : (K : ℕ → View → Type 0) (v : View) (j : ℕ) (w : View) → get_elem? (v ∷ []) j ≡ some w → K 0 v → K j w
      one K v zero w e h = subst (K 0) (some-injective v w e) h
      one K v (suc j) w e h = absurd (some-ne-none w (sym e))

  -- views change alone, and who speaks for an updater
  reviewed : (s : State (Slot C T) View) (r : Rule s) (views' : List View) (owner' : ℕ → ℕ) (seer' : ℕ) (giver' : ℕ → ℕ) → (Has s.views r.leader IsLed → Has views' r.leader IsLed) → Has views' seer' (HasSeen r.machine.published)
      → ((i : ℕ) → i < r.n → Has views' (giver' i) (HasGiven i (r.machine.updaters i).given)) → ((i : ℕ) → i < r.n → Has views' (owner' i) (SpeaksFor i))
      → ((j : ℕ) (v : View) → get_elem? views' j ≡ some v → v.live ≡ true → Knows r.n r.numbers r.name r.machine r.left owner' r.leader j v) → Rule record { words = s.words; homes = s.homes; views = views' }
  reviewed s r views' owner' seer' giver' led seen given spoken seats = record {
    n = r.n;
    numbers = r.numbers;
    name = r.name;
    machine = r.machine;
    left = r.left;
    owner = owner';
    leader = r.leader;
    seer = seer';
    giver = giver';
    wide = r.wide;
    deep = r.deep;
    published_is = r.published_is;
    turn_is = r.turn_is;
    words_are = r.words_are;
    meets = r.meets;
    vacant = r.vacant;
    each_slot = r.each_slot;
    rests = r.rests;
    led = λ turn. let l = r.led turn in (l.0, led l.1);
    seen = seen;
    given = given;
    spoken = spoken;
    each_seat = seats;
  }

  -- the next updater's seat, out of the first
  pub makes : (id n : ℕ) (v : View) (made : ℕ) → v.live ≡ true → v.post ≡ Root made → v.duty ≡ Free → v.drained ≡ [] → length v.sizes ≡ n → made < n → Splits Rule id v (after_making v) (new_updater v)
  makes id n v made live is free nothing size inside s r at =
      let m = r.machine in let h = m.published in let left : View = after_making v in let right : View = new_updater v in let o = r.each_seat id v at live in
      let number : made_in v.post ≡ made = ap made_in is in let more : made < r.n = omega (arith, o.sizes.sized) in let last : ℕ = length s.views in let owner' : ℕ → ℕ = put r.owner made last in
      let own = subst (KnowsPost r.n m r.owner id v.seen v.sizes v.drained) is o.post_is in let first = own made (omega arith) more in
      let none : (i : ℕ) → Contains v.drained i → ⊥ = λ i d. let e = ap length nothing in omega (arith, d.1) in
      reviewed s r (set s.views id left ++ right ∷ []) owner' r.seer r.giver
      (has_split IsLed IsLed s.views id r.leader v left right at (λ p. p) (λ u p. p))
      (has_split (HasSeen h) (HasSeen h) s.views id r.seer v left right at (λ p. p) (λ u p. p) r.seen)
      (λ i l. has_split (HasGiven i (m.updaters i).given) (HasGiven i (m.updaters i).given) s.views id (r.giver i) v left right at (λ p. p) (λ u p. p) (r.given i l))
      (λ i l. each_put (λ a x. Has (set s.views id left ++ right ∷ []) x (SpeaksFor a)) r.owner made last i
      (right, at_last (set s.views id left) right last (length-set s.views id left), (live, number))
      (λ ne. has_split (SpeaksFor i) (SpeaksFor i) s.views id (r.owner i) v left right at
      (λ p. (p.0, ⊎_elim (λ (le : made ≤ i). inl (subst (λ z. suc z ≤ i) (sym number) (omega arith))) (λ d. absurd (none i d)) (subst (SpeaksBy i v.drained) is p.1)))
      (λ u p. p) (r.spoken i l)))
      (seats_split (Knows r.n r.numbers r.name m r.left owner' r.leader) s.views id left right (record {
        sketch = o.sketch;
        sizes = o.sizes;
        lists = o.lists;
        post_is = λ i le lt. let b : made < i = subst (λ z. z < i) number le in let y = own i (omega arith) lt in (put_else r.owner made last i (λ e. omega arith) ∙ y.0, y.1, y.2);
        duty_is = subst (KnowsDuty r.n m r.left r.leader id v.seen left.post) (sym free) tt;
        open_is = tt;
        drained_is = λ i d. absurd (none i d);
      }) (record {
        sketch = o.sketch;
        sizes = record {
          sized = o.sizes.sized;
          sizes_are = o.sizes.sizes_are;
          known_with_size = λ i ne. absurd (ne (blank_at (length v.sizes) i));
        };
        lists = record {
          known_sized = blanks_length _ (length v.sizes) ∙ o.sizes.sized;
          given_sized = blanks_length _ (length v.sizes) ∙ o.sizes.sized;
          seen_is = o.lists.seen_is;
          heard_is = o.lists.heard_is;
          known_is = λ i. subst (λ l. Begins l (m.updaters i).mine.handed) (sym (blank_at (length v.sizes) i)) (begins_nil (m.updaters i).mine.handed);
          given_is = λ i. subst (λ l. Begins l (m.updaters i).given) (sym (blank_at (length v.sizes) i)) (begins_nil (m.updaters i).given);
        };
        post_is = subst (λ z. KnowsPost r.n m owner' last v.seen v.sizes [] (Updater z blank_mine)) (sym number) (more, put_here r.owner made last, first.1, begins_nil v.seen, first.2, refl);
        duty_is = tt;
        open_is = λ _ z. never_handed (hint r.numbers) m made (r.meets.each made more) (ap (λ (y : Mine). y.handed) (sym first.1)) (subst (λ j. (m.updaters j).word ≡ 0) number z);
        drained_is = λ i d. absurd (omega (arith, d.1));
      }) (λ j u apart e alive. owned_else r.n r.numbers r.name m r.left r.owner r.leader made id last j u first.0 apart (r.each_seat j u e alive)))

  -- a token's or a note's seat
  pub copies : (id : ℕ) (v : View) → v.live ≡ true → Splits Rule id v (after_split v) (copy_of v)
  copies id v live s r at =
      let m = r.machine in let h = m.published in let left : View = after_split v in let right : View = copy_of v in let o = r.each_seat id v at live in
      reviewed s r (set s.views id left ++ right ∷ []) r.owner r.seer r.giver
      (has_split IsLed IsLed s.views id r.leader v left right at (λ p. p) (λ u p. p))
      (has_split (HasSeen h) (HasSeen h) s.views id r.seer v left right at (λ p. p) (λ u p. p) r.seen)
      (λ i l. has_split (HasGiven i (m.updaters i).given) (HasGiven i (m.updaters i).given) s.views id (r.giver i) v left right at (λ p. p) (λ u p. p) (r.given i l))
      (λ i l. has_split (SpeaksFor i) (SpeaksFor i) s.views id (r.owner i) v left right at (λ p. p) (λ u p. p) (r.spoken i l))
      (seats_split (Knows r.n r.numbers r.name m r.left r.owner r.leader) s.views id left right (record {
        sketch = o.sketch;
        sizes = o.sizes;
        lists = o.lists;
        post_is = o.post_is;
        duty_is = o.duty_is;
        open_is = open_neutral m m v.steps Split v.post (λ _ _. refl) (λ _ z. z) o.open_is;
        drained_is = o.drained_is;
      }) (record {
        sketch = o.sketch;
        sizes = record {
          sized = copied_length v.sizes v.post ∙ o.sizes.sized;
          sizes_are = λ i known. let same = copied_size v.sizes v.post i known in same ∙ o.sizes.sizes_are i (subst (λ z. z ≢ 0) same known);
          known_with_size = told_known_size (length v.sizes) v.sizes v.known v.post (told_sized r.n m r.owner id v.seen v.sizes v.drained (length v.sizes) v.known (hint r.numbers) r.meets v.post o.post_is o.sizes.known_with_size);
        };
        lists = record {
          known_sized = subst (λ z. length (told_on z v.known v.post) ≡ r.n) (sym o.sizes.sized) (told_length r.n v.known v.post o.lists.known_sized);
          given_sized = blanks_length _ (length v.sizes) ∙ o.sizes.sized;
          seen_is = o.lists.seen_is;
          heard_is = o.lists.heard_is;
          known_is = told_known r.n m r.owner id v.seen v.sizes v.drained (length v.sizes) v.known v.post o.post_is o.lists.known_is;
          given_is = λ i. subst (λ l. Begins l (m.updaters i).given) (sym (blank_at (length v.sizes) i)) (begins_nil (m.updaters i).given);
        };
        post_is = tt;
        duty_is = tt;
        open_is = tt;
        drained_is = λ i d. absurd (omega (arith, d.1));
      }) (λ j u apart e alive. r.each_seat j u e alive))

  -- what is common to what takes in a note's seat and an updater's
  joined : (id : ℕ) (v : View) (other : ℕ) (w : View) (s : State (Slot C T) View) (r : Rule s) (owner' : ℕ → ℕ) → v.live ≡ true → w.live ≡ true → w.duty ≡ Free → other ≢ id → get_elem? s.views id ≡ some v → get_elem? s.views other ≡ some w
      → ((i : ℕ) → i < r.n → Has (set (set s.views id (after_join v w)) other spent) (owner' i) (SpeaksFor i))
      → length (after_join v w).known ≡ r.n → ((i : ℕ) → Begins (known_of (after_join v w) i) (r.machine.updaters i).mine.handed) → ((i : ℕ) → known_of (after_join v w) i ≢ [] → size_of (after_join v w) i ≢ 0)
      → (((i : ℕ) → size_of v i ≡ r.machine.sizes i → size_of (after_join v w) i ≡ r.machine.sizes i) → Begins v.seen (after_join v w).seen → KnowsPost r.n r.machine owner' id (after_join v w).seen (after_join v w).sizes (after_join v w).drained v.post)
      → ((i : ℕ) → Contains (after_join v w).drained i → KnowsTakenIn r.n r.machine owner' id (known_of (after_join v w) i) (after_join v w).picked i)
      → ((j : ℕ) (u : View) → j ≢ id → j ≢ other → get_elem? s.views j ≡ some u → u.live ≡ true → Knows r.n r.numbers r.name r.machine r.left owner' r.leader j u)
      → Rule record { words = s.words; homes = s.homes; views = set (set s.views id (after_join v w)) other spent }
  joined id v other w s r owner' live live' free apart at here speaks long known sized post drained others =
      let m = r.machine in let h = m.published in let v' : View = after_join v w in let o = r.each_seat id v at live in let q = r.each_seat other w here live' in
      let both = seen_joined r.n m r.left r.leader id v.seen w.seen v.post v.duty o.lists.seen_is q.lists.seen_is o.duty_is in
      let sizes : (i : ℕ) → size_of v i ≡ m.sizes i → size_of v' i ≡ m.sizes i = λ i e. sizes_either (λ x. x ≡ m.sizes i) v.sizes w.sizes i (λ _. e) (λ z. ⊎_elim (λ (y : size_of w i ≡ 0). y ∙ sym z ∙ e) (λ ne. q.sizes.sizes_are i ne) (cases_eq (size_of w i) 0)) in
      reviewed s r (set (set s.views id v') other spent) owner' (put (λ x. x) other id r.seer) (λ i. put (λ x. x) other id (r.giver i))
      (has_kept s.views id other v w v' IsLed IsLed r.leader at here (λ p. p) (λ p. true≢false (sym p.1 ∙ ap leads free)) (λ u p. p))
      (has_joined s.views id other v w v' (HasSeen h) (HasSeen h) r.seer apart at here (λ p. (live, both.first p.1)) (λ p. (live, both.second p.1)) (λ u p. p) r.seen)
      (λ i l. has_joined s.views id other v w v' (HasGiven i (m.updaters i).given) (HasGiven i (m.updaters i).given) (r.giver i) apart at here
      (λ p. (live, merged_first v.given w.given i (m.updaters i).given p.1 (q.lists.given_is i))) (λ p. (live, merged_second v.given w.given i (m.updaters i).given p.1 (o.lists.given_is i))) (λ u p. p) (r.given i l))
      speaks
      (seats_joined s.views id other v w v' (Knows r.n r.numbers r.name m r.left owner' r.leader) (record {
        sketch = record {
          numbers_are = o.sketch.numbers_are;
          name_is = o.sketch.name_is;
          names_are = λ x d. ⊎_elim (o.sketch.names_are x) (λ e. sym e ∙ q.sketch.name_is) (Contains-push_cases v.names w.name x d);
        };
        sizes = record {
          sized = sizes_length r.n v.sizes w.sizes o.sizes.sized q.sizes.sized;
          sizes_are = λ i. sizes_either (λ x. x ≢ 0 → x ≡ m.sizes i) v.sizes w.sizes i (λ _. o.sizes.sizes_are i) (λ _. q.sizes.sizes_are i);
          known_with_size = sized;
        };
        lists = record {
          known_sized = long;
          given_sized = merged_length r.n v.given w.given o.lists.given_sized q.lists.given_sized;
          seen_is = both.within;
          heard_is = λ x d. heard_both v.heard w.heard v.seen w.seen (λ l. Begins l h) o.lists.heard_is o.lists.seen_is q.lists.seen_is q.lists.heard_is x d;
          known_is = known;
          given_is = λ i. merged_either (λ l. Begins l (m.updaters i).given) v.given w.given i (o.lists.given_is i) (q.lists.given_is i);
        };
        post_is = post sizes both.grows;
        duty_is = duty_joined r.n m r.left r.leader id v.seen w.seen v.post v.duty o.duty_is;
        open_is = open_neutral m m v.steps Join v.post (λ _ _. refl) (λ _ z. z) o.open_is;
        drained_is = drained;
      }) others)

  -- a token or an updater takes in a note
  pub joins_note : (id : ℕ) (v : View) (other : ℕ) (w : View) → v.live ≡ true → w.live ≡ true → w.post ≡ Guest → w.duty ≡ Free → Joins Rule id v other w (after_join v w) spent
  joins_note id v other w live live' guest free s r at apart there =
      let v' : View = after_join v w in let m = r.machine in let here : get_elem? s.views other ≡ some w = sym (set_else s.views id other v' apart) ∙ there in
      let o = r.each_seat id v at live in let q = r.each_seat other w here live' in
      let known : v'.known ≡ merged v.known w.known = ap (known_with v.known w.known) guest in let drained : v'.drained ≡ v.drained = ap (drained_with v.drained) guest in
      joined id v other w s r r.owner live live' free apart at here
      (λ i l. has_kept s.views id other v w v' (SpeaksFor i) (SpeaksFor i) (r.owner i) at here (λ p. (live, subst (λ d. SpeaksBy i d v.post) (sym drained) p.1)) (λ p. subst (SpeaksBy i w.drained) guest p.1) (λ u p. p) (r.spoken i l))
      (ap length known ∙ merged_length r.n v.known w.known o.lists.known_sized q.lists.known_sized)
      (λ i. subst (λ ks. Begins (get_or ks i []) (m.updaters i).mine.handed) (sym known) (merged_either (λ l. Begins l (m.updaters i).mine.handed) v.known w.known i (o.lists.known_is i) (q.lists.known_is i)))
      (λ i. subst (λ ks. get_or ks i [] ≢ [] → size_of v' i ≢ 0) (sym known) (merged_either (λ l. l ≢ [] → size_of v' i ≢ 0) v.known w.known i
      (λ ne. size_first v.sizes w.sizes i (o.sizes.known_with_size i ne)) (λ ne. size_second v.sizes w.sizes i (q.sizes.known_with_size i ne))))
      (λ same more. subst (λ d. KnowsPost r.n m r.owner id v'.seen v'.sizes d v.post) (sym drained) (post_joined r.n m r.owner id v.seen v'.seen v.sizes v'.sizes v.drained v.post more same o.post_is))
      (λ i d. let y = o.drained_is i (subst (λ l. Contains l i) drained d) in record {
        within = y.within;
        own = y.own;
        all = ap (λ ks. get_or ks i []) known ∙ merged_first v.known w.known i (m.updaters i).mine.handed y.all (q.lists.known_is i);
        given = y.given;
        was_picked = λ e. subst (λ l. Contains l i) (sym (ap (picked_with v.picked) guest)) (y.was_picked e);
      })
      (λ j u _ _ e alive. r.each_seat j u e alive)

  -- the heart takes in an updater's seat, which has given its slot back
  pub joins_updater : (id n : ℕ) (v : View) (other i : ℕ) (w : View) → v.live ≡ true → w.live ≡ true → length v.sizes ≡ n → v.post ≡ Root n → w.post ≡ Updater i (mine_of w) → (mine_of w).rested ≡ true → w.duty ≡ Free → Joins Rule id v other w (after_join v w) spent
  joins_updater id n v other i w live live' size heart is rest free s r at apart there =
      let v' : View = after_join v w in let m = r.machine in let here : get_elem? s.views other ≡ some w = sym (set_else s.views id other v' apart) ∙ there in
      let o = r.each_seat id v at live in let q = r.each_seat other w here live' in let mine : Mine = mine_of w in let owner' : ℕ → ℕ = put r.owner i id in
      let p = subst (KnowsPost r.n m r.owner other w.seen w.sizes w.drained) is q.post_is in let ok = r.meets.each i p.0 in
      let known : v'.known ≡ set v.known i mine.handed = ap (known_with v.known w.known) is in let drained : v'.drained ≡ v.drained ++ i ∷ [] = ap (drained_with v.drained) is in
      let picked : v'.picked ≡ (if mine.picked then v.picked ++ i ∷ [] else v.picked) = ap (picked_with v.picked) is in
      let handed : mine.handed ≡ (m.updaters i).mine.handed = ap (λ (x : Mine). x.handed) p.2 in let inside : i < length v.known = omega (arith, o.lists.known_sized, p.0) in
      joined id v other w s r owner' live live' free apart at here
      (λ a l. each_put (λ b x. Has (set (set s.views id v') other spent) x (SpeaksFor b)) r.owner i id a
      (v', at_both s.views id other v w v' apart at, (live, subst (SpeaksBy i v'.drained) (sym heart) (inr (subst (λ d. Contains d i) (sym drained) (Contains-push v.drained i)))))
      (λ ne. has_kept s.views id other v w v' (SpeaksFor a) (SpeaksFor a) (r.owner a) at here
      (λ p. (live, subst (SpeaksBy a v'.drained) (sym heart) (⊎_elim inl (λ d. inr (subst (λ l. Contains l a) (sym drained) (Contains-append_left v.drained (i ∷ []) a d))) (subst (SpeaksBy a v.drained) heart p.1))))
      (λ p. ne (sym (subst (SpeaksBy a w.drained) is p.1))) (λ u p. p) (r.spoken a l)))
      (ap length known ∙ length-set v.known i mine.handed ∙ o.lists.known_sized)
      (λ a. subst (λ ks. Begins (get_or ks a []) (m.updaters a).mine.handed) (sym known) (known_at v.known i mine.handed a (λ l. Begins l (m.updaters a).mine.handed) inside
      (λ e. subst (λ z. Begins mine.handed (m.updaters z).mine.handed) (sym e) (subst (Begins mine.handed) handed (begins_refl mine.handed))) (λ _. o.lists.known_is a)))
      (λ a. subst (λ ks. get_or ks a [] ≢ [] → size_of v' a ≢ 0) (sym known) (known_at v.known i mine.handed a (λ l. l ≢ [] → size_of v' a ≢ 0) inside
      (λ e ne. size_second v.sizes w.sizes a (λ z. ne (handed ∙ (ok.vacant (sym p.4 ∙ ap (size_of w) (sym e) ∙ z)).0))) (λ _ ne. size_first v.sizes w.sizes a (o.sizes.known_with_size a ne))))
      (λ same more. subst (KnowsPost r.n m owner' id v'.seen v'.sizes v'.drained) (sym heart) (λ a le lt. absurd (omega (arith, o.sizes.sized, size, le, lt))))
      (λ a d. ⊎_elim
      (λ (e : a ≡ i). subst (λ z. KnowsTakenIn r.n m owner' id (known_of v' z) v'.picked z) (sym e) (record {
        within = p.0;
        own = put_here r.owner i id;
        all = ap (λ ks. get_or ks i []) known ∙ get_or-set_same v.known i mine.handed [] inside ∙ handed;
        given = λ z. true≢false (sym rest ∙ ap (λ (x : Mine). x.rested) p.2 ∙ ok.closed_rested z);
        was_picked = λ on. subst (λ l. Contains l i) (sym picked) (picked_here v.picked i mine.picked (ap (λ (x : Mine). x.picked) p.2 ∙ on));
      }))
      (λ (ne : a ≢ i). let y = o.drained_is a (⊎_elim (λ x. x) (λ e. absurd (ne (sym e))) (Contains-push_cases v.drained i a (subst (λ l. Contains l a) drained d))) in record {
        within = y.within;
        own = put_else r.owner i id a ne ∙ y.own;
        all = ap (λ ks. get_or ks a []) known ∙ get_or-set_other v.known i a mine.handed [] ne ∙ y.all;
        given = y.given;
        was_picked = λ on. subst (λ l. Contains l a) (sym picked) (picked_still v.picked i a mine.picked (y.was_picked on));
      })
      (cases_eq a i))
      (λ j u _ ne e alive. owned_else r.n r.numbers r.name m r.left r.owner r.leader i other id j u p.1 ne (r.each_seat j u e alive))

-- what stays true of a seat's slots where it splits a note off
pub split_holds : {C T : Type 0} (g : Sketching C) (k : Telling T) (heart : Bool) (n number front : ℕ) (own : Bool) (m : Sat C T) → Holds g k heart n number front own m → Holds g k heart n number front own (after_split m.0, m.1)
split_holds g k heart n number front own m h = same_holds g k heart n number front own m (after_split m.0, m.1) h refl refl refl refl refl refl (λ _. refl) refl
