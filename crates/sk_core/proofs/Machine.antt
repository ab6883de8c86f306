-- How the machine changes with what a state stores.
use Rattle.std.proofs.Common.{◌≡◌, ◌≢◌, ℕ, ◌+◌, ◌<◌, ◌≤◌, List, ◌++◌, length, take, get_or, set, All, arith, length-append, length-set, sym, ap, ◌∙◌, subst, get_or-set_same, get_or-set_other, cond, eqb, eq-eqb, ne_eqb}
use Rattle.std.proofs.lemmas.List.{take-append-le, take_all, get_or_default, length-take}
use Rattle.std.proofs.lemmas.List.Elements.{All-map, All-take}
use mathlib.Core.Logic.{dite}
use native.Mathlib.Decide.{ℕ_discrete}
use Rattle.sk_model.specs.Entries.{Entry, entries_by, items_of_entries}
use Rattle.sk_model.proofs.Entries.{entries_by_append}
use Rattle.sk_model.proofs.Sketch.{theta_within, theta_positive}
use Rattle.sk_machine.specs.Coarse.{IsEntry}
use Rattle.sk_machine.specs.Numbered.{put}
use Rattle.sk_machine.specs.Fine.{Fine, with_updater, with_token}
use Rattle.sk_machine.specs.Invariant.{IsSound}
use Rattle.sk_core.specs.Events.{IsEnabled, Happens}
use Rattle.sk_core.specs.declared.event.Event.{Event}
use Rattle.sk_core.specs.declared.event.Answer.{Answer}
use Rattle.sk_machine.specs.declared.states.Progress.{Progress}
use Rattle.sk_machine.proofs.Numbered.{put_here, put_else}
use Rattle.sk_core.specs.Stored.{StoredUpdater, Stored, blank_updater, blank_token, updater_of, token_of, updater_at, token_at, machine_of, hint_by, word_by, IsWithin, IsStored}
use Rattle.sk_core.specs.declared.token.Token.{Token}
use Rattle.sk_model.specs.Width.{item_end, IsItem, AreItems}
use Rattle.sk_model.specs.Limits.{most_updaters}

-- a list that is set at one place, under a function of the place too
put-set_at : {A B : Type 0} (f : ℕ → A → B) (l : List A) (i : ℕ) (x d : A) → i < length l → (λ (j : ℕ). f j (get_or (set l i x) j d)) ≡ put (λ j. f j (get_or l j d)) i (f i x)
put-set_at f l i x d h = λ a j. at j a
  where
    at : (j : ℕ) → f j (get_or (set l i x) j d) ≡ put (λ k. f k (get_or l k d)) i (f i x) j
    at j = dite (ℕ_discrete j i)
        (λ e. ap (λ k. f k (get_or (set l i x) k d)) e ∙ ap (f i) (get_or-set_same l i x d h) ∙ sym (put_here (λ k. f k (get_or l k d)) i (f i x)) ∙ ap (put (λ k. f k (get_or l k d)) i (f i x)) (sym e))
        (λ n. ap (f j) (get_or-set_other l i j x d n) ∙ sym (put_else (λ k. f k (get_or l k d)) i (f i x) j n))

-- an updater that changes
pub set_updater : (s : Stored) (i : ℕ) (u : StoredUpdater) → i < length s.updaters → machine_of (record s { updaters = set s.updaters i u }) ≡ with_updater i (updater_of s.offers s.published i u) (machine_of s)
set_updater s i u inside = λ a. record {
  n = length-set s.updaters i u a;
  published = s.published;
  word = s.word;
  updaters = put-set_at (updater_of s.offers s.published) s.updaters i u (blank_updater 0) inside a;
  progress = s.progress;
  in_hand = s.in_hand;
  turn = s.turn;
  offers = length s.offers;
  made = length s.tokens;
  tokens = λ t. token_of s.offers s.published (token_at s t);
}

-- a token that changes
pub set_token : (s : Stored) (t : ℕ) (token : Token) → t < length s.tokens → machine_of (record s { tokens = set s.tokens t token }) ≡ with_token t (token_of s.offers s.published token) (machine_of s)
set_token s t token inside = λ a. record {
  n = length s.updaters;
  published = s.published;
  word = s.word;
  updaters = λ i. updater_of s.offers s.published i (updater_at s i);
  progress = s.progress;
  in_hand = s.in_hand;
  turn = s.turn;
  offers = length s.offers;
  made = length-set s.tokens t token a;
  tokens = put-set_at (λ _ (x : Token). token_of s.offers s.published x) s.tokens t token blank_token inside a;
}

-- ---- what is stored, after a change

pub each_set : {A : Type 0} (P : ℕ → A → Type 0) (l : List A) (i : ℕ) (x d : A) (j : ℕ) → i < length l → P i x → P j (get_or l j d) → P j (get_or (set l i x) j d)
each_set P l i x d j inside here there = dite (ℕ_discrete j i)
    (λ e. subst (λ k. P k (get_or (set l i x) k d)) (sym e) (subst (P i) (sym (get_or-set_same l i x d inside)) here))
    (λ ne. subst (P j) (sym (get_or-set_other l i j x d ne)) there)

-- an updater changes, and maybe the propagator
pub stores_updater : (s : Stored) (i : ℕ) (u : StoredUpdater) (p : Progress) (in_hand : List ℕ) → IsStored s → i < length s.updaters → IsWithin s.offers s.published i u
    → IsSound (hint_by s.k) (word_by s.k) (record (with_updater i (updater_of s.offers s.published i u) (machine_of s)) { progress = p; in_hand = in_hand })
    → IsStored (record s { updaters = set s.updaters i u; progress = p; in_hand = in_hand })
stores_updater s i u p in_hand ok inside within sound = record {
  least = ok.least;
  most = ok.most;
  few_updaters = subst (λ n. n ≤ most_updaters) (sym (length-set s.updaters i u)) ok.few_updaters;
  few_offers = ok.few_offers;
  few_tokens = ok.few_tokens;
  of_updaters = subst (λ n. All (λ (e : Entry). e.0 < n) s.offers) (sym (length-set s.updaters i u)) ok.of_updaters;
  updaters = λ j. each_set (IsWithin s.offers s.published) s.updaters i u (blank_updater 0) j inside within (ok.updaters j);
  tokens = ok.tokens;
  sound = subst (λ (f : Fine). IsSound (hint_by s.k) (word_by s.k) (record f { progress = p; in_hand = in_hand })) (sym (set_updater s i u inside)) sound;
}

-- what an index reads
pub read_at : {A : Type 0} (xs : List A) (i : ℕ) (x d : A) → i < length xs → x ≡ get_or xs i x → x ≡ get_or xs i d
read_at xs i x d inside is = is ∙ get_or_default xs i x d inside

-- what an event makes of what is stored
abbrev pub Outcome : Event → Stored → Stored → Answer → Type 0
Outcome e old new answer = IsStored new × Happens e old new answer

-- an event of an updater that is read, and put back changed
pub enacted : (e : Event) (old s : Stored) (i : ℕ) (change : StoredUpdater → StoredUpdater) (u u' : StoredUpdater) (answer : StoredUpdater → Answer) (said : Answer) (new : StoredUpdater → StoredUpdater → Stored)
    → s ≡ old → i < length s.updaters → u ≡ get_or s.updaters i u → u' ≡ change u → said ≡ answer u
    → (IsEnabled e (machine_of s) → Outcome e s (new (updater_at s i) (change (updater_at s i))) (answer (updater_at s i))) → IsEnabled e (machine_of old) → Outcome e old (new u u') said
enacted e old s i change u u' answer said new view inside read is says step may =
    let at : u ≡ updater_at s i = read_at s.updaters i u (blank_updater 0) inside read in
    let new_is : new (updater_at s i) (change (updater_at s i)) ≡ new u u' = ap (λ v. new v (change v)) (sym at) ∙ ap (new u) (sym is) in
    let said_is : answer (updater_at s i) ≡ said = sym (says ∙ ap answer at) in
    subst (λ (x : Stored × Stored × Answer). Outcome e x.0 x.1 x.2) (λ j. (view j, new_is j, said_is j)) (step (subst (λ (o : Stored). IsEnabled e (machine_of o)) (sym view) may))

-- one that reads no updater
pub played : (e : Event) (old s new : Stored) (said : Answer) → s ≡ old → (IsEnabled e (machine_of s) → Outcome e s new said) → IsEnabled e (machine_of old) → Outcome e old new said
played e old s new said view step may = subst (λ (o : Stored). Outcome e o new said) view (step (subst (λ (o : Stored). IsEnabled e (machine_of o)) (sym view) may))

-- what stands at tests
pub if_zero : {A : Type 0} (n : ℕ) (a b : A) → n ≡ 0 → cond (eqb n 0) a b ≡ a
if_zero n a b e = ap (λ c. cond c a b) (eq-eqb n 0 e)

pub if_not_zero : {A : Type 0} (n : ℕ) (a b : A) → n ≢ 0 → cond (eqb n 0) a b ≡ b
if_not_zero n a b ne = ap (λ c. cond c a b) (ne_eqb n 0 ne)

-- ---- beginnings of lists that grow

pub take_stays : {A : Type 0} (n : ℕ) (xs ys : List A) → n ≤ length xs → take n (xs ++ ys) ≡ take n xs
take_stays n xs ys le = take-append-le n xs ys le

pub take_whole : {A : Type 0} (xs : List A) → take (length xs) xs ≡ xs
take_whole xs = take_all (length xs) xs (omega arith)

-- all of a list, where it is a beginning and what follows
pub take_all_of : {A : Type 0} (n : ℕ) (xs ys : List A) → xs ≡ take n xs ++ ys → take (n + length ys) xs ≡ take n xs ++ ys
take_all_of n xs ys is =
    let size : length xs ≡ length (take n xs) + length ys = ap length is ∙ length-append (take n xs) ys in
    let front = length-take n xs in
    take_all (n + length ys) xs (omega arith) ∙ is

-- what an updater kept of more offers begins with what it kept
pub take_offers : (k j : ℕ) (offers more : List Entry) → k ≤ length (entries_by j offers) → take k (entries_by j (offers ++ more)) ≡ take k (entries_by j offers)
take_offers k j offers more le = ap (take k) (entries_by_append j offers more) ∙ take_stays k (entries_by j offers) (entries_by j more) le

pub offers_grow : (j : ℕ) (offers more : List Entry) → length (entries_by j offers) ≤ length (entries_by j (offers ++ more))
offers_grow j offers more = let e = ap length (entries_by_append j offers more) in omega (arith, length-append (entries_by j offers) (entries_by j more))

-- ---- functions of a number

pub is_put : {A : Type 0} (g f : ℕ → A) (i : ℕ) (c : A) → g i ≡ c → ((j : ℕ) → j ≢ i → g j ≡ f j) → g ≡ put f i c
is_put g f i c here others = λ a j. at j a
  where
    at : (j : ℕ) → g j ≡ put f i c j
    at j = dite (ℕ_discrete j i) (λ e. ap g e ∙ here ∙ sym (put_here f i c) ∙ ap (put f i c) (sym e)) (λ ne. others j ne ∙ sym (put_else f i c j ne))

-- ---- items

pub items_of : (n : ℕ) (l : List Entry) → All (IsEntry n) l → AreItems (items_of_entries l)
unfolding items_of_entries
items_of n l all = All-map IsItem (λ (e : Entry). e.1) l (λ i d inside. (all i d inside).1)

-- the items of a beginning of the published list
pub items_published : (s : Stored) (m : ℕ) → IsStored s → AreItems (items_of_entries (take m s.published))
items_published s m ok = items_of (length s.updaters) (take m s.published) (All-take (IsEntry (length s.updaters)) m s.published ok.sound.coarse.entries)

pub items_all : (s : Stored) → IsStored s → AreItems (items_of_entries s.published)
items_all s ok = items_of (length s.updaters) s.published ok.sound.coarse.entries

-- a hint is at most the end of the items
pub hint_within : (s : Stored) (i : ℕ) → IsStored s → i < length s.updaters → (updater_at s i).hint ≤ item_end
hint_within s i ok inside = let u = updater_at s i in
    subst (λ h. h ≤ item_end) (sym (ok.sound.fits.each i inside).hint_is) (theta_within s.k (items_of_entries (take u.base s.published)) (items_published s u.base ok))

-- no hint is 0
pub hint_positive : (k : ℕ) (l : List Entry) → 2 ≤ k → hint_by k l ≢ 0
hint_positive k l two z = let p = theta_positive k (items_of_entries l) two in absurd (omega arith)
