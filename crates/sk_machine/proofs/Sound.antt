-- What events of the whole machine have in common.
use Rattle.std.proofs.Common.{◌≡◌, ◌≢◌, ℕ, ◌+◌, ◌<◌, ◌≤◌, List, [], ◌∷◌, ◌++◌, length, true, false, true≢false, cond, All, arith, refl, sym, ap, ◌∙◌, subst, lt-ltb, le-ltb, eq-eqb, ne_eqb, ltb, eqb}
use Rattle.std.proofs.lemmas.List.Elements.{All-nil, All-cons, All-head, All-tail}
use mathlib.Core.Logic.{dite}
use native.Mathlib.Decide.{ℕ_discrete, dec_le}
use Rattle.sk_model.specs.Entries.{Entry}
use Rattle.sk_model.specs.Missing.{Begins}
use Rattle.sk_model.proofs.Missing.{begins_trans}
use Rattle.sk_machine.specs.Numbered.{put}
use Rattle.sk_machine.specs.Coarse.{CoarseUpdater, Coarse, IsEntry, At, IsBatch, MeetsUpdater, Meets}
use Rattle.sk_machine.specs.Coarse as coarse
use Rattle.sk_machine.specs.Fine.{FineUpdater, Token, Fine, with_updater}
use Rattle.sk_machine.specs.Invariant.{IsAt, IsOut, IsBehind, FitsUpdater, swapped_items, is_ready, coarse_updater, stage_of, coarse_of}
use Rattle.sk_machine.specs.declared.states.Mark.{Mark}
use Rattle.sk_machine.specs.declared.states.Mark.TheVariants.{Neither, Ready, Swapped}
use Rattle.sk_machine.specs.declared.states.Progress.{Progress}
use Rattle.sk_machine.specs.declared.states.Progress.TheVariants.{Idle, Found, Holding, Published, Put}
use Rattle.sk_machine.specs.declared.views.Stage.{Stage}
use Rattle.sk_machine.specs.declared.views.Stage.TheVariants as stages
use Rattle.sk_machine.proofs.Numbered.{put_here, put_else, each_put}
use Rattle.sk_model.specs.Width.{IsItem, AreItems}

-- ---- tests

pub if_less : {A : Type 0} (P : A → Type 0) (x y : ℕ) (a b : A) → (x < y → P a) → (y ≤ x → P b) → P (cond (ltb x y) a b)
if_less P x y a b less more = dite (dec_le y x)
    (λ le. subst (λ c. P (cond c a b)) (sym (le-ltb x y le)) (more le))
    (λ gt. let lt : x < y = omega arith in subst (λ c. P (cond c a b)) (sym (lt-ltb x y lt)) (less lt))

pub if_equal : {A : Type 0} (P : A → Type 0) (x y : ℕ) (a b : A) → (x ≡ y → P a) → (x ≢ y → P b) → P (cond (eqb x y) a b)
if_equal P x y a b same other = dite (ℕ_discrete x y)
    (λ e. subst (λ c. P (cond c a b)) (sym (eq-eqb x y e)) (same e))
    (λ ne. subst (λ c. P (cond c a b)) (sym (ne_eqb x y ne)) (other ne))

-- ---- marks

pub neither_of : (m : Mark) → is_ready m ≡ false → m ≡ Neither
neither_of Neither e = refl
neither_of Ready e = absurd (true≢false e)
neither_of Swapped e = absurd (true≢false e)

pub ready_of : (m : Mark) → m ≢ Neither → is_ready m ≡ true
ready_of Neither ne = absurd (ne refl)
ready_of Ready ne = refl
ready_of Swapped ne = refl

pub neither_swapped : (m : Mark) → m ≡ Neither → m ≢ Swapped
neither_swapped m e s = no (sym e ∙ s)
  where
    no : Neither ≡ Swapped → ⊥
    no e = cc

pub ready_swapped : (m : Mark) → m ≡ Ready → m ≢ Swapped
ready_swapped m e s = no (sym e ∙ s)
  where
    no : Ready ≡ Swapped → ⊥
    no e = cc

pub ready_neither : (m : Mark) → m ≡ Ready → m ≢ Neither
ready_neither m e s = no (sym e ∙ s)
  where
    no : Ready ≡ Neither → ⊥
    no e = cc

pub swapped_neither : (m : Mark) → m ≡ Swapped → m ≢ Neither
swapped_neither m e s = no (sym e ∙ s)
  where
    no : Swapped ≡ Neither → ⊥
    no e = cc

-- the slot of an updater that has not swapped is none of its items
pub unswapped : (m : Mark) (slot : List ℕ) → m ≢ Swapped → swapped_items m slot ≡ []
unswapped Neither slot ne = refl
unswapped Ready slot ne = refl
unswapped Swapped slot ne = absurd (ne refl)

-- ---- the coarse machine of a whole one

-- a stage at an updater is the propagator's
pub at_of : (updaters : ℕ → FineUpdater) (in_hand : List ℕ) (p : Progress) (i : ℕ) → IsAt p i → At (stage_of updaters in_hand p) i
at_of updaters in_hand Idle i at = at
at_of updaters in_hand (Found k) i at = at
at_of updaters in_hand (Holding k) i at = at
at_of updaters in_hand (Published k) i at = at
at_of updaters in_hand (Put k) i at = at

pub of_at : (updaters : ℕ → FineUpdater) (in_hand : List ℕ) (p : Progress) (i : ℕ) → At (stage_of updaters in_hand p) i → IsAt p i
of_at updaters in_hand Idle i at = at
of_at updaters in_hand (Found k) i at = at
of_at updaters in_hand (Holding k) i at = at
of_at updaters in_hand (Published k) i at = at
of_at updaters in_hand (Put k) i at = at

-- an updater that changes leaves the stage as it is, where its slot stays while it is found
pub stage_stays : (updaters : ℕ → FineUpdater) (in_hand : List ℕ) (p : Progress) (i : ℕ) (u : FineUpdater) → (p ≡ Found i → u.slot ≡ (updaters i).slot) → stage_of (put updaters i u) in_hand p ≡ stage_of updaters in_hand p
stage_stays updaters in_hand Idle i u same = refl
stage_stays updaters in_hand (Found k) i u same = ap (stages.Busy k) (dite (ℕ_discrete k i)
    (λ e. ap (λ j. (put updaters i u j).slot) e ∙ ap (λ (c : FineUpdater). c.slot) (put_here updaters i u) ∙ same (ap Found e) ∙ ap (λ j. (updaters j).slot) (sym e))
    (λ ne. ap (λ (c : FineUpdater). c.slot) (put_else updaters i u k ne)))
stage_stays updaters in_hand (Holding k) i u same = refl
stage_stays updaters in_hand (Published k) i u same = refl
stage_stays updaters in_hand (Put k) i u same = refl

-- a machine of which one updater changed
pub meets_with : (hint : List Entry → ℕ) (n : ℕ) (published : List Entry) (stage : Stage) (turn : ℕ) (updaters : ℕ → FineUpdater) (i : ℕ) (u : FineUpdater)
    → All (IsEntry n) published → ((j : ℕ) → At stage j → j < n) → turn ≤ n + 1 → (turn ≡ 0 → coarse.MayRest stage) → MeetsUpdater hint u.size published stage i (coarse_updater u)
    → ((j : ℕ) → j < n → j ≢ i → MeetsUpdater hint (updaters j).size published stage j (coarse_updater (updaters j)))
    → Meets hint n (record { published = published; stage = stage; turn = turn; sizes = λ j. (put updaters i u j).size; updaters = λ j. coarse_updater (put updaters i u j) })
meets_with hint n published stage turn updaters i u entries stage_at within free here others = record {
  entries = entries;
  stage_at = stage_at;
  turn_within = within;
  turn_free = free;
  each = λ j near. each_put (λ k (c : FineUpdater). MeetsUpdater hint c.size published stage k (coarse_updater c)) updaters i u j here (others j near);
}

-- the same where the propagator stays
pub meets_updater : (hint : List Entry → ℕ) (f : Fine) (i : ℕ) (u : FineUpdater) → Meets hint f.n (coarse_of f) → (f.progress ≡ Found i → u.slot ≡ (f.updaters i).slot)
    → MeetsUpdater hint u.size f.published (stage_of f.updaters f.in_hand f.progress) i (coarse_updater u) → Meets hint f.n (coarse_of (with_updater i u f))
meets_updater hint f i u ok slot here =
    let stays = stage_stays f.updaters f.in_hand f.progress i u slot in
    subst (λ (s : Stage). Meets hint f.n (record { published = f.published; stage = s; turn = f.turn; sizes = λ j. (put f.updaters i u j).size; updaters = λ j. coarse_updater (put f.updaters i u j) })) (sym stays)
    (meets_with hint f.n f.published (stage_of f.updaters f.in_hand f.progress) f.turn f.updaters i u ok.entries ok.stage_at ok.turn_within ok.turn_free here (λ j near _. ok.each j near))

-- ---- what the coarse machine does not say

-- an updater at which the propagator neither was nor is
pub fits_elsewhere : (hint : List Entry → ℕ) (p p' : Progress) (offers offers' i : ℕ) (u : FineUpdater) → ¬ IsOut p i → ¬ IsOut p' i → (p' ≡ Put i → ⊥) → offers ≤ offers' → FitsUpdater hint p offers i u → FitsUpdater hint p' offers' i u
fits_elsewhere hint p p' offers offers' i u was is laid more o = record {
  items = o.items;
  holds = o.holds;
  hint_is = o.hint_is;
  counted = let few = o.counted in omega arith;
  home = λ _. o.home was;
  out = λ out. absurd (is out);
  empty = o.empty;
  laid = λ put. absurd (laid put);
}

-- a token of a machine in which one updater handed more over
pub behind_updater : (f : Fine) (i : ℕ) (u : FineUpdater) (token : Token) → i < f.n → Begins (f.updaters i).handed u.handed → IsBehind f token → IsBehind (with_updater i u f) token
behind_updater f i u token inside more o = record {
  seen = o.seen;
  known = λ j near. each_put (λ k (c : FineUpdater). Begins (token.known k) c.handed) f.updaters i u j (begins_trans _ _ _ (o.known i inside) more) (λ _. o.known j near);
}

-- ---- lists

pub not_empty : (xs : List ℕ) → xs ≢ [] → 1 ≤ length xs
not_empty [] ne = absurd (ne refl)
not_empty (x ∷ xs) ne = omega arith

pub items_of_back : (xs ys : List ℕ) → AreItems (xs ++ ys) → AreItems ys
items_of_back [] ys items = items
items_of_back (x ∷ xs) ys items = items_of_back xs ys (All-tail IsItem x (xs ++ ys) items)

pub items_of_begin : (xs ys : List ℕ) → AreItems (xs ++ ys) → AreItems xs
items_of_begin [] ys items = All-nil IsItem
items_of_begin (x ∷ xs) ys items = All-cons IsItem x xs (All-head IsItem x (xs ++ ys) items) (items_of_begin xs ys (All-tail IsItem x (xs ++ ys) items))
