-- A reader that learns the told values of updaters, one after another.
use Rattle.std.proofs.Common.{◌≡◌, ◌≢◌, ⊎_elim, ℕ, zero, suc, ◌+◌, ◌<◌, ◌≤◌, List, [], ◌∷◌, length, get_or, set, get_or-set_same, get_or-set_other, All, refl, sym, ap, subst, ◌∙◌, arith}
use Rattle.std.specs.Bool.{⊤}
use Rattle.std.proofs.lemmas.Bool.{cases_lt}
use Rattle.std.proofs.lemmas.List.{length-set}
use Rattle.sk_model.specs.Entries.{entries_by}
use Rattle.sk_model.specs.Missing.{Begins}
use Rattle.sk_model.proofs.Missing.{begins_refl, begins_trans}
use Rattle.sk_machine.proofs.Coarse.{entries_by_begins}
use Rattle.sk_gate.specs.Slots.{telling}
use Rattle.sk_hub.specs.Updaters.{UpdaterState, TellsItems}
use Rattle.sk_snap.specs.History.{Beginning, entries_in, name_of}
use Rattle.sk_snap.specs.Versions.{Learnt}
use Rattle.sk_learn.specs.Learning.{ReaderGoesOn, Knows, LearnsOf, LearnsFirst, untold, AreAsked}

-- ---- a reader that continues

pub goes_refl : (r : Learnt) → ReaderGoesOn r r
goes_refl r = record { grows = begins_refl (entries_in r.known); numbers = refl; book = refl }

pub goes_trans : (r s t : Learnt) → ReaderGoesOn r s → ReaderGoesOn s t → ReaderGoesOn r t
goes_trans r s t a b = record { grows = begins_trans _ _ _ a.grows b.grows; numbers = b.numbers ∙ a.numbers; book = b.book ∙ a.book }

pub knows_more : (r s : Learnt) (u : UpdaterState) → ReaderGoesOn r s → Knows r u → Knows s u
knows_more r s u goes knows = record {
  told = λ is. begins_trans _ _ _ (knows.told is) (entries_by_begins u.number (entries_in r.known) (entries_in s.known) goes.grows);
  last = knows.last;
  fill = knows.fill;
}

-- ---- a told value

-- what its kind tells
abbrev pub TellsThese : List ℕ → ℕ → List ℕ → Beginning → Type 0
TellsThese name i items t = TellsItems {T = Beginning} (telling ⊤ (λ z. name_of z.book) (λ z list. entries_in z ≡ list)) name i items t

pub told_name : (name : List ℕ) (i : ℕ) (items : List ℕ) (t : Beginning) → TellsThese name i items t → name_of t.book ≡ name
told_name name i items t (list, its, tells) = (tells tt).0

pub told_begins : (name : List ℕ) (i : ℕ) (items : List ℕ) (t : Beginning) (s : Learnt) → TellsThese name i items t → Begins (entries_in t) (entries_in s.known) → Begins items (entries_by i (entries_in s.known))
told_begins name i items t s (list, its, tells) begins =
    let same : entries_by i (entries_in t) ≡ items = ap (entries_by i) (tells tt).1 ∙ its in
    subst (λ l. Begins l (entries_by i (entries_in s.known))) same (entries_by_begins i (entries_in t) (entries_in s.known) begins)

-- ---- updaters, one after another

pub none_learnt : (r : Learnt) (us : List UpdaterState) → LearnsFirst r us 0 r
none_learnt r us = record { goes = goes_refl r; knows = λ i d within. absurd (omega arith) }

pub none_asked : (us : List UpdaterState) → AreAsked us 0 us
none_asked us = record { count = refl; first = λ i d within. absurd (omega arith); others = λ i d after. refl }

get_or_any : {A : Type 0} (xs : List A) (i : ℕ) (d e : A) → i < length xs → get_or xs i d ≡ get_or xs i e
get_or_any [] i d e within = absurd (omega arith)
get_or_any (x ∷ xs) zero d e within = refl
get_or_any (x ∷ xs) (suc i) d e within = get_or_any xs i d e (omega arith)

pub next_name : (r r1 : Learnt) (us us1 : List UpdaterState) (n : ℕ) (d : UpdaterState) → All (λ u. u.view.name ≡ name_of r.known.book) us → n < length us → LearnsFirst r us n r1 → AreAsked us n us1 → (get_or us1 n d).view.name ≡ name_of r1.known.book
next_name r r1 us us1 n d names within learns asked =
    ap (λ (u : UpdaterState). u.view.name) (asked.others n d (omega arith)) ∙ names n d within ∙ ap name_of (sym learns.goes.book)

pub next_learnt : (r r1 r2 : Learnt) (us us1 : List UpdaterState) (n : ℕ) (d : UpdaterState) → n < length us → LearnsFirst r us n r1 → AreAsked us n us1 → LearnsOf r1 (get_or us1 n d) r2 → LearnsFirst r us (n + 1) r2
next_learnt r r1 r2 us us1 n d within learns asked next = record {
  goes = goes_trans r r1 r2 learns.goes next.goes;
  knows = λ i e before. ⊎_elim
      (λ (front : i < n). knows_more r1 r2 (get_or us i e) next.goes (learns.knows i e front))
      (λ (back : n ≤ i). let same : n ≡ i = omega arith in
      subst (λ j. Knows r2 (get_or us j e)) same (subst (Knows r2) (asked.others n d (omega arith) ∙ get_or_any us n d e within) next.knows))
      (cases_lt i n);
}

at_place : (us : List UpdaterState) (n : ℕ) (u d : UpdaterState) → n < length us → get_or (set us n u) n d ≡ u
at_place us n u d inside = rw get_or-set_same

elsewhere : (us : List UpdaterState) (n i : ℕ) (u d : UpdaterState) → i ≢ n → get_or (set us n u) i d ≡ get_or us i d
elsewhere us n i u d other = rw get_or-set_other

pub next_asked : (us us1 : List UpdaterState) (n : ℕ) (u d : UpdaterState) → n < length us → AreAsked us n us1 → u ≡ untold (get_or us1 n d) → AreAsked us (n + 1) (set us1 n u)
next_asked us us1 n u d within asked is = record {
  count = length-set us1 n u ∙ asked.count;
  first = λ i e before. ⊎_elim
      (λ (front : i < n). let other : i ≢ n = omega arith in elsewhere us1 n i u e other ∙ asked.first i e front)
      (λ (back : n ≤ i). let same : n ≡ i = omega arith in subst (λ j. get_or (set us1 n u) j e ≡ untold (get_or us j e)) same
      (at_place us1 n u e (omega (arith, asked.count)) ∙ is ∙ ap untold (asked.others n d (omega arith) ∙ get_or_any us n d e within)))
      (cases_lt i n);
  others = λ i e after. let other : i ≢ n = omega arith in elsewhere us1 n i u e other ∙ asked.others i e (omega arith);
}
