-- A heart that takes in updaters, and a reader that learns what they kept, to the end.
use Rattle.std.proofs.Common.{◌≡◌, ◌≢◌, ℕ, suc, ◌+◌, ◌-◌, ◌^◌, ◌<◌, min, Bool, false, not, List, [], ◌∷◌, ◌++◌, length, drop, get_or, get_or-set_same, All, Option, None, is_some, Contains, Result, Ok, Err, OnErr, refl, sym, ap, subst, ◌∙◌, arith, append-nil, append_assoc, length-append}
use Rattle.std.proofs.lemmas.List.{map_push}
use Rattle.std.proofs.lemmas.List.Elements.{All-nil, All-cons, All-push, Contains-push}
use Rattle.std.proofs.lemmas.List.Sums.{sum_by_push}
use Rattle.sk_model.specs.Entries.{Entry, entries_by}
use Rattle.sk_model.specs.Missing.{Begins}
use Rattle.sk_model.proofs.Missing.{begins_trans, begins_nil}
use Rattle.sk_machine.proofs.Coarse.{entries_by_begins}
use Rattle.sk_model.specs.declared.memory.OutOfMemory.{OutOfMemory}
use Rattle.sk_gate.specs.Hands.{is_empty}
use Rattle.sk_gate.specs.Views.{known_of}
use Rattle.sk_hub.specs.Drains.{IsDrained, HasTakenIn}
use Rattle.sk_hub.specs.Hearts.{HeartState, IsWholeHeart}
use Rattle.sk_hub.specs.Updaters.{UpdaterState, kept_of, IsWholeUpdater}
use Rattle.sk_hub.proofs.Taking.{taken_when_drained, taken_after_drain, taken_after_serving, taken_with_view}
use Rattle.sk_snap.specs.History.{Beginning, entries_in}
use Rattle.sk_snap.specs.Versions.{Learnt}
use Rattle.sk_learn.specs.Learning.{ReaderGoesOn}
use Rattle.sk_learn.specs.Closing.{AreApart, numbers_of, items_kept, counted, TakesIn, TakesFirst, GivesBack, GivesFirstBack, TakesInAll, StopsEarly, Closes}
use Rattle.sk_learn.proofs.LearningLaws.{goes_refl, goes_trans, TellsThese, told_begins}
use Rattle.sk_learn.proofs.Lists.{at_least, exactly}

-- ---- one updater

-- the heart of an updater's table has a place for it
pub has_place : (hint_of : List ℕ → List Entry → ℕ) (h : HeartState) (u : UpdaterState) → IsWholeUpdater hint_of u → IsWholeHeart h → u.table ≡ h.table → u.number < h.updaters
has_place hint_of h u of_u of_h table =
    let slots : u.table.slots ≡ h.table.slots = ap (λ t. t.slots) table in
    omega (arith, of_u.within, of_u.slots, of_h.slots, slots)

pub was_drained : (h b : HeartState) (u : UpdaterState) (i : ℕ) → i ≡ u.number → IsDrained h u b → Contains b.view.drained i
was_drained h b u i is d = subst (λ n. Contains b.view.drained n) (sym is) (subst (λ l. Contains l u.number) (sym d.drained) (Contains-push h.view.drained u.number))

emptied : (l : List ℕ) → false ≡ not (is_empty l) → l ≡ []
emptied [] is = refl
emptied (x ∷ l) is = absurd (cc)

-- the told value of a drained updater is there exactly where it kept something
pub told_where : (h b : HeartState) (u : UpdaterState) → IsDrained h u b → u.number < length h.news → get_or b.news u.number false ≡ not (is_empty (kept_of u))
told_where h b u d within = ap (λ l. get_or l u.number false) d.news ∙ get_or-set_same h.news u.number (not (is_empty (kept_of u))) false within

module _ (h b h' : HeartState) (u : UpdaterState) (r s : Learnt) (d : IsDrained h u b) (told : h' ≡ record b { news = h'.news }) where
  pub took_in : ReaderGoesOn r s → Begins (kept_of u) (entries_by u.number (entries_in s.known)) → TakesIn h u r h' s
  took_in goes learnt = record {
    between = b;
    drains = d;
    told = told;
    goes = goes;
    learnt = learnt;
  }

-- there was no told value
pub nothing_kept : (h b : HeartState) (u : UpdaterState) (s : Learnt) (i : ℕ) (o : Option Beginning) → i ≡ u.number → IsDrained h u b → u.number < length h.news → is_some o ≡ get_or b.news i false → o ≡ None → Begins (kept_of u) (entries_by u.number (entries_in s.known))
nothing_kept h b u s i o is d within news none =
    let empty : false ≡ not (is_empty (kept_of u)) = ap (λ z. is_some z) (sym none) ∙ news ∙ ap (λ j. get_or b.news j false) is ∙ told_where h b u d within in
    subst (λ l. Begins l (entries_by u.number (entries_in s.known))) (sym (emptied (kept_of u) empty)) (begins_nil (entries_by u.number (entries_in s.known)))

pub all_told : (h b : HeartState) (u : UpdaterState) (s : Learnt) (i : ℕ) (t : Beginning) → i ≡ u.number → IsDrained h u b → TellsThese b.view.name i (known_of b.view i) t → Begins (entries_in t) (entries_in s.known) → Begins (kept_of u) (entries_by u.number (entries_in s.known))
all_told h b u s i t is d tells begins =
    let its : TellsThese b.view.name u.number (known_of b.view u.number) t = subst (λ j. TellsThese b.view.name j (known_of b.view j) t) is tells in
    subst (λ l. Begins l (entries_by u.number (entries_in s.known))) d.known (told_begins b.view.name u.number (known_of b.view u.number) t s its begins)

-- what `told` leaves
pub told_stays : (h b : HeartState) (news : List Bool) → h ≡ record b { news = news } → h ≡ record b { news = h.news }
told_stays h b news is = let same : news ≡ h.news = sym (ap (λ (z : HeartState). z.news) is) in is ∙ (λ e. record b { news = same e })

-- what holds anyhow holds of an error
on_err : {T E : Type 0} (o : Result T E) (P : Type 0) → P → OnErr o P
on_err (Ok x) P holds = tt
on_err (Err e) P holds = holds

-- ---- the first of a list

pub first_of : (us us' : List UpdaterState) (u : UpdaterState) → 0 < length us → u ≡ get_or us 0 u → us' ≡ drop 1 us → us ≡ u ∷ us'
first_of [] us' u some is left = absurd (omega (arith, some))
first_of (v ∷ us) us' u some is left = ap (λ w. w ∷ us) (sym is) ∙ ap (λ l. u ∷ l) (sym left)

-- ---- updaters, one after another

pub none_in : (h : HeartState) (r : Learnt) → TakesInAll h [] r h r
none_in h r = record {
  table = refl;
  name = refl;
  drained = sym (append-nil h.view.drained);
  taken_in = All-nil (HasTakenIn h);
  goes = goes_refl r;
  learnt = All-nil (λ (u : UpdaterState). Begins (kept_of u) (entries_by u.number (entries_in r.known)));
}

pub next_in : (h h1 h2 : HeartState) (us : List UpdaterState) (u : UpdaterState) (r r1 r2 : Learnt) → TakesInAll h us r h1 r1 → All (λ v. v.number ≢ u.number) us → TakesIn h1 u r1 h2 r2 → TakesInAll h (us ++ u ∷ []) r h2 r2
next_in h h1 h2 us u r r1 r2 t apart next = record {
  table = ap (λ (z : HeartState). z.table) next.told ∙ ap (λ (z : HeartState). z.table) next.drains.stays ∙ t.table;
  name = ap (λ (z : HeartState). z.view.name) next.told ∙ next.drains.name ∙ t.name;
  drained = ap (λ (z : HeartState). z.view.drained) next.told ∙ next.drains.drained ∙ ap (λ l. l ++ u.number ∷ []) t.drained ∙ append_assoc h.view.drained (numbers_of us) (u.number ∷ [])
      ∙ ap (λ l. h.view.drained ++ l) (sym (map_push (λ (v : UpdaterState). v.number) us u));
  taken_in = All-push (HasTakenIn h2) us u
      (λ i d within. later (get_or us i d) (taken_after_drain h1 next.between (get_or us i d) u next.drains (λ same. apart i d within (sym same)) (t.taken_in i d within)))
      (later u (taken_when_drained h1 next.between u next.drains));
  goes = goes_trans r r1 r2 t.goes next.goes;
  learnt = All-push (λ (v : UpdaterState). Begins (kept_of v) (entries_by v.number (entries_in r2.known))) us u
      (λ i d within. begins_trans _ _ _ (t.learnt i d within) (entries_by_begins (get_or us i d).number (entries_in r1.known) (entries_in r2.known) next.goes.grows))
      next.learnt;
}
  where
    later : (v : UpdaterState) → HasTakenIn next.between v → HasTakenIn h2 v
    later v has = taken_with_view next.between h2 v (ap (λ (z : HeartState). z.view) next.told) has

-- a drain in vain changes nothing of it
pub still_in : (h h1 h2 : HeartState) (us : List UpdaterState) (u u' : UpdaterState) (r r1 : Learnt) → TakesInAll h us r h1 r1 → GivesBack h1 u h2 u' → TakesInAll h us r h2 r1
still_in h h1 h2 us u u' r r1 t gives = record {
  table = ap (λ (z : HeartState). z.table) gives.stays ∙ t.table;
  name = ap (λ v. v.name) gives.knows.view ∙ t.name;
  drained = ap (λ v. v.drained) gives.knows.view ∙ t.drained;
  taken_in = λ i d within. taken_after_serving h1 h2 (get_or us i d) gives.knows (t.taken_in i d within);
  goes = t.goes;
  learnt = t.learnt;
}

-- ---- what is said of the next one

-- what holds of all holds of those that are left
pub of_rest : (P : UpdaterState → Type 0) (taken rest us : List UpdaterState) → taken ++ rest ≡ us → All P us → All P rest
of_rest P taken rest us is all = go taken (subst (All P) (sym is) all)
  where
    go : (xs : List UpdaterState) → All P (xs ++ rest) → All P rest
    go [] holds = holds
    go (x ∷ xs) holds = go xs (λ i d within. holds (suc i) d (omega (arith, within)))

at_next : (taken rest : List UpdaterState) (u d : UpdaterState) → get_or (taken ++ u ∷ rest) (length taken) d ≡ u
at_next [] rest u d = refl
at_next (v ∷ taken) rest u d = at_next taken rest u d

pub apart_next : (taken rest us : List UpdaterState) (u : UpdaterState) → taken ++ u ∷ rest ≡ us → AreApart us → All (λ v. v.number ≢ u.number) taken
apart_next taken rest us u is apart = go taken (subst AreApart (sym is) apart)
  where
    go : (xs : List UpdaterState) → AreApart (xs ++ u ∷ rest) → All (λ v. v.number ≢ u.number) xs
    go [] holds = All-nil (λ (v : UpdaterState). v.number ≢ u.number)
    go (x ∷ xs) holds = All-cons (λ (v : UpdaterState). v.number ≢ u.number) x xs
        (subst (λ (v : UpdaterState). x.number ≢ v.number) (at_next xs rest u x) (holds 0 (suc (length xs)) x (omega arith) (omega (arith, length-append xs (u ∷ rest)))))
        (go xs (λ i j d before within. holds (suc i) (suc j) d (omega arith) (omega arith)))

-- ---- how many

pub none_counted : (n : ℕ) → n < 2 ^ 64 → n ≡ counted n []
none_counted n fits = omega (arith, fits)

pub one_counted : (before now next kept : ℕ) (us : List UpdaterState) (u : UpdaterState) → now ≡ counted before us → kept ≡ length (kept_of u) → next ≡ min (now + kept) (2 ^ 64 - 1) → next ≡ counted before (us ++ u ∷ [])
one_counted before now next kept us u is its sum = omega (arith, is, its, sum, sum_by_push (λ (v : UpdaterState). length (kept_of v)) us u)

-- ---- one step

pub next_taken : (h h1 h2 : HeartState) (all us us' taken : List UpdaterState) (r r1 r2 : Learnt) (kept : ℕ) → AreApart all → taken ++ us ≡ all → TakesInAll h taken r h1 r1 → (first : TakesFirst h1 us r1 kept h2 us' r2) → TakesInAll h (taken ++ first.first ∷ []) r h2 r2
next_taken h h1 h2 all us us' taken r r1 r2 kept apart is t first =
    next_in h h1 h2 taken first.first r r1 r2 t (apart_next taken us' all first.first (ap (λ l. taken ++ l) (sym first.all) ∙ is) apart) first.takes

pub stopped_early : {T : Type 0} (o : Result T OutOfMemory) (h h1 h2 : HeartState) (all us us' taken : List UpdaterState) (r r1 r2 : Learnt) (before now : ℕ) → taken ++ us ≡ all → TakesInAll h taken r h1 r1 → now ≡ counted before taken → GivesFirstBack h1 us h2 us' → r2 ≡ r1
    → OnErr o (StopsEarly h all r before h2 us' r2 now)
stopped_early o h h1 h2 all us us' taken r r1 r2 before now is t count gives same = on_err o _ (record {
  taken = taken;
  next = gives.first;
  back = gives.back;
  rest = gives.rest;
  all = sym is ∙ ap (λ l. taken ++ l) gives.all;
  left = gives.left;
  comes = gives.gives.back;
  takes = subst (TakesInAll h taken r h2) (sym same) (still_in h h1 h2 taken gives.first gives.back r r1 t gives.gives);
  count = count;
  between = h1;
  took = subst (TakesInAll h taken r h1) (sym same) t;
  vain = gives.gives.vain;
})

-- ---- the end

module _ (h h1 : HeartState) (us : List UpdaterState) (r r1 r2 : Learnt) (n : ℕ) (apart : AreApart us) (t : TakesInAll h us r h1 r1) (count : n ≡ counted 0 us) (goes : ReaderGoesOn r1 r2)
    (whole : length (entries_in r2.known) ≡ n) where
  learnt : All (λ u. Begins (kept_of u) (entries_by u.number (entries_in r2.known))) us
  learnt = λ i d within. begins_trans _ _ _ (t.learnt i d within) (entries_by_begins (get_or us i d).number (entries_in r1.known) (entries_in r2.known) goes.grows)

  -- a sum that was cut off is more than the list has
  as_many : length (entries_in r2.known) ≡ items_kept us
  as_many = omega (arith, whole, count, at_least us (entries_in r2.known) apart learnt)

  pub closed : Closes h us r h1 r2
  closed = record {
    takes = record { table = t.table; name = t.name; drained = t.drained; taken_in = t.taken_in; goes = goes_trans r r1 r2 t.goes goes; learnt = learnt };
    exactly = exactly us (entries_in r2.known) apart learnt as_many;
  }
