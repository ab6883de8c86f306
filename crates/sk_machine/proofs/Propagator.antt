-- The events of whoever propagates keep the invariant of the whole machine, and so do those of the turn.
use Rattle.std.proofs.Common.{◌≡◌, ◌≢◌, ◌⊎◌, ⊎_elim, inl, inr, ℕ, ◌+◌, ◌<◌, List, [], ◌++◌, Bool, true, false, arith, refl, sym, ap, ◌∙◌, subst}
use Rattle.sk_model.specs.Entries.{Entry, tagged}
use Rattle.sk_model.specs.Missing.{Begins}
use Rattle.sk_model.proofs.Missing.{begins_refl, begins_trans, begins_append}
use Rattle.sk_machine.specs.Coarse.{CoarseUpdater, Coarse, At, IsBatch, IsBehindBy, MeetsUpdater, Meets}
use Rattle.sk_machine.specs.Coarse as coarse
use Rattle.sk_machine.specs.Fine.{FineUpdater, Fine, with_updater, MayFind, after_find, MayTake, after_take, MayPublish, after_publish, MayPut, after_put, MayReturn, after_return, MayTurn, after_turn, MayYield, after_yield, MayRest}
use Rattle.sk_machine.specs.Invariant.{IsAt, IsOut, HoldsKept, FitsUpdater, IsSound, coarse_updater, stage_of, coarse_of}
use Rattle.sk_machine.specs.declared.states.Mark.TheVariants.{Neither}
use Rattle.sk_machine.specs.declared.states.Progress.{Progress}
use Rattle.sk_machine.specs.declared.states.Progress.TheVariants.{Idle, Found, Holding, Published, Put}
use Rattle.sk_machine.specs.declared.views.Stage.{Stage}
use Rattle.sk_machine.specs.declared.views.Stage.TheVariants as stages
use Rattle.sk_machine.proofs.Numbered.{put_here, put_else, each_put}
use Rattle.sk_machine.proofs.Coarse.{finds, publishes, gives_back, turns, yields, waiting_free, closed_at}
use Rattle.sk_machine.proofs.Sound.{if_equal, neither_of, neither_swapped, unswapped, at_of, meets_with, fits_elsewhere, behind_updater}

abbrev number_of : Progress → ℕ
number_of Idle = 0
number_of (Found k) = k
number_of (Holding k) = k
number_of (Published k) = k
number_of (Put k) = k

put_is : {i j : ℕ} → Put i ≡ Put j → i ≡ j
put_is e = ap number_of e

idle_put : {j : ℕ} → Idle ≡ Put j → ⊥
idle_put e = cc

found_put : {i j : ℕ} → Found i ≡ Put j → ⊥
found_put e = cc

holding_put : {i j : ℕ} → Holding i ≡ Put j → ⊥
holding_put e = cc

published_put : {i j : ℕ} → Published i ≡ Put j → ⊥
published_put e = cc

module _ (hint packed : List Entry → ℕ) (f : Fine) where
  abbrev stage : Stage
  stage = stage_of f.updaters f.in_hand f.progress

  -- the propagator continues, and an updater changes of which all that was handed over stays
  moves : (i : ℕ) (u : FineUpdater) (p : Progress) (in_hand : List ℕ) → IsSound hint packed f → i < f.n → MayRest p ⊎ (f.turn ≢ 0)
      → Meets hint f.n (coarse_of (record (with_updater i u f) { progress = p; in_hand = in_hand })) → ((j : ℕ) → j ≢ i → (¬ IsOut f.progress j) × (¬ IsOut p j) × (p ≡ Put j → ⊥))
      → FitsUpdater hint p f.offers i u → Begins (f.updaters i).handed u.handed → IsSound hint packed (record (with_updater i u f) { progress = p; in_hand = in_hand })
  moves i u p in_hand ok inside rest meets apart fits handed = record {
    coarse = meets;
    fits = record {
      word = ok.fits.word;
      free = λ z. ⊎_elim (λ r. r) (λ led. absurd (led z)) rest;
      each = λ j near. each_put (FitsUpdater hint p f.offers) f.updaters i u j fits (λ ne. let a = apart j ne in fits_elsewhere hint f.progress p f.offers f.offers j (f.updaters j) a.0 a.1 a.2 (omega arith) (ok.fits.each j near));
      tokens = λ t made live. let o = behind_updater f i u (f.tokens t) inside handed (ok.fits.tokens t made live) in record { seen = o.seen; known = o.known };
    };
  }

  -- the propagator is at an updater: there are the turn, and a word of 0
  pub at_updater : (i : ℕ) → IsSound hint packed f → IsAt f.progress i → (i < f.n) × ((f.updaters i).word ≡ 0)
  at_updater i ok at =
      let here = at_of f.updaters f.in_hand f.progress i at in let inside = ok.coarse.stage_at i here in
      (inside, closed_at hint (f.updaters i).size f.published stage i (coarse_updater (f.updaters i)) (ok.coarse.each i inside) here)

  led : IsSound hint packed f → ¬ MayRest f.progress → f.turn ≢ 0
  led ok busy z = busy (ok.fits.free z)

  unmarked : (i : ℕ) → IsSound hint packed f → IsAt f.progress i → (f.updaters i).mark ≡ Neither
  unmarked i ok at = let here = at_updater i ok at in neither_of (f.updaters i).mark ((ok.coarse.each i here.0).closed_ready here.1)

  pub finds_one : (i : ℕ) → IsSound hint packed f → MayFind i f → (f.updaters i).word ≡ 0 → IsSound hint packed (record f { progress = Found i })
  finds_one i ok may found = record {
    coarse = finds hint f.n (coarse_of f) i ok.coarse may.0 (ap (stage_of f.updaters f.in_hand) may.1) found;
    fits = record {
      word = ok.fits.word;
      free = λ z. absurd (may.2 z);
      each = λ j near. fits_elsewhere hint f.progress (Found i) f.offers f.offers j (f.updaters j) (λ out. subst (λ p. IsOut p j) may.1 out) (λ out. out) found_put (omega arith) (ok.fits.each j near);
      tokens = λ t made live. let o = ok.fits.tokens t made live in record { seen = o.seen; known = o.known };
    };
  }

  pub looks_for : (i : ℕ) → IsSound hint packed f → MayFind i f → IsSound hint packed (after_find i f)
  looks_for i ok may = if_equal (IsSound hint packed) (f.updaters i).word 0 (record f { progress = Found i }) f (λ found. finds_one i ok may found) (λ _. ok)

  -- a list in the slot of an updater that has not swapped is none of what it holds
  holds_other : (u : FineUpdater) (slot : List ℕ) (home : Bool) → u.mark ≡ Neither → HoldsKept u → HoldsKept (record u { slot = slot; home = home })
  holds_other u slot home mark o = record {
    kept = o.kept ∙ ap (λ l. u.handed ++ l ++ u.fill) (unswapped u.mark u.slot (neither_swapped u.mark mark) ∙ sym (unswapped u.mark slot (neither_swapped u.mark mark)));
    fill = o.fill;
    swapped = λ s. absurd (neither_swapped u.mark mark s);
    vacant = o.vacant;
  }

  pub takes : (i : ℕ) → IsSound hint packed f → MayTake i f → IsSound hint packed (after_take i f)
  takes i ok may =
      let u = f.updaters i in let at : IsAt f.progress i = subst (λ p. IsAt p i) (sym may) refl in let here = at_updater i ok at in let o = ok.fits.each i here.0 in
      let same : stage ≡ stages.Busy i u.slot = ap (stage_of f.updaters f.in_hand) may in
      let c = subst (λ (s : Stage). (j : ℕ) → j < f.n → MeetsUpdater hint (f.updaters j).size f.published s j (coarse_updater (f.updaters j))) same ok.coarse.each in
      moves i (record u { slot = []; home = false }) (Holding i) u.slot ok here.0 (inl tt)
      (meets_with hint f.n f.published (stages.Busy i u.slot) f.turn f.updaters i (record u { slot = []; home = false }) ok.coarse.entries (λ j e. subst (λ k. k < f.n) e here.0) ok.coarse.turn_within (λ _. tt)
      (waiting_free hint u.size f.published (stages.Busy i u.slot) i (coarse_updater u) [] (c i here.0) (λ _. refl)) (λ j near _. c j near))
      (λ j ne. ((λ out. subst (λ p. IsOut p j) may out), (λ out. ne (sym out)), holding_put))
      (record {
        items = o.items;
        holds = holds_other u [] false (unmarked i ok at) o.holds;
        hint_is = o.hint_is;
        counted = o.counted;
        home = λ at_home. absurd (at_home refl);
        out = λ _. refl;
        empty = λ w. absurd (w here.1);
        laid = λ is. absurd (holding_put is);
      })
      (begins_refl u.handed)

  pub publishes_one : (i : ℕ) → IsSound hint packed f → MayPublish i f → IsSound hint packed (after_publish packed i f)
  publishes_one i ok may = record {
    coarse = publishes hint f.n (coarse_of f) i f.in_hand ok.coarse may.1 (ap (stage_of f.updaters f.in_hand) may.0);
    fits = record {
      word = refl;
      free = λ z. absurd (may.1 z);
      each = λ j near. let o = subst (λ (p : Progress). FitsUpdater hint p f.offers j (f.updaters j)) may.0 (ok.fits.each j near) in record {
        items = o.items;
        holds = o.holds;
        hint_is = o.hint_is;
        counted = o.counted;
        home = o.home;
        out = o.out;
        empty = o.empty;
        laid = λ is. absurd (published_put is);
      };
      tokens = λ t made live. let o = ok.fits.tokens t made live in record {
        seen = begins_trans _ _ _ o.seen (begins_append f.published (tagged i f.in_hand));
        known = o.known;
      };
    };
  }

  pub puts : (i : ℕ) → IsSound hint packed f → MayPut i f → IsSound hint packed (after_put i f)
  puts i ok may =
      let u = f.updaters i in let at : IsAt f.progress i = subst (λ p. IsAt p i) (sym may) refl in let here = at_updater i ok at in let o = ok.fits.each i here.0 in
      let turn : f.turn ≢ 0 = led ok (λ r. subst MayRest may r) in
      let same : stage ≡ stages.Published i = ap (stage_of f.updaters f.in_hand) may in
      let c = subst (λ (s : Stage). (j : ℕ) → j < f.n → MeetsUpdater hint (f.updaters j).size f.published s j (coarse_updater (f.updaters j))) same ok.coarse.each in
      moves i (record u { slot = []; home = true }) (Put i) f.in_hand ok here.0 (inr turn)
      (meets_with hint f.n f.published (stages.Published i) f.turn f.updaters i (record u { slot = []; home = true }) ok.coarse.entries (λ j e. subst (λ k. k < f.n) e here.0) ok.coarse.turn_within (λ z. absurd (turn z))
      (waiting_free hint u.size f.published (stages.Published i) i (coarse_updater u) [] (c i here.0) (λ _. refl)) (λ j near _. c j near))
      (λ j ne. ((λ out. ne (sym (subst (λ p. IsOut p j) may out))), (λ out. out), λ is. ne (sym (put_is is))))
      (record {
        items = o.items;
        holds = holds_other u [] true (unmarked i ok at) o.holds;
        hint_is = o.hint_is;
        counted = o.counted;
        home = λ _. refl;
        out = λ out. absurd out;
        empty = λ w. absurd (w here.1);
        laid = λ _. refl;
      })
      (begins_refl u.handed)

  pub returns_one : (i : ℕ) → IsSound hint packed f → MayReturn i f → hint f.published ≢ 0 → IsSound hint packed (after_return hint i f)
  returns_one i ok may some =
      let u = f.updaters i in let at : IsAt f.progress i = subst (λ p. IsAt p i) (sym may) refl in let here = at_updater i ok at in let o = ok.fits.each i here.0 in
      let u' : FineUpdater = record u { word = hint f.published; given = f.published } in
      let same : stage ≡ stages.Published i = ap (stage_of f.updaters f.in_hand) may in
      let g = (gives_back hint f.n (coarse_of f) i (hint f.published) ok.coarse same refl some).each in
      let given : CoarseUpdater = coarse_updater u' in
      moves i u' Idle f.in_hand ok here.0 (inl tt)
      (meets_with hint f.n f.published stages.Idle f.turn f.updaters i u' ok.coarse.entries (λ j e. absurd e) ok.coarse.turn_within (λ _. tt)
      (subst (MeetsUpdater hint u.size f.published stages.Idle i) (put_here (λ j. coarse_updater (f.updaters j)) i given) (g i here.0))
      (λ j near ne. subst (MeetsUpdater hint (f.updaters j).size f.published stages.Idle j) (put_else (λ k. coarse_updater (f.updaters k)) i given j ne) (g j near)))
      (λ j ne. ((λ out. subst (λ p. IsOut p j) may out), (λ out. out), idle_put))
      (record {
        items = o.items;
        holds = record { kept = o.holds.kept; fill = o.holds.fill; swapped = o.holds.swapped; vacant = o.holds.vacant };
        hint_is = o.hint_is;
        counted = o.counted;
        home = λ _. o.home (λ out. subst (λ p. IsOut p i) may out);
        out = λ out. absurd out;
        empty = λ _ _. o.laid may;
        laid = λ is. absurd (idle_put is);
      })
      (begins_refl u.handed)

  -- ---- the turn

  abbrev with_turn : ℕ → Fine
  with_turn turn = record f { turn = turn }

  turned : (turn : ℕ) → IsSound hint packed f → Meets hint f.n (coarse_of (with_turn turn)) → (turn ≡ 0 → MayRest f.progress) → IsSound hint packed (with_turn turn)
  turned turn ok meets free = record {
    coarse = meets;
    fits = record {
      word = ok.fits.word;
      free = free;
      each = ok.fits.each;
      tokens = λ t made live. let o = ok.fits.tokens t made live in record { seen = o.seen; known = o.known };
    };
  }

  pub turns_to : (s : ℕ) → IsSound hint packed f → MayTurn s f → IsSound hint packed (after_turn s f)
  turns_to s ok may = if_equal (IsSound hint packed) f.turn 0 (with_turn (s + 1)) f (λ _. turned (s + 1) ok (turns hint f.n (coarse_of f) s ok.coarse may.0) (λ z. absurd (omega arith))) (λ _. ok)

  rests_of : (updaters : ℕ → FineUpdater) (in_hand : List ℕ) (p : Progress) → MayRest p → coarse.MayRest (stage_of updaters in_hand p)
  rests_of updaters in_hand Idle r = tt
  rests_of updaters in_hand (Found k) r = absurd r
  rests_of updaters in_hand (Holding k) r = tt
  rests_of updaters in_hand (Published k) r = absurd r
  rests_of updaters in_hand (Put k) r = absurd r

  pub yields_it : (s : ℕ) → IsSound hint packed f → MayYield s f → IsSound hint packed (after_yield f)
  yields_it s ok may = turned 0 ok (yields hint f.n (coarse_of f) ok.coarse (rests_of f.updaters f.in_hand f.progress may.1)) (λ _. may.1)
