-- Each event that is enabled keeps the invariant, and so do runs.
use Rattle.std.proofs.Common.{◌≡◌, ℕ, ◌<◌, ◌≤◌, List, [], ◌∷◌, ◌++◌, Result, Ok, Err, OnOk, OnErr, IfOk, arith, refl, sym, ap, ◌∙◌, subst, cond, lt-ltb, le-ltb}
use mathlib.Core.Logic.{dite}
use native.Mathlib.Decide.{dec_le}
use Rattle.sk_model.specs.Entries.{items_of_entries}
use Rattle.sk_model.proofs.Entries.{items_append}
use Rattle.sk_model.proofs.Sketch.{theta_within}
use Rattle.sk_machine.specs.Fine.{Fine}
use Rattle.sk_machine.specs.Invariant.{IsSound}
use Rattle.sk_machine.proofs.Sound.{items_of_begin}
use Rattle.sk_machine.proofs.Updaters.{offers, looks, swaps, hands, admits}
use Rattle.sk_machine.proofs.Propagator.{looks_for, takes, publishes_one, puts, returns_one, turns_to, yields_it}
use Rattle.sk_machine.proofs.Tokens.{asks, splits, notes, joins}
use Rattle.sk_machine.proofs.Parts.{eight_parts, lacks_of_token, lacks_kept}
use Rattle.sk_core.specs.Stored.{Stored, machine_of, hint_by, word_by, IsStored}
use Rattle.sk_core.specs.Events.{IsEnabled, after, answer_of, Plays}
use Rattle.sk_core.specs.Runs.{MeetsAll, IsRelaxedReply, IsFilteredByHint, IsStep, IsRun}
use Rattle.sk_core.specs.declared.event.Event.{Event}
use Rattle.sk_core.specs.declared.event.Event.TheVariants.{Offer, Look, Swap, Hand, Find, Take, Publish, Put, GiveBack, Ask, Split, Note, Join, Turn, YieldTurn, Admit}
use Rattle.sk_core.specs.declared.event.Answer.{Answer}
use Rattle.sk_core.specs.declared.event.Answer.TheVariants as answers
use Rattle.sk_core.specs.declared.event.NotEnabled.{NotEnabled}
use Rattle.sk_core.proofs.Machine.{items_of, hint_positive}
use Rattle.sk_model.specs.Width.{item_end, AreItems}

module _ (k : ℕ) (two : 2 ≤ k) (f : Fine) (ok : IsSound (hint_by k) (word_by k) f) where
  -- a hint is at most the end of the items
  hint_most : (i : ℕ) → i < f.n → (f.updaters i).hint ≤ item_end
  hint_most i near =
      let u = f.updaters i in let c = ok.coarse.each i near in
      let all : AreItems (items_of_entries f.published) = items_of f.n f.published ok.coarse.entries in
      let given : AreItems (items_of_entries u.given) = items_of_begin (items_of_entries u.given) (items_of_entries c.given_is.0) (subst AreItems (ap items_of_entries c.given_is.1 ∙ items_append u.given c.given_is.0) all) in
      let base : AreItems (items_of_entries u.base) = items_of_begin (items_of_entries u.base) (items_of_entries c.base_is.0) (subst AreItems (ap items_of_entries c.base_is.1 ∙ items_append u.base c.base_is.0) given) in
      subst (λ h. h ≤ item_end) (sym (ok.fits.each i near).hint_is) (theta_within k (items_of_entries u.base) base)

  pub event_keeps : (e : Event) → IsEnabled e f → IsSound (hint_by k) (word_by k) (after k e f)
  event_keeps (Offer i x) may = offers (hint_by k) (word_by k) f i x ok may (λ below. let end = hint_most i may.0.0 in omega arith)
  event_keeps (Look i) may = looks (hint_by k) (word_by k) f i ok may
  event_keeps (Swap i) may = swaps (hint_by k) (word_by k) f i ok may
  event_keeps (Hand i) may = hands (hint_by k) (word_by k) f i ok may
  event_keeps (Find i) may = looks_for (hint_by k) (word_by k) f i ok may
  event_keeps (Take i) may = takes (hint_by k) (word_by k) f i ok may
  event_keeps (Publish i) may = publishes_one (hint_by k) (word_by k) f i ok may
  event_keeps (Put i) may = puts (hint_by k) (word_by k) f i ok may
  event_keeps (GiveBack i) may = returns_one (hint_by k) (word_by k) f i ok may (hint_positive k f.published two)
  event_keeps (Ask t) may = asks (hint_by k) (word_by k) f t ok may
  event_keeps (Split t) may = splits (hint_by k) (word_by k) f t ok may
  event_keeps (Note i) may = notes (hint_by k) (word_by k) f i ok may
  event_keeps (Join t other) may = joins (hint_by k) (word_by k) f t other ok may
  event_keeps (Turn s) may = turns_to (hint_by k) (word_by k) f s ok may
  event_keeps (YieldTurn s) may = yields_it (hint_by k) (word_by k) f s ok may
  event_keeps (Admit i b) may = admits (hint_by k) (word_by k) f i b ok may

  pub relaxed : (t : ℕ) → IsEnabled (Ask t) f → IsRelaxedReply k t f (answer_of k (Ask t) f)
  relaxed t live = record {
    estimate = refl;
    seen = (ok.fits.tokens t live.0 live.1).seen;
    known = λ i near. lacks_of_token (hint_by k) (word_by k) f t i ok live.0 live.1 near;
    kept = λ i near. lacks_kept (hint_by k) (word_by k) f i ok near;
  }

  kept_filtered : answers.Kept ≡ answers.Filtered → ⊥
  kept_filtered e = cc

  pub filtered : (i item : ℕ) → IsEnabled (Offer i item) f → IsFilteredByHint k i item f (answer_of k (Offer i item) f)
  filtered i item may =
      let u = f.updaters i in let is = (ok.fits.each i may.0.0).hint_is in dite (dec_le u.hint item)
      (λ le. ((λ _. subst (λ h. h ≤ item) is le), λ _. ap (λ c. cond c answers.Kept answers.Filtered) (le-ltb item u.hint le)))
      (λ gt. let lt : item < u.hint = omega arith in (
        (λ e. absurd (kept_filtered (sym (ap (λ c. cond c answers.Kept answers.Filtered) (lt-ltb item u.hint lt)) ∙ e))),
        (λ idle. let below : u.hint ≤ item = subst (λ h. h ≤ item) (sym is) idle in absurd (omega arith)),
      ))

  event_of_ask : (e : Event) (answer : Answer) → answer ≡ answer_of k e f → IsEnabled e f → (t : ℕ) → e ≡ Ask t → IsRelaxedReply k t f answer
  event_of_ask e answer is may t same =
      subst (IsRelaxedReply k t f) (sym (is ∙ ap (λ x. answer_of k x f) same)) (relaxed t (subst (λ (x : Event). IsEnabled x f) same may))

  event_of_offer : (e : Event) (answer : Answer) → answer ≡ answer_of k e f → IsEnabled e f → (i item : ℕ) → e ≡ Offer i item → IsFilteredByHint k i item f answer
  event_of_offer e answer is may i item same =
      subst (IsFilteredByHint k i item f) (sym (is ∙ ap (λ x. answer_of k x f) same)) (filtered i item (subst (λ (x : Event). IsEnabled x f) same may))

  pub steps : (e : Event) (answer : Answer) → answer ≡ answer_of k e f → IsEnabled e f → IsStep k f e answer
  steps e answer is may = record {
    invariant = eight_parts (hint_by k) (word_by k) f ok;
    enabled = may;
    answer_is = is;
    asks = event_of_ask e answer is may;
    offers = event_of_offer e answer is may;
  }

-- one event more
pub run_more : (k : ℕ) (es : List Event) (said : List Answer) (from to : Fine) (e : Event) (a : Answer) → IsRun k es said from to → IsStep k to e a → IsRun k (es ++ e ∷ []) (said ++ a ∷ []) from (after k e to)
unfolding IsRun
run_more k [] [] from to e a run step = (subst (λ (f : Fine). IsStep k f e a) run step, ap (after k e) run)
run_more k [] (b ∷ said) from to e a run step = absurd run
run_more k (d ∷ es) [] from to e a run step = absurd run
run_more k (d ∷ es) (b ∷ said) from to e a run step = (run.0, run_more k es said (after k d from) to e a run.1 step)

pub run_empty : (k : ℕ) (f : Fine) → IsRun k [] [] f f
unfolding IsRun
run_empty k f = refl

-- ---- what a call says of one event

pub is_enabled : (e : Event) (old new : Stored) (r : Result Answer NotEnabled) → Plays e old new r → OnOk r (IsEnabled e (machine_of old))
is_enabled e old new (Ok a) p = p.enabled
is_enabled e old new (Err x) p = tt

pub is_answered : (e : Event) (old new : Stored) (r : Result Answer NotEnabled) → Plays e old new r → IfOk r (λ a. a ≡ answer_of old.k e (machine_of old))
is_answered e old new (Ok a) p = p.answer_is
is_answered e old new (Err x) p = tt

pub is_after : (e : Event) (old new : Stored) (r : Result Answer NotEnabled) → Plays e old new r → OnOk r (machine_of new ≡ after old.k e (machine_of old))
is_after e old new (Ok a) p = p.machine
is_after e old new (Err x) p = tt

pub same_sketch : (e : Event) (old new : Stored) (r : Result Answer NotEnabled) → Plays e old new r → new.k ≡ old.k
same_sketch e old new (Ok a) p = p.sketch
same_sketch e old new (Err x) p = ap (λ (s : Stored). s.k) p.unchanged

pub is_refused : (e : Event) (old new : Stored) (r : Result Answer NotEnabled) → Plays e old new r → OnErr r (¬ IsEnabled e (machine_of old))
is_refused e old new (Ok a) p = tt
is_refused e old new (Err x) p = p.disabled

pub is_unchanged : (e : Event) (old new : Stored) (r : Result Answer NotEnabled) → Plays e old new r → OnErr r (new ≡ old)
is_unchanged e old new (Ok a) p = tt
is_unchanged e old new (Err x) p = p.unchanged

pub is_step : (e : Event) (old new : Stored) (r : Result Answer NotEnabled) → IsStored old → Plays e old new r → IfOk r (IsStep old.k (machine_of old) e)
is_step e old new (Ok a) ok p = steps old.k ok.least (machine_of old) ok.sound e a p.answer_is p.enabled
is_step e old new (Err x) ok p = tt

pub still_meets : (e : Event) (old new : Stored) (r : Result Answer NotEnabled) → IsStored old → Plays e old new r → MeetsAll new.k (machine_of new)
still_meets e old new (Ok a) ok p = eight_parts (hint_by new.k) (word_by new.k) (machine_of new)
    (subst (λ (x : ℕ × Fine). IsSound (hint_by x.0) (word_by x.0) x.1) (λ j. (sym p.sketch j, sym p.machine j)) (event_keeps old.k ok.least (machine_of old) ok.sound e p.enabled))
still_meets e old new (Err x) ok p = subst (λ (s : Stored). MeetsAll s.k (machine_of s)) (sym p.unchanged) (eight_parts (hint_by old.k) (word_by old.k) (machine_of old) ok.sound)
