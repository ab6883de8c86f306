-- What the steps of whoever propagates lead to, one after another.
use Rattle.std.proofs.Common.{◌≡◌, ◌≢◌, ℕ, ◌+◌, ◌<◌, List, ◌++◌, ◌∷◌, [], length, refl, ap, sym, ◌∙◌, subst, append_assoc, append-nil, add-one, inl, inr, set, length-set, get_or-set_same, get_or-set_other, arith}
use mathlib.Core.Logic.{dite}
use native.Mathlib.Decide.{ℕ_discrete}
use Rattle.std.specs.Prelude.{slice_index, IfOk, IfErr, Result, Ok, Err}
use Rattle.sk_model.specs.Entries.{Entry, tagged}
use Rattle.sk_model.specs.Missing.{Begins}
use Rattle.sk_model.proofs.Missing.{begins_trans, begins_refl}
use Rattle.sk_machine.specs.declared.views.Move.{Move}
use Rattle.sk_machine.specs.declared.views.Move.TheVariants.{Find, Publish, GiveBack, Ask, Turn, Yield}
use Rattle.sk_machine.specs.declared.views.Stage.{Stage}
use Rattle.sk_machine.specs.declared.views.Stage.TheVariants.{Idle, Busy, Published}
use Rattle.sk_machine.specs.declared.views.Duty.{Duty}
use Rattle.sk_machine.specs.declared.views.Duty.TheVariants.{Free}
use Rattle.sk_machine.specs.declared.views.View.{View}
use Rattle.sk_gate.specs.Views.{size_of, batch_of, stage_in}
use Rattle.sk_gate.specs.Moves.{IsSeen, AsksAt, FindsBatchAt, LeavesAt, LearnsSize, TakesTurnAt, YieldsAt}
use Rattle.sk_gate.specs.Merge.{MergesAt}
use Rattle.sk_hub.specs.Rounds.{Advances, TakesTurn, KnowsAsMuch, PublishesBatch, FinishesHeld, FindsInVain, ServesOne, ServesEach, Serves, Refuses, RefusesFound, IsElsewhere, TriesTheTurn}
use Rattle.sk_hub.specs.Turns.{RefusesAfter}
use Rattle.sk_hub.proofs.Views.{seen_again}

-- a step that changes no more than what a propagator's may
only_these : (v w : View) (seen : List Entry) (steps : List Move) (duty : Duty) (given : List (List Entry)) (sizes : List ℕ) → w ≡ record v { seen = seen; steps = steps; duty = duty; given = given; sizes = sizes }
    → w ≡ record v { seen = w.seen; steps = steps; duty = w.duty; given = w.given; sizes = w.sizes }
only_these v w seen steps duty given sizes e = e ∙ λ a. let x : View = sym e a in record v { seen = x.seen; steps = steps; duty = x.duty; given = x.given; sizes = x.sizes }

pub advances_trans : (u v w : View) (xs ys : List Move) → Advances u xs v → Advances v ys w → Advances u (xs ++ ys) w
advances_trans u v w xs ys a b = record {
  view = b.view
      ∙ (λ d. let x : View = a.view d in record x { seen = w.seen; steps = x.steps ++ ys; duty = w.duty; given = w.given; sizes = w.sizes })
      ∙ ap (λ l. record u { seen = w.seen; steps = l; duty = w.duty; given = w.given; sizes = w.sizes }) (append_assoc u.steps xs ys);
  grows = begins_trans _ _ _ a.grows b.grows;
  sees = λ s. b.sees (a.sees s);
  sized = b.sized ∙ a.sized;
  sizes_stay = λ i known. let same = a.sizes_stay i known in b.sizes_stay i (subst (λ z. z ≢ 0) (sym same) known) ∙ same;
}

-- where it sees no more
pub seen_stays : (v w : View) → w.seen ≡ v.seen → w.post ≡ v.post → length w.sizes ≡ length v.sizes → IsSeen v v.seen → IsSeen w w.seen
seen_stays v w same post sized s = seen_again v w w.seen post sized (subst (IsSeen v) (sym same) s)

-- a batch was merged: its publish, and the give_back of a hint that is not 0
publishes_batch : (hint packed : List ℕ → List Entry → ℕ) (v w : View) (i count : ℕ) → count ≡ length (batch_of v) → MergesAt hint packed v w i → IsSeen v w.seen → hint w.numbers w.seen ≢ 0
    → (steps : List Move) × PublishesBatch i count steps × Advances v steps w
publishes_batch hint packed v w i count count_is m seen lower =
    let list : List Entry = v.seen ++ tagged i (batch_of v) in
    let word : ℕ = packed v.numbers list in
    let told : ℕ = hint v.numbers list in
    let steps : List Move = Publish word (length (batch_of v)) ∷ GiveBack i told ∷ [] in
    let is : steps ≡ Publish word count ∷ GiveBack i told ∷ [] = ap (λ z. Publish word z ∷ GiveBack i told ∷ []) (sym count_is) in
    let lower' : told ≢ 0 = subst (λ (y : View). hint y.numbers y.seen ≢ 0) m lower in
    let advances : Advances v steps w = record {
      view = only_these v w _ _ _ _ _ m;
      grows = (tagged i (batch_of v), ap (λ x. x.seen) m);
      sees = λ _. seen_again v w w.seen (ap (λ x. x.post) m) (ap (λ x. length x.sizes) m) seen;
      sized = ap (λ x. length x.sizes) m;
      sizes_stay = λ j _. ap (λ x. size_of x j) m;
    } in
    (steps, (word, told, lower', is), advances)

pub publishes_if : {E : Type 0} (hint packed : List ℕ → List Entry → ℕ) (v w : View) (i : ℕ) (r : Result ℕ E) → IfOk r (λ count. count ≡ length (batch_of v)) → IfOk r (λ _. MergesAt hint packed v w i) → IfOk r (λ _. IsSeen v w.seen) → IfOk r (λ _. hint w.numbers w.seen ≢ 0)
    → IfOk r (λ count. (steps : List Move) × PublishesBatch i count steps × Advances v steps w)
publishes_if hint packed v w i (Ok count) count_is m seen lower = publishes_batch hint packed v w i count count_is m seen lower
publishes_if hint packed v w i (Err e) count_is m seen lower = tt

-- a size that was learnt leaves those that were known
sizes_learnt : (sizes : List ℕ) (i b : ℕ) → i < length sizes → (slice_index sizes i ≢ 0 → b ≡ slice_index sizes i) → (j : ℕ) → slice_index sizes j ≢ 0 → slice_index (set sizes i b) j ≡ slice_index sizes j
sizes_learnt sizes i b within same j known = dite (ℕ_discrete j i)
    (λ e. ap (slice_index (set sizes i b)) e ∙ get_or-set_same sizes i b 0 within ∙ same (subst (λ z. slice_index sizes z ≢ 0) e known) ∙ ap (slice_index sizes) (sym e))
    (λ ne. get_or-set_other sizes i j b 0 ne)

-- a batch was found
pub finds_batch : (v w : View) (i : ℕ) → i < length v.sizes → FindsBatchAt v w i → Advances v (Find i 0 ∷ []) w
finds_batch v w i within f =
    let e = f.view in
    let learnt : w.sizes ≡ set v.sizes i (size_of w i) = ap (λ x. x.sizes) e in record {
      view = only_these v w _ _ _ _ _ e;
      grows = subst (Begins v.seen) (sym (ap (λ x. x.seen) e)) (begins_refl v.seen);
      sees = seen_stays v w (ap (λ x. x.seen) e) (ap (λ x. x.post) e) (ap length learnt ∙ length-set v.sizes i (size_of w i));
      sized = ap length learnt ∙ length-set v.sizes i (size_of w i);
      sizes_stay = λ j known. ap (λ z. slice_index z j) learnt ∙ sizes_learnt v.sizes i (size_of w i) within f.same j known;
    }

-- a batch was found, taken, published and given back
pub serves_found : (v w w' x : View) (i count : ℕ) → Advances v (Find i 0 ∷ []) w → w' ≡ w → 0 < count → (steps : List Move) × PublishesBatch i count steps × Advances w' steps x → (steps : List Move) × ServesOne i count steps × Advances v steps x
serves_found v w w' x i count found same some (steps, published, advances) =
    let all : Find i 0 ∷ steps ≡ Find i 0 ∷ Publish published.0 count ∷ GiveBack i published.1 ∷ [] = ap (λ l. Find i 0 ∷ l) published.3 in
    (Find i 0 ∷ steps, inr (published.0, published.1, some, published.2, all), advances_trans v w x (Find i 0 ∷ []) steps found (subst (λ z. Advances z steps x) same advances))

pub serves_found_if : {E : Type 0} (v w w' x : View) (i : ℕ) (r : Result ℕ E) → Advances v (Find i 0 ∷ []) w → w' ≡ w → IfOk r (λ count. 0 < count) → IfOk r (λ count. (steps : List Move) × PublishesBatch i count steps × Advances w' steps x) → IfOk r (λ count. (steps : List Move) × ServesOne i count steps × Advances v steps x)
serves_found_if v w w' x i (Ok count) found same some served = serves_found v w w' x i count found same some served
serves_found_if v w w' x i (Err e) found same some served = tt

pub advances_none : (v : View) → Advances v [] v
advances_none v = record {
  view = ap (λ l. record v { steps = l }) (sym (append-nil v.steps));
  grows = begins_refl v.seen;
  sees = λ s. s;
  sized = refl;
  sizes_stay = λ j _. refl;
}

-- ---- one updater after another

pub serves_none : (v : View) (from : ℕ) → (steps : List Move) × ServesEach from 0 0 steps × Advances v steps v
unfolding ServesEach
serves_none v from = ([], (refl, refl), advances_none v)

pub serves_more : (u v w : View) (from served count more : ℕ) → (steps : List Move) × ServesEach from served count steps × Advances u steps v → (steps : List Move) × ServesOne (from + served) more steps × Advances v steps w
    → (steps : List Move) × ServesEach from (served + 1) (count + more) steps × Advances u steps w
unfolding ServesEach
serves_more u v w from served count more (before, serves, advances) (now, one, further) =
    (before ++ now, rw add-one (count, more, before, now, refl, refl, serves, one), advances_trans u v w before now advances further)

-- ---- a turn

sizes_resumed : (v w : View) (stage : Stage) → LearnsSize v w stage → (length w.sizes ≡ length v.sizes) × ((j : ℕ) → size_of v j ≢ 0 → size_of w j ≡ size_of v j)
sizes_resumed v w Idle r = (ap length r, λ j _. ap (λ z. slice_index z j) r)
sizes_resumed v w (Busy i batch) r = (ap length r.1 ∙ length-set v.sizes i (size_of w i), λ j known. ap (λ z. slice_index z j) r.1 ∙ sizes_learnt v.sizes i (size_of w i) r.0 r.2 j known)
sizes_resumed v w (Published i) r = absurd r

starts : (v w : View) → TakesTurnAt v w → Advances v (Turn 0 ∷ []) w
starts v w t = let sizes = sizes_resumed v w (stage_in w.duty) t.learns in record {
  view = only_these v w _ _ _ _ _ t.view;
  grows = t.grows;
  sees = λ _. seen_again v w w.seen (ap (λ x. x.post) t.view) sizes.0 t.is_seen;
  sized = sizes.0;
  sizes_stay = sizes.1;
}

ends : (v w : View) → YieldsAt v w → Advances v (Yield ∷ []) w
ends v w e = record {
  view = only_these v w _ _ _ _ _ e;
  grows = subst (Begins v.seen) (sym (ap (λ x. x.seen) e)) (begins_refl v.seen);
  sees = seen_stays v w (ap (λ x. x.seen) e) (ap (λ x. x.post) e) (ap (λ x. length x.sizes) e);
  sized = ap (λ x. length x.sizes) e;
  sizes_stay = λ j _. ap (λ x. size_of x j) e;
}

leaves : (v w : View) (i : ℕ) → LeavesAt v w i → Advances v (Find i 0 ∷ []) w
leaves v w i e = record {
  view = only_these v w _ _ _ _ _ e;
  grows = subst (Begins v.seen) (sym (ap (λ x. x.seen) e)) (begins_refl v.seen);
  sees = seen_stays v w (ap (λ x. x.seen) e) (ap (λ x. x.post) e) (ap (λ x. length x.sizes) e);
  sized = ap (λ x. length x.sizes) e;
  sizes_stay = λ j _. ap (λ x. size_of x j) e;
}

-- a turn, the trunk lifted, steps, the trunk laid, and a yield
pub takes_turn : (v a a' z z' w : View) (steps : List Move) → v.duty ≡ Free → TakesTurnAt v a → a' ≡ a → Advances a' steps z → z' ≡ z → YieldsAt z' w → TakesTurn v steps w
takes_turn v a a' z z' w steps free t lifted advances laid y =
    let middle = advances_trans v a z (Turn 0 ∷ []) steps (starts v a t) (subst (λ x. Advances x steps z) lifted advances) in record {
      advances = advances_trans v z w (Turn 0 ∷ steps) (Yield ∷ []) middle (subst (λ x. Advances x (Yield ∷ []) w) laid (ends z' w y));
      duty = ap (λ x. x.duty) y ∙ sym free;
    }

-- each was served
pub serves_all : (v a a' b z z' w : View) (from n held found : ℕ) → v.duty ≡ Free → TakesTurnAt v a → a' ≡ a → (steps : List Move) × FinishesHeld held steps × Advances a' steps b
    → (steps : List Move) × ServesEach from n found steps × Advances b steps z → z' ≡ z → YieldsAt z' w → Serves v from n held found w
serves_all v a a' b z z' w from n held found free t lifted (finishing, finishes, first) (finding, finds, second) laid y = record {
  finishing = finishing;
  finding = finding;
  finishes = finishes;
  finds = finds;
  turn = takes_turn v a a' z z' w (finishing ++ finding) free t lifted (advances_trans a' b z finishing finding first second) laid y;
}

-- the batch of one of them was refused
pub refuses_found : (v a a' b z z' x w : View) (from n held i : ℕ) → v.duty ≡ Free → TakesTurnAt v a → a' ≡ a → (steps : List Move) × FinishesHeld held steps × Advances a' steps b
    → RefusesAfter b from n i z → z' ≡ z → LeavesAt z' x i → YieldsAt x w → Refuses v from n w
refuses_found v a a' b z z' x w from n held i free t lifted (finishing, finishes, first) r laid l y =
    let found : List Move = Find i 0 ∷ [] in let vain : List Move = Find i 0 ∷ Find i 0 ∷ [] in
    let second = advances_trans b z x (r.steps ++ found) found r.advances (subst (λ u. Advances u found x) laid (leaves z' x i l)) in
    let all = advances_trans a' b x finishing ((r.steps ++ found) ++ found) first second in
    let order : finishing ++ ((r.steps ++ found) ++ found) ≡ (finishing ++ r.steps) ++ vain = ap (λ z. finishing ++ z) (append_assoc r.steps found found) ∙ sym (append_assoc finishing r.steps vain) in
    let place : vain ≡ FindsInVain (from + r.served) = ap FindsInVain r.place in
    let same : finishing ++ ((r.steps ++ found) ++ found) ≡ (finishing ++ r.steps) ++ FindsInVain (from + r.served) = order ∙ ap (λ z. (finishing ++ r.steps) ++ z) place in
    let refused : RefusesFound v from n w = record {
      held = held;
      found = r.count;
      served = r.served;
      finishing = finishing;
      finding = r.steps;
      within = r.within;
      finishes = finishes;
      finds = r.serves;
      turn = takes_turn v a a' x x w ((finishing ++ r.steps) ++ FindsInVain (from + r.served)) free t lifted (subst (λ s. Advances a' s x) same all) refl y;
    } in
    inr refused

-- of a result that is no error
pub ok_fact : {A E : Type 0} {P : Type 0} (r : Result A E) → IfOk r (λ _. P) → ((e : E) → r ≡ Err e → ⊥) → P
ok_fact (Ok x) fact none = fact
ok_fact (Err e) fact none = absurd (none e refl)

-- of a result that is no success
pub err_fact : {A E : Type 0} {P : Type 0} (r : Result A E) → IfErr r (λ _. P) → ((a : A) → r ≡ Ok a → ⊥) → P
err_fact (Ok x) fact none = absurd (none x refl)
err_fact (Err e) fact none = fact

-- ---- what a call that propagates leaves

pub knows_by : (v w : View) (steps : List Move) → TakesTurn v steps w → KnowsAsMuch v w
knows_by v w steps t = let a = t.advances in record {
  view = a.view ∙ λ d. record v { seen = w.seen; steps = (sym a.view d).steps; duty = ((ap (λ x. x.duty) (sym a.view) ∙ t.duty) d); given = w.given; sizes = w.sizes };
  grows = a.grows;
  later = (Turn 0 ∷ steps ++ Yield ∷ [], ap (λ x. x.steps) a.view);
  sees = a.sees;
  sized = a.sized;
  sizes_stay = a.sizes_stay;
}

pub serves_knows : (v w : View) (from n held found : ℕ) → Serves v from n held found w → KnowsAsMuch v w
serves_knows v w from n held found s = knows_by v w (s.finishing ++ s.finding) s.turn

pub refuses_knows : (v w : View) (from n : ℕ) → Refuses v from n w → KnowsAsMuch v w
refuses_knows v w from n (inl t) = knows_by v w [] t
refuses_knows v w from n (inr r) = knows_by v w ((r.finishing ++ r.finding) ++ FindsInVain (from + r.served)) r.turn

pub asks_knows : (packed : List ℕ → List Entry → ℕ) (v w : View) (word : ℕ) → AsksAt packed v word w → KnowsAsMuch v w
asks_knows packed v w word a = record {
  view = a.view ∙ λ d. let x : View = sym a.view d in record v { seen = w.seen; steps = x.steps; given = x.given; sizes = x.sizes };
  grows = a.grows;
  later = (Ask word ∷ [], ap (λ x. x.steps) a.view);
  sees = λ _. seen_again v w w.seen (ap (λ x. x.post) a.view) (ap (λ x. length x.sizes) a.view) a.is_seen;
  sized = ap (λ x. length x.sizes) a.view;
  sizes_stay = λ j _. ap (λ x. size_of x j) a.view;
}

-- ---- one updater alone

-- items of updater i were published, after those of a batch that was held; this many in all
abbrev pub ServesItems : View → ℕ → ℕ → View → Type 0
ServesItems v i count w = (held : ℕ) × (found : ℕ) × (0 < found) × (count ≡ held + found) × Serves v i 1 held found w

pub serves_nothing : (v w : View) (i held found : ℕ) → found ≡ 0 → Serves v i 1 held found w → (held' : ℕ) × Serves v i 1 held' 0 w
serves_nothing v w i held found none s = (held, subst (λ z. Serves v i 1 held z w) none s)

pub serves_batch : (v w : View) (i held found : ℕ) → found ≢ 0 → Serves v i 1 held found w → ServesItems v i (held + found) w
serves_batch v w i held found some s = (held, found, omega arith, refl, s)

-- ---- a turn, taken or found with another seat

pub turns_taken : (v w : View) (steps : List Move) → TakesTurn v steps w → TriesTheTurn v w
turns_taken v w steps t = inl (steps, t)

pub turns_elsewhere : (v w : View) (other : ℕ) → IsElsewhere v other w → TriesTheTurn v w
turns_elsewhere v w other e = inr (other, e)

pub serves_turns : (v w : View) (from n held found : ℕ) → Serves v from n held found w → TriesTheTurn v w
serves_turns v w from n held found s = inl (s.finishing ++ s.finding, s.turn)

pub refuses_turns : (v w : View) (from n : ℕ) → Refuses v from n w → TriesTheTurn v w
refuses_turns v w from n (inl t) = inl ([], t)
refuses_turns v w from n (inr r) = inl ((r.finishing ++ r.finding) ++ FindsInVain (from + r.served), r.turn)
