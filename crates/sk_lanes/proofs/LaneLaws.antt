-- Takers that are fed through rings.
use Rattle.std.proofs.Common.{◌≡◌, ◌≢◌, ⊎_elim, ℕ, ◌+◌, ◌<◌, ◌≤◌, List, [], ◌∷◌, ◌++◌, length, get_or, set, map, All, sym, ap, refl, ◌∙◌, subst, arith, length-append}
use Rattle.std.proofs.lemmas.Bool.{cases_lt}
use Rattle.std.proofs.lemmas.List.{length-map, length-set, get_or_append_left, get_or_push, get_or_read, get_or-set_same, get_or-set_other}
use Rattle.rtrb.specs.Ring.{IsPair, SameProducer, SameConsumer}
use Rattle.rtrb.specs.declared.consumer.Consumer.{Consumer}
use Rattle.rtrb.specs.declared.producer.Producer.{Producer}
use Rattle.sk_model.specs.Limits.{most_kept}
use Rattle.sk_feed.specs.declared.lane.Lane.{Lane}
use Rattle.sk_fill.specs.Windows.{all_lines}
use Rattle.sk_fill.specs.Stretches.{StretchState}
use Rattle.sk_feed.specs.Takings.{TakesOn}
use Rattle.sk_feed.specs.Deliveries.{windows_of, EndAt, IsNext, IsOpen}
use Rattle.sk_lanes.specs.Lanes.{AreOpen, AreBehind, AreBehindIfFed, HaveRun, HaveRunWith, Finishes, HaveFinished, TakeAll}
use Rattle.sk_lanes.specs.Rings.{Outlet, GaveEach, AllEnd}
use Rattle.sk_feed.proofs.Rounds.{of_images, ok_then, ok_gives}
use Rattle.sk_feed.proofs.DeliveryLaws.{windows_append, lines_one, took_both}

-- ---- lanes that are opened

nothing_ends : (n : ℕ) (A : Type 0) → EndAt [] n → A
nothing_ends n A end = let no : ⊥ = omega (arith, ap length end.2) in absurd no

-- any stretch comes first, if its lines are few enough
pub comes_first : (s : StretchState) → s.first + length (all_lines s.windows) ≤ most_kept → IsNext [] s
comes_first s few = record { begins = λ n end. nothing_ends n (s.first ≡ n) end; few = few }

-- what holds of all holds of the next one
pub next_of_all : {A : Type 0} (P : A → Type 0) (xs yielded rest : List A) (x : A) → yielded ++ x ∷ rest ≡ xs → All P xs → P x
next_of_all {A} P xs yielded rest x all each =
    let within : length yielded < length xs = omega (arith, ap length (sym all), length-append yielded (x ∷ rest)) in
    subst P (ap (λ l. get_or l (length yielded) x) (sym all) ∙ at yielded) (each (length yielded) x within)
  where
    at : (ys : List A) → get_or (ys ++ x ∷ rest) (length ys) x ≡ x
    at [] = refl
    at (y ∷ ys) = at ys

pub same_pair : {A P : Type 0} (p p' : Producer StretchState A P) (c c' : Consumer StretchState A P) → IsPair p c → SameProducer p p' → SameConsumer c c' → IsPair p' c'
same_pair p p' c c' pair producer consumer = (consumer.0.0 ∙ pair.0 ∙ sym producer.0.0, consumer.0.1 ∙ pair.1 ∙ sym producer.0.1, consumer.0.2 ∙ pair.2 ∙ sym producer.0.2, consumer.0.3 ∙ pair.3 ∙ sym producer.0.3)

module _ {T : Type 0} (at_most : T → ℕ → Type 0) where
  -- no taker has kept more than came before it
  pub open_behind : (first : StretchState) (lanes : List (Lane T)) (outlets : List Outlet) → AreOpen at_most first lanes outlets → AreBehind at_most lanes
  open_behind first lanes [] rings = λ i d within. let no : ⊥ = omega (arith, rings.count) in absurd no
  open_behind first lanes (o ∷ outlets) rings = λ i d within. (rings.each i d o within).up_to

  -- the rings end with it
  pub open_ends : (first : StretchState) (lanes : List (Lane T)) (outlets : List Outlet) (n : ℕ) → AreOpen at_most first lanes outlets → n ≡ first.first + length (all_lines first.windows) → AllEnd outlets n
  open_ends first [] outlets n rings is = λ i e within. let no : ⊥ = omega (arith, rings.count) in absurd no
  open_ends first (l ∷ lanes) outlets n rings is = λ i e within.
      let inside : i < length (l ∷ lanes) = omega (arith, rings.count) in
      subst (λ xs. EndAt xs n) (sym (rings.each i l e inside).given) (first, [], refl, omega (arith, is, lines_one first))

  pub no_rings : (first : StretchState) → AreOpen at_most first [] []
  no_rings first = record { count = refl; each = λ i d e within. let no : ⊥ = omega arith in absurd no }

  -- one ring more
  pub rings_more : (first : StretchState) (lanes : List (Lane T)) (outlets : List Outlet) (l : Lane T) (o : Outlet) → AreOpen at_most first lanes outlets → IsOpen at_most first o l.inlet l.taker → AreOpen at_most first (lanes ++ l ∷ []) (outlets ++ o ∷ [])
  rings_more first lanes outlets l o rings one = record {
    count = omega (arith, rings.count, length-append outlets (o ∷ []), length-append lanes (l ∷ []));
    each = λ i d e within. ⊎_elim
        (λ before.
        subst (λ z. IsOpen at_most first z (get_or (lanes ++ l ∷ []) i d).inlet (get_or (lanes ++ l ∷ []) i d).taker) (sym (get_or_append_left outlets (o ∷ []) e i (omega (arith, rings.count))))
        (subst (λ z. IsOpen at_most first (get_or outlets i e) z.inlet z.taker) (sym (get_or_append_left lanes (l ∷ []) d i before)) (rings.each i d e before)))
        (λ behind.
        let at : length lanes ≡ i = omega (arith, length-append lanes (l ∷ [])) in
        subst (λ z. IsOpen at_most first z (get_or (lanes ++ l ∷ []) i d).inlet (get_or (lanes ++ l ∷ []) i d).taker) (sym (get_or_push outlets o e i (rings.count ∙ at)))
        (subst (λ z. IsOpen at_most first o z.inlet z.taker) (sym (get_or_push lanes l d i at)) one))
        (cases_lt i (length lanes));
  }

  -- ---- once nothing more is given

  -- those for which memory was found took what came
  pub run_behind : (took : ℕ → ℕ → T → T → List (List (List ℕ)) → Type 0) (lanes lanes' : List (Lane T)) → HaveRun took at_most lanes lanes' → AreBehindIfFed at_most lanes'
  run_behind took lanes lanes' run = λ i d within. ok_then (get_or lanes' i d).fed (run.each i d (omega (arith, run.count))).taken (λ fed. fed.up_to)

module _ {T : Type 0} (took : ℕ → ℕ → T → T → List (List (List ℕ)) → Type 0) (at_most : T → ℕ → Type 0) (first : StretchState) (given : List StretchState) (lanes lanes' lanes'' : List (Lane T)) (os os' : List Outlet) (rings : AreOpen at_most first lanes os) (run : HaveRun took at_most lanes lanes') (gave : GaveEach os os' given) where
  pub run_pairs : (i : ℕ) (d : Lane T) (e : Outlet) → i < length lanes' → IsPair (get_or os' i e) (get_or lanes' i d).inlet
  run_pairs i d e within =
      let inside : i < length lanes = omega (arith, run.count) in
      same_pair (get_or os i e) (get_or os' i e) (get_or lanes i d).inlet (get_or lanes' i d).inlet (rings.each i d e inside).pair (gave.each i e (omega (arith, rings.count))).0 (run.each i d inside).ring

  -- a taker took all stretches that were given
  lane_took : (e : Outlet) → HaveFinished took at_most lanes' os' lanes'' → (i : ℕ) (d : Lane T) → i < length lanes → TakesOn (took i (length lanes)) (get_or lanes i d).taker (first.windows ++ windows_of given) (get_or lanes'' i d).taker
  lane_took e finished i d within =
      let t = (get_or lanes i d).taker in let u = (get_or lanes' i d).taker in let v = (get_or lanes'' i d).taker in let n = length lanes in
      let opened = rings.each i d e within in
      let ends = finished.each i d e (omega (arith, run.count)) in
      let came = ok_gives (get_or lanes' i d).fed ends.ok (run.each i d within).taken in
      let rest = subst (λ m. Finishes (took i m) at_most (get_or lanes' i d) (get_or os' i e) (get_or lanes'' i d)) run.count ends in
      let all : came.more ++ rest.fed.more ≡ first ∷ given
      = sym (rest.fed.came ∙ ap (λ l. l ++ rest.fed.more) (came.came ∙ ap (λ l. l ++ came.more) opened.none)) ∙ rest.all ∙ (gave.each i e (omega (arith, rings.count))).1 ∙ ap (λ l. l ++ given) opened.given in
      subst (λ l. TakesOn (took i n) t l v) (sym (windows_append came.more rest.fed.more) ∙ ap (λ l. windows_of l) all)
      (took_both (took i n) t u v (windows_of came.more) (windows_of rest.fed.more) came.taken rest.fed.taken)

  pub lanes_took : HaveFinished took at_most lanes' os' lanes'' → TakeAll took (first.windows ++ windows_of given) (map (λ l. l.taker) lanes) (map (λ l. l.taker) lanes'')
  lanes_took finished =
      let f : Lane T → T = λ l. l.taker in
      let windows = first.windows ++ windows_of given in
      let same : length lanes'' ≡ length lanes = finished.count ∙ run.count in record {
        count = length-map lanes'' f ∙ same ∙ sym (length-map lanes f);
        each = of_images f (λ i t t'. TakesOn (took i (length (map f lanes))) t windows t') lanes lanes'' same
            (λ i d inside. subst (λ n. TakesOn (took i n) (f (get_or lanes i d)) windows (f (get_or lanes'' i d))) (sym (length-map lanes f)) (taken os refl i d inside));
      }
    where
      taken : (xs : List Outlet) → xs ≡ os → (i : ℕ) (d : Lane T) → i < length lanes → TakesOn (took i (length lanes)) (get_or lanes i d).taker (first.windows ++ windows_of given) (get_or lanes'' i d).taker
      taken [] none i d within = let no : ⊥ = omega (arith, rings.count, ap length none) in absurd no
      taken (x ∷ xs) some i d within = lane_took x finished i d within

-- ---- once nothing more is given, one lane after another

-- the lanes before a place have finished, and the others are as they were
pub record FinishesTo {T : Type 0} (took : ℕ → ℕ → T → T → List (List (List ℕ)) → Type 0) (at_most : T → ℕ → Type 0) (lanes lanes' : List (Lane T)) (os os' : List Outlet) (i : ℕ) : Type 0 where
  pub count : length lanes' ≡ length lanes
  pub same : length os' ≡ length os
  pub done : (j : ℕ) (d : Lane T) (e : Outlet) → j < i → j < length lanes → Finishes (took j (length lanes)) at_most (get_or lanes j d) (get_or os j e) (get_or lanes' j d)
  pub later : (j : ℕ) (d : Lane T) → i ≤ j → get_or lanes' j d ≡ get_or lanes j d
  pub others : (j : ℕ) (e : Outlet) → i ≤ j → get_or os' j e ≡ get_or os j e

module _ {T : Type 0} (took : ℕ → ℕ → T → T → List (List (List ℕ)) → Type 0) (at_most : T → ℕ → Type 0) (lanes lanes' : List (Lane T)) (os os' : List Outlet) where
  pub finishes_none : FinishesTo took at_most lanes lanes os os 0
  finishes_none = record { count = refl; same = refl; done = λ j d e before. let no : ⊥ = omega arith in absurd no; later = λ j d behind. refl; others = λ j e behind. refl }

  -- the lane and the ring at the place are as they were
  pub lane_at : (i : ℕ) (x : Lane T) → FinishesTo took at_most lanes lanes' os os' i → i < length lanes → x ≡ get_or lanes' i x → (d : Lane T) → x ≡ get_or lanes i d
  lane_at i x to within is d = get_or_read lanes' i x (omega (arith, to.count)) is d ∙ to.later i d (omega arith)

  pub ring_at : (i : ℕ) (o : Outlet) → FinishesTo took at_most lanes lanes' os os' i → i < length os → o ≡ get_or os' i o → (e : Outlet) → o ≡ get_or os i e
  ring_at i o to within is e = get_or_read os' i o (omega (arith, to.same)) is e ∙ to.others i e (omega arith)

  pub finishes_next : (i : ℕ) (x y : Lane T) (o o' : Outlet) → FinishesTo took at_most lanes lanes' os os' i → i < length lanes → length os ≡ length lanes → x ≡ get_or lanes' i x → o ≡ get_or os' i o
      → Finishes (took i (length lanes)) at_most x o y → FinishesTo took at_most lanes (set lanes' i y) os (set os' i o') (i + 1)
  finishes_next i x y o o' to within same is given finishes = record {
    count = length-set lanes' i y ∙ to.count;
    same = length-set os' i o' ∙ to.same;
    done = λ j d e below inside. ⊎_elim
        (λ before. let other : j ≢ i = omega arith in
        subst (Finishes (took j (length lanes)) at_most (get_or lanes j d) (get_or os j e)) (sym (get_or-set_other lanes' i j y d other)) (to.done j d e before inside))
        (λ behind.
        let at : i ≡ j = omega arith in
        let there : i < length lanes' = omega (arith, to.count) in
        subst (λ m. Finishes (took m (length lanes)) at_most (get_or lanes m d) (get_or os m e) (get_or (set lanes' i y) m d)) at
        (subst (Finishes (took i (length lanes)) at_most (get_or lanes i d) (get_or os i e)) (sym (get_or-set_same lanes' i y d there))
        (subst (λ z. Finishes (took i (length lanes)) at_most z (get_or os i e) y) (lane_at i x to within is d)
        (subst (λ z. Finishes (took i (length lanes)) at_most x z y) (ring_at i o to (omega (arith, same)) given e) finishes))))
        (cases_lt j i);
    later = λ j d behind. let other : j ≢ i = omega arith in get_or-set_other lanes' i j y d other ∙ to.later j d (omega arith);
    others = λ j e behind. let other : j ≢ i = omega arith in get_or-set_other os' i j o' e other ∙ to.others j e (omega arith);
  }

  pub finishes_all : (n : ℕ) → n ≡ length lanes → FinishesTo took at_most lanes lanes' os os' n → HaveFinished took at_most lanes os lanes'
  finishes_all n is to = record { count = to.count; each = λ i d e within. to.done i d e (omega arith) within }

-- ---- what was taken in all

module _ {T : Type 0} (took : ℕ → ℕ → T → T → List (List (List ℕ)) → Type 0) (at_most : T → ℕ → Type 0) (takers : List T) (windows : List (List (List ℕ))) (lanes lanes' : List (Lane T)) (outlets : List Outlet) (run : HaveRunWith took at_most takers windows lanes outlets) where
  pub ran_pairs : (i : ℕ) (d : Lane T) (e : Outlet) → i < length lanes → IsPair (get_or outlets i e) (get_or lanes i d).inlet
  ran_pairs i d e within = run_pairs took at_most run.first run.given run.lanes lanes lanes run.outlets outlets run.opened run.run run.gave i d e within

  pub ran_same : length outlets ≡ length lanes
  ran_same = run.gave.count ∙ run.opened.count ∙ sym run.run.count

  pub ran_behind : AreBehindIfFed at_most lanes
  ran_behind i d within = run_behind at_most took run.lanes lanes run.run i d within

  pub ran_took : HaveFinished took at_most lanes outlets lanes' → TakeAll took windows takers (map (λ l. l.taker) lanes')
  ran_took finished =
      subst (λ ts. TakeAll took windows ts (map (λ l. l.taker) lanes')) run.takers_are
      (subst (λ ws. TakeAll took ws (map (λ l. l.taker) run.lanes) (map (λ l. l.taker) lanes')) (sym run.windows_are)
      (lanes_took took at_most run.first run.given run.lanes lanes lanes' run.outlets outlets run.opened run.run run.gave finished))
