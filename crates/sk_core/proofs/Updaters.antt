-- What an updater's events make of what is stored.
use Rattle.std.proofs.Common.{◌≡◌, ◌≢◌, ℕ, ◌+◌, ◌<◌, ◌≤◌, List, [], ◌∷◌, ◌++◌, length, take, get_or, set, All, arith, length-append, append-nil, refl, sym, ap, ◌∙◌, subst, cond, lt-ltb, le-ltb, get_or-set_same, get_or-set_other, length-set, slice_index}
use Rattle.std.proofs.lemmas.List.{length-take, set-get_or}
use Rattle.std.proofs.lemmas.List.Elements.{All-push}
use Rattle.sk_model.specs.Entries.{Entry, entries_by}
use Rattle.sk_model.proofs.Entries.{entries_by_more}
use Rattle.sk_machine.proofs.Coarse.{entries_by_rest}
use Rattle.sk_machine.specs.Fine.{FineUpdater, Fine, with_updater, MayOffer, after_kept, MayLook, after_renewal, MaySwap, MayHand, MayAdmit}
use Rattle.sk_machine.specs.Invariant.{IsSound, swapped_items}
use Rattle.sk_machine.specs.declared.states.Mark.TheVariants.{Neither, Ready, Swapped}
use Rattle.sk_machine.proofs.Updaters.{keeps, renews, swaps, hands, admits}
use Rattle.sk_core.specs.Stored.{StoredUpdater, Stored, blank_updater, updater_of, updater_at, token_at, machine_of, hint_by, word_by, IsWithin, IsStored}
use Rattle.sk_core.specs.Events.{Happens}
use Rattle.sk_core.specs.declared.event.Event.TheVariants as event
use Rattle.sk_core.specs.declared.event.Answer.TheVariants as answer
use Rattle.sk_core.proofs.Machine.{Outcome, set_updater, stores_updater, each_set, read_at, enacted, if_not_zero, take_all_of, take_offers, offers_grow, is_put, hint_within}
use Rattle.sk_model.specs.Limits.{most_updaters}

pub looks_stored : (s : Stored) (i : ℕ) → IsStored s → (updater_at s i).word ≢ 0 → MayLook i (machine_of s)
    → Outcome (event.Look i) s (record s { updaters = set s.updaters i (record (updater_at s i) { hint = (updater_at s i).word; base = (updater_at s i).given; mark = Ready }) }) (answer.Hint (updater_at s i).word)
looks_stored s i ok found may =
    let u = updater_at s i in let u' : StoredUpdater = record u { hint = u.word; base = u.given; mark = Ready } in let w = ok.updaters i in let f : Fine = machine_of s in (
      stores_updater s i u' s.progress s.in_hand ok may.0.0 (record { handed = w.handed; given = w.given; base = w.given }) (renews (hint_by s.k) (word_by s.k) f i ok.sound may found),
      record {
        enabled = may;
        sketch = refl;
        machine = set_updater s i u' may.0.0 ∙ sym (if_not_zero u.word f (after_renewal i f) found);
        answer_is = sym (if_not_zero u.word answer.Busy (answer.Hint u.word) found);
      },
    )

pub swaps_stored : (s : Stored) (i : ℕ) → IsStored s → MaySwap i (machine_of s)
    → Outcome (event.Swap i) s (record s { updaters = set s.updaters i (record (updater_at s i) { fill = (updater_at s i).slot; slot = (updater_at s i).fill; mark = Swapped }) }) answer.Swapped
swaps_stored s i ok may =
    let u = updater_at s i in let u' : StoredUpdater = record u { fill = u.slot; slot = u.fill; mark = Swapped } in let w = ok.updaters i in let f : Fine = machine_of s in (
      stores_updater s i u' s.progress s.in_hand ok may.0.0 (record { handed = w.handed; given = w.given; base = w.base }) (swaps (hint_by s.k) (word_by s.k) f i ok.sound may),
      record { enabled = may; sketch = refl; machine = set_updater s i u' may.0.0; answer_is = refl },
    )

pub admits_stored : (s : Stored) (i size : ℕ) → IsStored s → MayAdmit i size (machine_of s)
    → Outcome (event.Admit i size) s (record s { updaters = set s.updaters i (record (updater_at s i) { size = size }) }) answer.Admitted
admits_stored s i size ok may =
    let u = updater_at s i in let u' : StoredUpdater = record u { size = size } in let w = ok.updaters i in let f : Fine = machine_of s in (
      stores_updater s i u' s.progress s.in_hand ok may.0 (record { handed = w.handed; given = w.given; base = w.base }) (admits (hint_by s.k) (word_by s.k) f i size ok.sound may),
      record { enabled = may; sketch = refl; machine = set_updater s i u' may.0; answer_is = refl },
    )

pub hands_stored : (s : Stored) (i : ℕ) → IsStored s → MayHand i (machine_of s)
    → Outcome (event.Hand i) s (record s { updaters = set s.updaters i (record (updater_at s i) { word = 0; mark = Neither; handed = (updater_at s i).handed + length (updater_at s i).slot }) }) (answer.Handed (length (updater_at s i).slot))
hands_stored s i ok may =
    let u = updater_at s i in let u' : StoredUpdater = record u { word = 0; mark = Neither; handed = u.handed + length u.slot } in let w = ok.updaters i in let f : Fine = machine_of s in
    let kept : List ℕ = entries_by i s.offers in
    let o = (ok.sound.fits.each i may.0.0).holds in
    let none = (o.swapped may.1).0 in
    let is : kept ≡ take u.handed kept ++ u.slot = o.kept ∙ ap (λ m. take u.handed kept ++ swapped_items m u.slot ++ u.fill) may.1 ∙ ap (λ l. take u.handed kept ++ u.slot ++ l) none ∙ append-nil (take u.handed kept ++ u.slot) in
    let more : take (u.handed + length u.slot) kept ≡ take u.handed kept ++ u.slot = take_all_of u.handed kept u.slot is in
    let size : length kept ≡ length (take u.handed kept) + length u.slot = ap length is ∙ length-append (take u.handed kept) u.slot in
    let inside = w.handed in
    let new : updater_of s.offers s.published i u' ≡ record (f.updaters i) { word = 0; mark = Neither; handed = take u.handed kept ++ u.slot } =
    ap (λ l. let v : FineUpdater = record (f.updaters i) { word = 0; mark = Neither; handed = l } in v) more in (
      stores_updater s i u' s.progress s.in_hand ok may.0.0 (record { handed = omega (arith, length-take u.handed kept); given = w.given; base = w.base })
          (subst (λ (v : FineUpdater). IsSound (hint_by s.k) (word_by s.k) (with_updater i v f)) (sym new) (hands (hint_by s.k) (word_by s.k) f i ok.sound may)),
      record {
        enabled = may;
        sketch = refl;
        machine = set_updater s i u' may.0.0 ∙ ap (λ (v : FineUpdater). with_updater i v f) new;
        answer_is = refl;
      },
    )

-- the offers, and an updater's fill buffer, with one more item
abbrev with_offer : Stored → ℕ → ℕ → Stored
with_offer s i x = record s { offers = s.offers ++ (i, x) ∷ []; updaters = set s.updaters i (record (updater_at s i) { fill = (updater_at s i).fill ++ x ∷ [] }) }

one_offer : (s : Stored) (i x : ℕ) → IsStored s → i < length s.updaters → machine_of (with_offer s i x) ≡ after_kept i x (machine_of s)
one_offer s i x ok inside = λ a. record {
  n = length-set s.updaters i u' a;
  published = s.published;
  word = s.word;
  updaters = is_put (λ j. updater_of more s.published j (get_or (set s.updaters i u') j (blank_updater 0))) (λ j. updater_of s.offers s.published j (updater_at s j)) i grown here others a;
  progress = s.progress;
  in_hand = s.in_hand;
  turn = s.turn;
  offers = length-append s.offers ((i, x) ∷ []) a;
  made = length s.tokens;
  tokens = λ t. record { live = (token_at s t).live; seen = take (token_at s t).seen s.published; known = λ j. take_offers (slice_index (token_at s t).known j) j s.offers ((i, x) ∷ []) ((ok.tokens t).known j) a };
}
  where
    u : StoredUpdater
    u = updater_at s i

    u' : StoredUpdater
    u' = record u { fill = u.fill ++ x ∷ [] }

    more : List Entry
    more = s.offers ++ (i, x) ∷ []

    grown : FineUpdater
    grown = record (updater_of s.offers s.published i u) { fill = u.fill ++ x ∷ []; kept = entries_by i s.offers ++ x ∷ [] }

    here : updater_of more s.published i (get_or (set s.updaters i u') i (blank_updater 0)) ≡ grown
    here = ap (updater_of more s.published i) (get_or-set_same s.updaters i u' (blank_updater 0) inside)
        ∙ (λ a. record grown { kept = entries_by_more i s.offers (x ∷ []) a; handed = take_offers u.handed i s.offers ((i, x) ∷ []) (ok.updaters i).handed a })

    others : (j : ℕ) → j ≢ i → updater_of more s.published j (get_or (set s.updaters i u') j (blank_updater 0)) ≡ updater_of s.offers s.published j (updater_at s j)
    others j ne = ap (updater_of more s.published j) (get_or-set_other s.updaters i j u' (blank_updater 0) ne)
        ∙ (λ a. let l = entries_by_rest j i s.offers (x ∷ []) ne a in record (updater_of s.offers s.published j (updater_at s j)) { kept = l; handed = take (updater_at s j).handed l })

pub keeps_stored : (s : Stored) (i x : ℕ) → IsStored s → x < (updater_at s i).hint → MayOffer i x (machine_of s) → Outcome (event.Offer i x) s (with_offer s i x) answer.Kept
keeps_stored s i x ok below may =
    let u = updater_at s i in let f : Fine = machine_of s in let inside = may.0.0 in let few = may.3 in let end = hint_within s i ok inside in
    let new = one_offer s i x ok inside in
    let size = length-set s.updaters i (record u { fill = u.fill ++ x ∷ [] }) in (
      record {
        least = ok.least;
        most = ok.most;
        few_updaters = subst (λ n. n ≤ most_updaters) (sym size) ok.few_updaters;
        few_offers = omega (arith, length-append s.offers ((i, x) ∷ []));
        few_tokens = ok.few_tokens;
        of_updaters = subst (λ n. All (λ (e : Entry). e.0 < n) (s.offers ++ (i, x) ∷ [])) (sym size) (All-push (λ (e : Entry). e.0 < length s.updaters) s.offers (i, x) ok.of_updaters inside);
        updaters = λ j. each_set (IsWithin (s.offers ++ (i, x) ∷ []) s.published) s.updaters i (record u { fill = u.fill ++ x ∷ [] }) (blank_updater 0) j inside
            (let w = ok.updaters i in let more = offers_grow i s.offers ((i, x) ∷ []) in let h = w.handed in record { handed = omega arith; given = w.given; base = w.base })
            (let w = ok.updaters j in let more = offers_grow j s.offers ((i, x) ∷ []) in let h = w.handed in record { handed = omega arith; given = w.given; base = w.base });
        tokens = λ t. let w = ok.tokens t in record { seen = w.seen; known = λ j. let more = offers_grow j s.offers ((i, x) ∷ []) in let k = w.known j in omega arith };
        sound = subst (IsSound (hint_by s.k) (word_by s.k)) (sym new) (keeps (hint_by s.k) (word_by s.k) f i x ok.sound may below (omega arith));
      },
      record {
        enabled = may;
        sketch = refl;
        machine = new ∙ sym (ap (λ c. cond c (after_kept i x f) f) (lt-ltb x u.hint below));
        answer_is = sym (ap (λ c. cond c answer.Kept answer.Filtered) (lt-ltb x u.hint below));
      },
    )

pub filters_stored : (s : Stored) (i x : ℕ) → (updater_at s i).hint ≤ x → MayOffer i x (machine_of s) → Happens (event.Offer i x) s s answer.Filtered
filters_stored s i x idle may =
    let u = updater_at s i in let f : Fine = machine_of s in record {
      enabled = may;
      sketch = refl;
      machine = sym (ap (λ c. cond c (after_kept i x f) f) (le-ltb x u.hint idle));
      answer_is = sym (ap (λ c. cond c answer.Kept answer.Filtered) (le-ltb x u.hint idle));
    }

-- ---- the same of an updater that is read, and put back changed

module _ (old s : Stored) (i : ℕ) (u u' : StoredUpdater) (view : s ≡ old) (ok : IsStored s) (read : u ≡ get_or s.updaters i u) where
  within : (i < length old.updaters) → i < length s.updaters
  within inside = subst (λ (o : Stored). i < length o.updaters) (sym view) inside

  here : i < length s.updaters → u ≡ updater_at s i
  here inside = read_at s.updaters i u (blank_updater 0) inside read

  pub looks_at : (word : ℕ) → word ≡ u.word → word ≢ 0 → u' ≡ record u { hint = u.word; base = u.given; mark = Ready } → MayLook i (machine_of old)
      → Outcome (event.Look i) old (record s { updaters = set s.updaters i u' }) (answer.Hint word)
  looks_at word says found is may =
      let inside = within may.0.0 in
      enacted (event.Look i) old s i (λ v. record v { hint = v.word; base = v.given; mark = Ready }) u u' (λ v. answer.Hint v.word) (answer.Hint word) (λ _ v. record s { updaters = set s.updaters i v }) view inside read is (ap answer.Hint says)
      (looks_stored s i ok (λ z. found (says ∙ ap (λ (v : StoredUpdater). v.word) (here inside) ∙ z))) may

  pub swaps_at : u' ≡ record u { fill = u.slot; slot = u.fill; mark = Swapped } → MaySwap i (machine_of old)
      → Outcome (event.Swap i) old (record s { updaters = set s.updaters i u' }) answer.Swapped
  swaps_at is may =
      enacted (event.Swap i) old s i (λ v. record v { fill = v.slot; slot = v.fill; mark = Swapped }) u u' (λ _. answer.Swapped) answer.Swapped (λ _ v. record s { updaters = set s.updaters i v }) view (within may.0.0) read is refl
      (swaps_stored s i ok) may

  pub hands_at : (count : ℕ) → count ≡ length u.slot → u' ≡ record u { word = 0; mark = Neither; handed = u.handed + length u.slot } → MayHand i (machine_of old)
      → Outcome (event.Hand i) old (record s { updaters = set s.updaters i u' }) (answer.Handed count)
  hands_at count says is may =
      enacted (event.Hand i) old s i (λ v. record v { word = 0; mark = Neither; handed = v.handed + length v.slot }) u u' (λ v. answer.Handed (length v.slot)) (answer.Handed count) (λ _ v. record s { updaters = set s.updaters i v }) view (within may.0.0) read is (ap answer.Handed says)
      (hands_stored s i ok) may

  pub admits_at : (size : ℕ) → u' ≡ record u { size = size } → MayAdmit i size (machine_of old) → Outcome (event.Admit i size) old (record s { updaters = set s.updaters i u' }) answer.Admitted
  admits_at size is may =
      enacted (event.Admit i size) old s i (λ v. record v { size = size }) u u' (λ _. answer.Admitted) answer.Admitted (λ _ v. record s { updaters = set s.updaters i v }) view (within may.0) read is refl
      (admits_stored s i size ok) may

  pub keeps_at : (x : ℕ) (offers : List Entry) → offers ≡ s.offers ++ (i, x) ∷ [] → x < u.hint → u' ≡ record u { fill = u.fill ++ x ∷ [] } → MayOffer i x (machine_of old)
      → Outcome (event.Offer i x) old (record s { offers = offers; updaters = set s.updaters i u' }) answer.Kept
  keeps_at x offers grown below is may =
      let inside = within may.0.0 in
      subst (λ (l : List Entry). Outcome (event.Offer i x) old (record s { offers = l; updaters = set s.updaters i u' }) answer.Kept) (sym grown)
      (enacted (event.Offer i x) old s i (λ v. record v { fill = v.fill ++ x ∷ [] }) u u' (λ _. answer.Kept) answer.Kept (λ _ v. record s { offers = s.offers ++ (i, x) ∷ []; updaters = set s.updaters i v }) view inside read is refl
      (keeps_stored s i x ok (subst (λ (v : StoredUpdater). x < v.hint) (here inside) below)) may)

  pub filters_at : (x : ℕ) → u.hint ≤ x → MayOffer i x (machine_of old) → Happens (event.Offer i x) old (record s { updaters = set s.updaters i u }) answer.Filtered
  filters_at x idle may =
      let inside = within may.0.0 in
      let same : set s.updaters i u ≡ s.updaters = ap (set s.updaters i) read ∙ set-get_or s.updaters i u in
      subst (λ (l : List StoredUpdater). Happens (event.Offer i x) old (record s { updaters = l }) answer.Filtered) (sym same)
      (subst (λ (o : Stored). MayOffer i x (machine_of o) → Happens (event.Offer i x) o s answer.Filtered) view (filters_stored s i x (subst (λ (v : StoredUpdater). v.hint ≤ x) (here inside) idle)) may)
