-- What the events of whoever propagates, and those of the turn, make of what is stored.
use Rattle.std.proofs.Common.{◌≡◌, ℕ, ◌+◌, ◌<◌, ◌≤◌, List, [], ◌++◌, length, take, get_or, set, true, false, All, arith, length-append, refl, sym, ap, ◌∙◌, subst}
use Rattle.std.proofs.lemmas.List.{length-take, length-map}
use Rattle.std.proofs.lemmas.List.Elements.{All-append, All-weaker}
use mathlib.Core.Logic.{dite}
use native.Mathlib.Decide.{ℕ_discrete}
use Rattle.sk_model.specs.Entries.{Entry, entries_by, items_of_entries, tagged}
use Rattle.sk_model.proofs.Entries.{items_append, items_tagged, entries_by_more}
use Rattle.sk_model.proofs.Missing.{begins_length}
use Rattle.sk_machine.specs.Coarse.{IsEntry}
use Rattle.sk_machine.specs.Fine.{FineUpdater, Fine, with_updater, MayFind, MayTake, MayPublish, after_publish, MayPut, MayReturn, MayTurn, MayYield}
use Rattle.sk_machine.specs.Invariant.{IsAt, IsSound, coarse_of, coarse_updater, stage_of}
use Rattle.sk_machine.specs.declared.states.Progress.{Progress}
use Rattle.sk_machine.specs.declared.states.Progress.TheVariants.{Idle, Found, Holding, Published, Put}
use Rattle.sk_machine.proofs.Numbered.{sum_below_least, length_by}
use Rattle.sk_machine.proofs.Coarse.{entries_by_rest, tagged_are_entries, busy_batch, of_published_begins}
use Rattle.sk_machine.proofs.Sound.{items_of_back}
use Rattle.sk_machine.proofs.Propagator.{at_updater, finds_one, takes, publishes_one, puts, returns_one, turns_to, yields_it}
use Rattle.sk_theta.specs.Kept.{Sketch, StandsFor}
use Rattle.sk_core.specs.Stored.{StoredUpdater, Stored, updater_of, token_of, updater_at, token_at, machine_of, hint_by, word_by, IsStored}
use Rattle.sk_core.specs.declared.event.Event.TheVariants as event
use Rattle.sk_core.specs.declared.event.Answer.TheVariants as answer
use Rattle.sk_core.proofs.Machine.{Outcome, enacted, set_updater, stores_updater, if_zero, take_stays, take_whole, hint_positive}
use Rattle.sk_model.specs.Width.{AreItems}

-- the propagator is at an updater that there is
pub inside_at : (s : Stored) (i : ℕ) → IsStored s → IsAt s.progress i → i < length s.updaters
inside_at s i ok at = (at_updater (hint_by s.k) (word_by s.k) (machine_of s) i ok.sound at).0

pub at_found : (s : Stored) (i : ℕ) → IsStored s → s.progress ≡ Found i → i < length s.updaters
at_found s i ok is = inside_at s i ok (subst (λ p. IsAt p i) (sym is) refl)

pub at_holding : (s : Stored) (i : ℕ) → IsStored s → s.progress ≡ Holding i → i < length s.updaters
at_holding s i ok is = inside_at s i ok (subst (λ p. IsAt p i) (sym is) refl)

pub at_published : (s : Stored) (i : ℕ) → IsStored s → s.progress ≡ Published i → i < length s.updaters
at_published s i ok is = inside_at s i ok (subst (λ p. IsAt p i) (sym is) refl)

pub at_put : (s : Stored) (i : ℕ) → IsStored s → s.progress ≡ Put i → i < length s.updaters
at_put s i ok is = inside_at s i ok (subst (λ p. IsAt p i) (sym is) refl)

-- ---- find

pub finds_stored : (s : Stored) (i : ℕ) → IsStored s → (updater_at s i).word ≡ 0 → MayFind i (machine_of s) → IsStored (record s { progress = Found i })
finds_stored s i ok none may = record {
  least = ok.least;
  most = ok.most;
  few_updaters = ok.few_updaters;
  few_offers = ok.few_offers;
  few_tokens = ok.few_tokens;
  of_updaters = ok.of_updaters;
  updaters = ok.updaters;
  tokens = ok.tokens;
  sound = finds_one (hint_by s.k) (word_by s.k) (machine_of s) i ok.sound may none;
}

-- ---- take

pub takes_stored : (s : Stored) (i : ℕ) → IsStored s → MayTake i (machine_of s)
    → Outcome (event.Take i) s (record s { updaters = set s.updaters i (record (updater_at s i) { slot = []; home = false }); progress = Holding i; in_hand = (updater_at s i).slot }) (answer.Took (length (updater_at s i).slot))
takes_stored s i ok may =
    let u = updater_at s i in let u' : StoredUpdater = record u { slot = []; home = false } in let w = ok.updaters i in let f : Fine = machine_of s in let inside = at_found s i ok may in (
      stores_updater s i u' (Holding i) u.slot ok inside (record { handed = w.handed; given = w.given; base = w.base }) (takes (hint_by s.k) (word_by s.k) f i ok.sound may),
      record { enabled = may; sketch = refl; machine = ap (λ (g : Fine). let h : Fine = record g { progress = Holding i; in_hand = u.slot } in h) (set_updater s i u' inside); answer_is = refl },
    )

-- ---- publish

-- the batch in hand is of items, and the published list has room for it
batch_of : (s : Stored) (i : ℕ) → IsStored s → s.progress ≡ Holding i → (updater_of s.offers s.published i (updater_at s i)).handed ≡ entries_by i s.published ++ s.in_hand
batch_of s i ok is = (busy_batch (hint_by s.k) (length s.updaters) (coarse_of (machine_of s)) i s.in_hand ok.sound.coarse (ap (stage_of (machine_of s).updaters s.in_hand) is)).1

pub batch_items : (s : Stored) (i : ℕ) → IsStored s → s.progress ≡ Holding i → AreItems s.in_hand
batch_items s i ok is = items_of_back (entries_by i s.published) s.in_hand (subst AreItems (batch_of s i ok is) (ok.sound.coarse.each i (at_holding s i ok is)).items)

pub batch_fits : (s : Stored) (i : ℕ) → IsStored s → s.progress ≡ Holding i → length s.published + length s.in_hand ≤ length s.offers
batch_fits s i ok is =
    let n = length s.updaters in let inside = at_holding s i ok is in let hint = hint_by s.k in let f : Fine = machine_of s in
    let all : List Entry = s.published ++ tagged i s.in_hand in
    let below : All (λ (e : Entry). e.0 < n) all = All-weaker (IsEntry n) (λ (e : Entry). e.0 < n) (λ e is. is.0) all (All-append (IsEntry n) s.published (tagged i s.in_hand) ok.sound.coarse.entries (tagged_are_entries n i s.in_hand inside (batch_items s i ok is))) in
    let handed : (j : ℕ) → length (take (updater_at s j).handed (entries_by j s.offers)) ≤ length (entries_by j s.offers) = λ j. omega (arith, length-take (updater_at s j).handed (entries_by j s.offers)) in
    let each : (j : ℕ) → j < n → length (entries_by j all) ≤ length (entries_by j s.offers) = λ j near. let front = handed j in dite (ℕ_discrete j i)
    (λ e. let here : length (entries_by j all) ≡ length (take (updater_at s j).handed (entries_by j s.offers)) = ap length (subst (λ k. entries_by k all ≡ take (updater_at s k).handed (entries_by k s.offers)) (sym e) (entries_by_more i s.published s.in_hand ∙ sym (batch_of s i ok is))) in omega arith)
    (λ ne. let same = ap length (entries_by_rest j i s.published s.in_hand ne) in let b = begins_length _ _ (of_published_begins hint (f.updaters j).size s.published (stage_of f.updaters s.in_hand s.progress) j (coarse_updater (f.updaters j)) (ok.sound.coarse.each j near)) in omega arith) in
    let total = sum_below_least n (λ j. length (entries_by j all)) (λ j. length (entries_by j s.offers)) each in
    let left = length_by n all below in let right = length_by n s.offers ok.of_updaters in
    let size = length-append s.published (tagged i s.in_hand) in
    let same : length (tagged i s.in_hand) ≡ length s.in_hand = length-map s.in_hand (λ (x : ℕ). (i, x)) in
    omega arith

pub items_more : (i : ℕ) (h : List Entry) (batch : List ℕ) → items_of_entries h ++ batch ≡ items_of_entries (h ++ tagged i batch)
items_more i h batch = sym (items_append h (tagged i batch) ∙ ap (λ l. items_of_entries h ++ l) (items_tagged i batch))

-- the sketch after the batch is of the published list with it
pub stands_after : (i : ℕ) (h h' : List Entry) (batch hand : List ℕ) (sketch : Sketch) → batch ≡ hand → h' ≡ h ++ tagged i hand → StandsFor sketch (items_of_entries h ++ batch) → StandsFor sketch (items_of_entries h')
stands_after i h h' batch hand sketch is grown stands = subst (StandsFor sketch) (ap (λ l. items_of_entries h ++ l) is ∙ items_more i h hand ∙ ap items_of_entries (sym grown)) stands

abbrev with_batch : Stored → ℕ → Stored
with_batch s i = let h : List Entry = s.published ++ tagged i s.in_hand in record s { published = h; word = word_by s.k h; progress = Published i; in_hand = [] }

one_batch : (s : Stored) (i : ℕ) → IsStored s → machine_of (with_batch s i) ≡ after_publish (word_by s.k) i (machine_of s)
one_batch s i ok = λ a. record {
  n = length s.updaters;
  published = s.published ++ batch;
  word = word_by s.k (s.published ++ batch);
  updaters = λ j. let u = updater_at s j in let w = ok.updaters j in record (updater_of s.offers s.published j u) { given = take_stays u.given s.published batch w.given a; base = take_stays u.base s.published batch w.base a };
  progress = Published i;
  in_hand = [];
  turn = s.turn;
  offers = length s.offers;
  made = length s.tokens;
  tokens = λ t. let token = token_at s t in record (token_of s.offers s.published token) { seen = take_stays token.seen s.published batch (ok.tokens t).seen a };
}
  where
    batch : List Entry
    batch = tagged i s.in_hand

pub publishes_stored : (s : Stored) (i : ℕ) → IsStored s → MayPublish i (machine_of s) → Outcome (event.Publish i) s (with_batch s i) (answer.Published (length (s.published ++ tagged i s.in_hand)))
publishes_stored s i ok may =
    let f : Fine = machine_of s in let batch : List Entry = tagged i s.in_hand in let size = length-append s.published batch in
    let same : length batch ≡ length s.in_hand = length-map s.in_hand (λ (x : ℕ). (i, x)) in (
      record {
        least = ok.least;
        most = ok.most;
        few_updaters = ok.few_updaters;
        few_offers = ok.few_offers;
        few_tokens = ok.few_tokens;
        of_updaters = ok.of_updaters;
        updaters = λ j. let w = ok.updaters j in let g = w.given in let b = w.base in record { handed = w.handed; given = omega arith; base = omega arith };
        tokens = λ t. let w = ok.tokens t in let seen = w.seen in record { seen = omega arith; known = w.known };
        sound = subst (IsSound (hint_by s.k) (word_by s.k)) (sym (one_batch s i ok)) (publishes_one (hint_by s.k) (word_by s.k) f i ok.sound may);
      },
      record { enabled = may; sketch = refl; machine = one_batch s i ok; answer_is = ap answer.Published (omega arith) },
    )

-- ---- put

pub puts_stored : (s : Stored) (i : ℕ) → IsStored s → MayPut i (machine_of s)
    → Outcome (event.Put i) s (record s { updaters = set s.updaters i (record (updater_at s i) { slot = []; home = true }); progress = Put i }) answer.Put
puts_stored s i ok may =
    let u = updater_at s i in let u' : StoredUpdater = record u { slot = []; home = true } in let w = ok.updaters i in let f : Fine = machine_of s in let inside = at_published s i ok may in (
      stores_updater s i u' (Put i) s.in_hand ok inside (record { handed = w.handed; given = w.given; base = w.base }) (puts (hint_by s.k) (word_by s.k) f i ok.sound may),
      record { enabled = may; sketch = refl; machine = ap (λ (g : Fine). let h : Fine = record g { progress = Put i } in h) (set_updater s i u' inside); answer_is = refl },
    )

-- ---- return

pub returns_stored : (s : Stored) (i : ℕ) → IsStored s → MayReturn i (machine_of s)
    → Outcome (event.GiveBack i) s (record s { updaters = set s.updaters i (record (updater_at s i) { word = hint_by s.k s.published; given = length s.published }); progress = Idle }) (answer.Returned (hint_by s.k s.published))
returns_stored s i ok may =
    let u = updater_at s i in let w = ok.updaters i in let f : Fine = machine_of s in let inside = at_put s i ok may in let hint = hint_by s.k s.published in
    let u' : StoredUpdater = record u { word = hint; given = length s.published } in
    let new : updater_of s.offers s.published i u' ≡ record (f.updaters i) { word = hint; given = s.published } =
    ap (λ l. let v : FineUpdater = record (f.updaters i) { word = hint; given = l } in v) (take_whole s.published) in
    let after : FineUpdater → Fine = λ v. let g : Fine = record (with_updater i v f) { progress = Idle } in g in (
      stores_updater s i u' Idle s.in_hand ok inside (record { handed = w.handed; given = omega arith; base = w.base })
          (subst (λ (v : FineUpdater). IsSound (hint_by s.k) (word_by s.k) (after v)) (sym new) (returns_one (hint_by s.k) (word_by s.k) f i ok.sound may (hint_positive s.k s.published ok.least))),
      record { enabled = may; sketch = refl; machine = ap (λ (g : Fine). let h : Fine = record g { progress = Idle } in h) (set_updater s i u' inside) ∙ ap after new; answer_is = refl },
    )

-- ---- the same of an updater that is read, and put back changed

module _ (old s : Stored) (i : ℕ) (u u' : StoredUpdater) (view : s ≡ old) (ok : IsStored s) (read : u ≡ get_or s.updaters i u) where
  was : (p : Progress) → old.progress ≡ p → s.progress ≡ p
  was p is = ap (λ (o : Stored). o.progress) view ∙ is

  pub takes_at : (count : ℕ) (batch : List ℕ) → count ≡ length u.slot → batch ≡ u.slot → u' ≡ record u { slot = []; home = false } → MayTake i (machine_of old)
      → Outcome (event.Take i) old (record s { updaters = set s.updaters i u'; progress = Holding i; in_hand = batch }) (answer.Took count)
  takes_at count batch says moved is may =
      subst (λ (l : List ℕ). Outcome (event.Take i) old (record s { updaters = set s.updaters i u'; progress = Holding i; in_hand = l }) (answer.Took count)) (sym moved)
      (enacted (event.Take i) old s i (λ v. record v { slot = []; home = false }) u u' (λ v. answer.Took (length v.slot)) (answer.Took count) (λ v v'. record s { updaters = set s.updaters i v'; progress = Holding i; in_hand = v.slot })
      view (at_found s i ok (was (Found i) may)) read is (ap answer.Took says) (takes_stored s i ok) may)

  pub puts_at : u' ≡ record u { slot = []; home = true } → MayPut i (machine_of old) → Outcome (event.Put i) old (record s { updaters = set s.updaters i u'; progress = Put i }) answer.Put
  puts_at is may =
      enacted (event.Put i) old s i (λ v. record v { slot = []; home = true }) u u' (λ _. answer.Put) answer.Put (λ _ v. record s { updaters = set s.updaters i v; progress = Put i })
      view (at_published s i ok (was (Published i) may)) read is refl (puts_stored s i ok) may

  pub returns_at : (word entries : ℕ) → word ≡ hint_by s.k s.published → entries ≡ length s.published → u' ≡ record u { word = word; given = entries } → MayReturn i (machine_of old)
      → Outcome (event.GiveBack i) old (record s { updaters = set s.updaters i u'; progress = Idle }) (answer.Returned word)
  returns_at word entries says many is may =
      enacted (event.GiveBack i) old s i (λ v. record v { word = hint_by s.k s.published; given = length s.published }) u u' (λ _. answer.Returned (hint_by s.k s.published)) (answer.Returned word) (λ _ v. record s { updaters = set s.updaters i v; progress = Idle })
      view (at_put s i ok (was (Put i) may)) read (is ∙ (λ a. record u { word = says a; given = many a })) (ap answer.Returned says) (returns_stored s i ok) may

-- one that publishes, with the lists and the word as they were made
pub publishes_at : (old s : Stored) (i k word count : ℕ) (published : List Entry) (in_hand : List ℕ) → s ≡ old → IsStored s → published ≡ s.published ++ tagged i s.in_hand → k ≡ s.k → word ≡ word_by s.k published → in_hand ≡ [] → count ≡ length published
    → MayPublish i (machine_of old) → Outcome (event.Publish i) old (record s { k = k; published = published; word = word; progress = Published i; in_hand = in_hand }) (answer.Published count)
publishes_at old s i k word count published in_hand view ok grown same is none says may =
    subst (λ (o : Stored). MayPublish i (machine_of o) → Outcome (event.Publish i) o (record s { k = k; published = published; word = word; progress = Published i; in_hand = in_hand }) (answer.Published count)) view
    (λ may. let h : List Entry = s.published ++ tagged i s.in_hand in
    let new : with_batch s i ≡ record s { k = k; published = published; word = word; progress = Published i; in_hand = in_hand } =
    λ a. record s { k = sym same a; published = sym grown a; word = sym (is ∙ ap (word_by s.k) grown) a; progress = Published i; in_hand = sym none a } in
    subst (λ (x : Stored × ℕ). Outcome (event.Publish i) s x.0 (answer.Published x.1)) (λ a. (new a, (ap length (sym grown) ∙ sym says) a)) (publishes_stored s i ok may)) may

-- ---- the turn

turn_stored : (s : Stored) (turn : ℕ) → IsStored s → IsSound (hint_by s.k) (word_by s.k) (record (machine_of s) { turn = turn }) → IsStored (record s { turn = turn })
turn_stored s turn ok sound = record {
  least = ok.least;
  most = ok.most;
  few_updaters = ok.few_updaters;
  few_offers = ok.few_offers;
  few_tokens = ok.few_tokens;
  of_updaters = ok.of_updaters;
  updaters = ok.updaters;
  tokens = ok.tokens;
  sound = sound;
}

pub turns_stored : (s : Stored) (seat : ℕ) → IsStored s → s.turn ≡ 0 → MayTurn seat (machine_of s) → IsStored (record s { turn = seat + 1 })
turns_stored s seat ok free may = let f : Fine = machine_of s in
    turn_stored s (seat + 1) ok (subst (IsSound (hint_by s.k) (word_by s.k)) (if_zero s.turn (record f { turn = seat + 1 }) f free) (turns_to (hint_by s.k) (word_by s.k) f seat ok.sound may))

pub yields_stored : (s : Stored) (seat : ℕ) → IsStored s → MayYield seat (machine_of s) → IsStored (record s { turn = 0 })
yields_stored s seat ok may = turn_stored s 0 ok (yields_it (hint_by s.k) (word_by s.k) (machine_of s) seat ok.sound may)
