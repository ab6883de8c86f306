-- An updater that continues: what each of its calls leaves.
use Rattle.std.proofs.Common.{◌≡◌, ◌≢◌, ◌⊎◌, inl, inr, ℕ, ◌+◌, ◌≤◌, List, [], ◌∷◌, ◌++◌, length, Bool, true, false, not, MatchBool, Result, Ok, Err, OnOk, OnErr, subst, sym, ap, refl, ◌∙◌, append-nil, append_assoc, length-append, arith}
use Rattle.sk_model.specs.Entries.{Entry}
use Rattle.sk_model.specs.Missing.{Begins}
use Rattle.sk_model.proofs.Missing.{begins_trans, begins_refl}
use Rattle.sk_gate.specs.Views.{mine_of}
use Rattle.sk_gate.specs.Hands.{is_empty}
use Rattle.sk_hub.specs.declared.answers.Update.{Update}
use Rattle.sk_hub.specs.declared.answers.Update.TheVariants as update
use Rattle.sk_hub.specs.Updaters.{UpdaterState, handed_of, base_of, kept_of, with_item, LooksInVain, Renews, HandsOver, Keeps, HandsWith}
use Rattle.sk_machine.specs.declared.views.Move.TheVariants.{Look, Hand, Ask}
use Rattle.sk_hub.specs.Rounds.{KnowsAsMuch}
use Rattle.sk_hub.specs.Replies.{IsOwnReply}
use Rattle.sk_hub.proofs.Handing.{told_trans, earlier_handed}
use Rattle.sk_compose.specs.Kept.{AreKept}
use Rattle.sk_hub.specs.Calls.{GoesOn, KeepsNone, Takes}
use Rattle.sk_compose.proofs.Kept.{kept_append, kept_longer, kept_few, one_kept, one_dropped}

same_begins : {A : Type 0} (xs ys : List A) → ys ≡ xs → Begins xs ys
same_begins xs ys same = ([], same ∙ sym (append-nil xs))

-- ---- it continues

goes_refl : (u : UpdaterState) → GoesOn u u
goes_refl u = record { number = refl; size = refl; table = refl; eager = refl; name = refl; numbers = refl; sized = refl; base = begins_refl (base_of u); handed = begins_refl (handed_of u); seen = begins_refl u.view.seen; steps = begins_refl u.view.steps; told = inl (refl, refl, refl) }

pub goes_same : (u u' : UpdaterState) → u' ≡ u → GoesOn u u'
goes_same u u' same = subst (GoesOn u) (sym same) (goes_refl u)

pub goes_trans : (u v w : UpdaterState) → GoesOn u v → GoesOn v w → GoesOn u w
goes_trans u v w a b = record {
  number = b.number ∙ a.number;
  size = b.size ∙ a.size;
  table = b.table ∙ a.table;
  eager = b.eager ∙ a.eager;
  name = b.name ∙ a.name;
  numbers = b.numbers ∙ a.numbers;
  sized = b.sized ∙ a.sized;
  base = begins_trans _ _ _ a.base b.base;
  handed = begins_trans _ _ _ a.handed b.handed;
  seen = begins_trans _ _ _ a.seen b.seen;
  steps = begins_trans _ _ _ a.steps b.steps;
  told = told_trans u v w a.told b.told;
}

goes_with : (u : UpdaterState) (item : ℕ) → GoesOn u (with_item u item)
goes_with u item = record { number = refl; size = refl; table = refl; eager = refl; name = refl; numbers = refl; sized = refl; base = begins_refl (base_of u); handed = begins_refl (handed_of u); seen = begins_refl u.view.seen; steps = begins_refl u.view.steps; told = inl (refl, refl, refl) }

goes_in_vain : (u u' : UpdaterState) → LooksInVain u u' → GoesOn u u'
goes_in_vain u u' l = subst (GoesOn u) (sym l.state)
    (record { number = refl; size = refl; table = refl; eager = refl; name = refl; numbers = refl; sized = refl; base = begins_refl (base_of u); handed = begins_refl (handed_of u); seen = begins_refl u.view.seen; steps = (Look u.number 0 ∷ [], refl); told = inl (refl, refl, refl) })

goes_handed : (hint_of : List ℕ → List Entry → ℕ) (u u' : UpdaterState) (fill : List ℕ) → HandsOver hint_of u fill u' → GoesOn u u'
goes_handed hint_of u u' fill h = record {
  number = ap (λ z. z.number) h.state;
  size = ap (λ z. z.size) h.state;
  table = ap (λ z. z.table) h.state;
  eager = ap (λ z. z.eager) h.state;
  name = ap (λ v. v.name) h.view;
  numbers = ap (λ v. v.numbers) h.view;
  sized = ap (λ v. length v.sizes) h.view;
  base = h.renewed.grows;
  handed = (u.fill, ap (λ v. (mine_of v).handed) h.view);
  seen = h.renewed.sees;
  steps = (Look u.number u'.hint ∷ Hand u.number ∷ [], ap (λ v. v.steps) h.view);
  told = inr (ap (λ z. z.news) h.state ∙ ap (λ l. not (is_empty l)) (sym (earlier_handed hint_of u u' fill h)));
}

-- a look that renewed the hint
goes_renewed : (hint_of : List ℕ → List Entry → ℕ) (u u' : UpdaterState) → Renews hint_of u u' → GoesOn u u'
goes_renewed hint_of u u' r =
    let handed : handed_of u' ≡ handed_of u = ap (λ v. (mine_of v).handed) r.view in record {
      number = ap (λ z. z.number) r.state;
      size = ap (λ z. z.size) r.state;
      table = ap (λ z. z.table) r.state;
      eager = ap (λ z. z.eager) r.state;
      name = ap (λ v. v.name) r.view;
      numbers = ap (λ v. v.numbers) r.view;
      sized = ap (λ v. length v.sizes) r.view;
      base = r.renewed.grows;
      handed = same_begins (handed_of u) (handed_of u') handed;
      seen = r.renewed.sees;
      steps = (Look u.number u'.hint ∷ [], ap (λ v. v.steps) r.view);
      told = inl (ap (λ z. z.news) r.state, handed, ap (λ z. z.last) r.state);
    }

goes_asked : (packed : List ℕ → List Entry → ℕ) (u u' : UpdaterState) (word : ℕ) → IsOwnReply packed u word u' → GoesOn u u'
goes_asked packed u u' word r = record {
  number = ap (λ z. z.number) r.stays;
  size = ap (λ z. z.size) r.stays;
  table = ap (λ z. z.table) r.stays;
  eager = ap (λ z. z.eager) r.stays;
  name = ap (λ z. z.view.name) r.stays;
  numbers = ap (λ z. z.view.numbers) r.stays;
  sized = ap (λ z. length z.view.sizes) r.stays;
  base = same_begins (base_of u) (base_of u') (ap base_of r.stays);
  handed = same_begins (handed_of u) (handed_of u') (ap handed_of r.stays);
  seen = r.grows;
  steps = (Ask word ∷ [], ap (λ z. z.view.steps) r.stays);
  told = inl (ap (λ z. z.news) r.stays, ap handed_of r.stays, ap (λ z. z.last) r.stays);
}

-- ---- it keeps nothing more

pub none_refl : (u : UpdaterState) → KeepsNone u u
none_refl u = record { goes = goes_refl u; kept = refl }

pub none_trans : (u v w : UpdaterState) → KeepsNone u v → KeepsNone v w → KeepsNone u w
none_trans u v w a b = record { goes = goes_trans u v w a.goes b.goes; kept = b.kept ∙ a.kept }

pub none_in_vain : (u u' : UpdaterState) → LooksInVain u u' → KeepsNone u u'
none_in_vain u u' l = record { goes = goes_in_vain u u' l; kept = ap kept_of l.state }

pub none_renewed : (hint_of : List ℕ → List Entry → ℕ) (u u' : UpdaterState) → Renews hint_of u u' → KeepsNone u u'
none_renewed hint_of u u' r = record {
  goes = goes_renewed hint_of u u' r;
  kept = ap (λ l. l ++ u'.fill) (ap (λ v. (mine_of v).handed) r.view) ∙ ap (λ l. handed_of u ++ l) (ap (λ z. z.fill) r.state);
}

pub fill_handed : (hint_of : List ℕ → List Entry → ℕ) (u u' : UpdaterState) → HandsOver hint_of u [] u' → u'.fill ≡ []
fill_handed hint_of u u' h = ap (λ z. z.fill) h.state

-- all that was kept was handed over
pub none_handed : (hint_of : List ℕ → List Entry → ℕ) (u u' : UpdaterState) → HandsOver hint_of u [] u' → KeepsNone u u'
none_handed hint_of u u' h = record {
  goes = goes_handed hint_of u u' [] h;
  kept = ap (λ l. l ++ u'.fill) (ap (λ v. (mine_of v).handed) h.view) ∙ ap (λ l. kept_of u ++ l) (fill_handed hint_of u u' h) ∙ append-nil (kept_of u);
}

pub none_asked : (packed : List ℕ → List Entry → ℕ) (u u' : UpdaterState) (word : ℕ) → IsOwnReply packed u word u' → KeepsNone u u'
none_asked packed u u' word r = record { goes = goes_asked packed u u' word r; kept = ap kept_of r.stays }

-- it tried to propagate
pub helped : (u u' : UpdaterState) → u' ≡ record u { view = u'.view } → KnowsAsMuch u.view u'.view → KeepsNone u u'
helped u u' stays knows = record {
  goes = record {
    number = ap (λ z. z.number) stays;
    size = ap (λ z. z.size) stays;
    table = ap (λ z. z.table) stays;
    eager = ap (λ z. z.eager) stays;
    name = ap (λ v. v.name) knows.view;
    numbers = ap (λ v. v.numbers) knows.view;
    sized = knows.sized;
    base = same_begins (base_of u) (base_of u') (ap (λ v. (mine_of v).base) knows.view);
    handed = same_begins (handed_of u) (handed_of u') (ap (λ v. (mine_of v).handed) knows.view);
    seen = knows.grows;
    steps = knows.later;
    told = inl (ap (λ z. z.news) stays, ap (λ v. (mine_of v).handed) knows.view, ap (λ z. z.last) stays);
  };
  kept = ap (λ l. l ++ u'.fill) (ap (λ v. (mine_of v).handed) knows.view) ∙ ap (λ l. handed_of u ++ l) (ap (λ z. z.fill) stays);
}

-- ---- it takes items

pub takes_none : (keeps : ℕ → ℕ → Bool) (hint_of : List ℕ → List Entry → ℕ) (u u' : UpdaterState) → KeepsNone u u' → Takes keeps hint_of u [] u'
unfolding AreKept
takes_none keeps hint_of u u' n = record { goes = n.goes; more = []; kept = n.kept ∙ sym (append-nil (kept_of u)); of_items = refl }

pub takes_trans : (keeps : ℕ → ℕ → Bool) (hint_of : List ℕ → List Entry → ℕ) (u v w : UpdaterState) (xs ys : List ℕ) → Takes keeps hint_of u xs v → Takes keeps hint_of v ys w → Takes keeps hint_of u (xs ++ ys) w
takes_trans keeps hint_of u v w xs ys a b = record {
  goes = goes_trans u v w a.goes b.goes;
  more = a.more ++ b.more;
  kept = b.kept ∙ ap (λ l. l ++ b.more) a.kept ∙ append_assoc (kept_of u) a.more b.more;
  of_items = kept_append keeps (hint_of u.view.numbers) (base_of w) xs ys a.more b.more
      (kept_longer keeps (hint_of u.view.numbers) (base_of v) (base_of w) xs a.more b.goes.base a.of_items)
      (subst (λ n. AreKept keeps (hint_of n) (base_of w) ys b.more) a.goes.numbers b.of_items);
}

pub takes_then_none : (keeps : ℕ → ℕ → Bool) (hint_of : List ℕ → List Entry → ℕ) (u v w : UpdaterState) (xs : List ℕ) → Takes keeps hint_of u xs v → KeepsNone v w → Takes keeps hint_of u xs w
takes_then_none keeps hint_of u v w xs a n = subst (λ l. Takes keeps hint_of u l w) (append-nil xs) (takes_trans keeps hint_of u v w xs [] a (takes_none keeps hint_of v w n))

pub none_then_takes : (keeps : ℕ → ℕ → Bool) (hint_of : List ℕ → List Entry → ℕ) (u v w : UpdaterState) (xs : List ℕ) → KeepsNone u v → Takes keeps hint_of v xs w → Takes keeps hint_of u xs w
none_then_takes keeps hint_of u v w xs n a = takes_trans keeps hint_of u v w [] xs (takes_none keeps hint_of u v n) a

pub takes_few : (keeps : ℕ → ℕ → Bool) (hint_of : List ℕ → List Entry → ℕ) (u u' : UpdaterState) (xs : List ℕ) → Takes keeps hint_of u xs u' → length (kept_of u') ≤ length (kept_of u) + length xs
takes_few keeps hint_of u u' xs t =
    let few = kept_few keeps (hint_of u.view.numbers) (base_of u') xs t.more t.of_items in
    let e = ap length t.kept in omega (arith, length-append (kept_of u) t.more)

pub kept_begins : (keeps : ℕ → ℕ → Bool) (hint_of : List ℕ → List Entry → ℕ) (u u' : UpdaterState) (xs : List ℕ) → Takes keeps hint_of u xs u' → Begins (kept_of u) (kept_of u')
kept_begins keeps hint_of u u' xs t = (t.more, t.kept)

-- ---- an offer

either : (b : Bool) (P Q R : Type 0) → MatchBool b P Q → (P → R) → (Q → R) → R
either true P Q R m p q = p m
either false P Q R m p q = q m

goes_keeping : (early : ℕ → Bool) (u u' : UpdaterState) (item : ℕ) → Keeps early u item u' → GoesOn u u'
goes_keeping early u u' item k = either _ _ _ (GoesOn u u') k.looks
    (λ l. goes_trans u (with_item u item) u' (goes_with u item) (goes_in_vain (with_item u item) u' l))
    (λ e. subst (GoesOn u) (sym e) (goes_with u item))

goes_handing : (early : ℕ → Bool) (hint_of : List ℕ → List Entry → ℕ) (u u' : UpdaterState) (item : ℕ) → HandsWith early hint_of u item u' → GoesOn u u'
goes_handing early hint_of u u' item (inl h) = goes_handed hint_of u u' (item ∷ []) h.1
goes_handing early hint_of u u' item (inr h) = goes_trans u (with_item u item) u' (goes_with u item) (goes_handed hint_of (with_item u item) u' [] h.2)

takes_one : (keeps : ℕ → ℕ → Bool) (hint_of : List ℕ → List Entry → ℕ) (u u' : UpdaterState) (item : ℕ) → GoesOn u u' → kept_of u' ≡ kept_of u ++ item ∷ [] → Takes keeps hint_of u (item ∷ []) u'
takes_one keeps hint_of u u' item goes kept = record { goes = goes; more = item ∷ []; kept = kept; of_items = one_kept keeps (hint_of u.view.numbers) (base_of u') item }

drops_one : (keeps : ℕ → ℕ → Bool) (hint_of : List ℕ → List Entry → ℕ) (u : UpdaterState) (item : ℕ) → u.hint ≡ hint_of u.view.numbers (base_of u) → keeps u.hint item ≡ false → Takes keeps hint_of u (item ∷ []) u
drops_one keeps hint_of u item hint dropped = record {
  goes = goes_refl u;
  more = [];
  kept = sym (append-nil (kept_of u));
  of_items = one_dropped keeps (hint_of u.view.numbers) (base_of u) item (base_of u, begins_refl (base_of u), subst (λ h. keeps h item ≡ false) hint dropped);
}

-- an update that was not busy
pub offered : (keeps : ℕ → ℕ → Bool) (early : ℕ → Bool) (hint_of : List ℕ → List Entry → ℕ) (u u' : UpdaterState) (item : ℕ) (r : Update) → u.hint ≡ hint_of u.view.numbers (base_of u)
    → (r ≡ update.Filtered → keeps u.hint item ≡ false) → (r ≡ update.Filtered → u' ≡ u) → (r ≡ update.Kept → Keeps early u item u') → (r ≡ update.Handed → HandsWith early hint_of u item u')
    → ((r ≡ update.Kept) ⊎ (r ≡ update.Handed) → kept_of u' ≡ kept_of u ++ item ∷ []) → r ≢ update.Busy → Takes keeps hint_of u (item ∷ []) u'
offered keeps early hint_of u u' item update.Filtered hint filtered same kept handed grows taken = subst (Takes keeps hint_of u (item ∷ [])) (sym (same refl)) (drops_one keeps hint_of u item hint (filtered refl))
offered keeps early hint_of u u' item update.Kept hint filtered same kept handed grows taken = takes_one keeps hint_of u u' item (goes_keeping early u u' item (kept refl)) (grows (inl refl))
offered keeps early hint_of u u' item update.Handed hint filtered same kept handed grows taken = takes_one keeps hint_of u u' item (goes_handing early hint_of u u' item (handed refl)) (grows (inr refl))
offered keeps early hint_of u u' item update.Busy hint filtered same kept handed grows taken = absurd (taken refl)

-- what is true is so after an answer
pub on_ok : {T E P : Type 0} (r : Result T E) → P → OnOk r P
on_ok (Ok x) p = p
on_ok (Err e) p = tt

pub on_err : {T E P : Type 0} (r : Result T E) → P → OnErr r P
on_err (Ok x) p = tt
on_err (Err e) p = p

pub not_busy : (r : Update) → (r ≡ update.Kept) ⊎ (r ≡ update.Handed) → r ≢ update.Busy
not_busy r (inl kept) busy = cc
not_busy r (inr handed) busy = cc
