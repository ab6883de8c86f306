-- Handles of one hub that go on.
use Rattle.std.proofs.Common.{◌≡◌, ◌⊎◌, inl, inr, ⊎_elim, ℕ, ◌+◌, ◌<◌, ◌≤◌, Bool, List, [], ◌∷◌, ◌++◌, length, get_or, sym, ap, refl, ◌∙◌, subst, arith, length-append}
use Rattle.sk_model.specs.Entries.{Entry}
use Rattle.sk_model.specs.Missing.{Begins}
use Rattle.sk_model.specs.Limits.{most_kept}
use Rattle.sk_model.proofs.Missing.{begins_trans, begins_refl}
use Rattle.sk_gate.specs.Views.{known_of, size_of}
use Rattle.sk_hub.specs.Replies.{IsRelaxedReply}
use Rattle.sk_hub.specs.Hearts.{HeartState}
use Rattle.sk_hub.specs.Updaters.{UpdaterState, handed_of, kept_of}
use Rattle.sk_hub.proofs.Leaves.{knows_none, knows_trans}
use Rattle.sk_read.specs.declared.kind.Kind.{Kind}
use Rattle.sk_hub.specs.Calls.{Takes}
use Rattle.sk_feed.specs.Rounds.{HaveRoom, HaveFew}
use Rattle.sk_fill.specs.Blocks.{block_of}
use Rattle.sk_feed.specs.Shares.{TakeShares, share, HaveKeptNone}
use Rattle.sk_feed.specs.Hubs.{Hub, IsHub, IsUpdaterAt, HeartGoesOn, HeartMayGoOn, FeedsWindow, LeavesHub, IsLeft, FeedsWindows}
use Rattle.sk_feed.proofs.Rounds.{block_within}
use Rattle.sk_feed.proofs.Shares.{share_one}
use Rattle.sk_fill.specs.Windows.{items_in}
use Rattle.sk_fill.proofs.Items.{few_items, no_items}
use Rattle.sk_hub.proofs.Calls.{takes_few, takes_none, none_refl}

pub heart_waits : (h : HeartState) → HeartGoesOn h h
heart_waits h = record { knows = knows_none h.view; stays = refl }

pub heart_goes : (h h1 h2 : HeartState) → HeartGoesOn h h1 → HeartGoesOn h1 h2 → HeartGoesOn h h2
heart_goes h h1 h2 a b = record {
  knows = knows_trans h.view h1.view h2.view a.knows b.knows;
  stays = b.stays ∙ λ d. record (a.stays d) { view = h2.view };
}

pub may_wait : (on : Bool) (h : HeartState) → HeartMayGoOn on h h
may_wait on h = record { goes = heart_waits h; quiet = λ off. refl }

pub may_go : (on : Bool) (h h1 h2 : HeartState) → HeartMayGoOn on h h1 → HeartMayGoOn on h1 h2 → HeartMayGoOn on h h2
may_go on h h1 h2 a b = record { goes = heart_goes h h1 h2 a.goes b.goes; quiet = λ off. b.quiet off ∙ a.quiet off }

-- ---- still one hub

-- where its updaters took shares of any windows
pub hub_took : (on : Bool) (keeps : ℕ → ℕ → Bool) (hint_of : List ℕ → List Entry → ℕ) (kind : Kind) (windows : List (List (List ℕ))) (a b : Hub) → IsHub a → FeedsWindows on keeps hint_of kind windows a b → IsHub b
hub_took on keeps hint_of kind windows a b hub fed = record {
  count = fed.updaters.count ∙ hub.count ∙ sym (ap (λ h. h.updaters) fed.heart.goes.stays);
  updaters = λ i d within.
      let within' : i < length a.updaters = omega (arith, fed.updaters.count) in
      let was = hub.updaters i d within' in let goes = (fed.updaters.each i d within').goes in record {
        number = goes.number ∙ was.number;
        table = goes.table ∙ was.table ∙ sym table;
        numbers = goes.numbers ∙ was.numbers ∙ sym numbers;
        name = goes.name ∙ was.name ∙ sym name;
        known = subst (λ t. Begins (known_of t.view i) (handed_of (get_or b.updaters i d))) (sym fed.token) (begins_trans (known_of a.token.view i) (handed_of (get_or a.updaters i d)) (handed_of (get_or b.updaters i d)) was.known goes.handed);
        size = subst (λ t. (size_of t.view i ≡ 0) ⊎ (size_of t.view i ≡ (get_or b.updaters i d).size)) (sym fed.token) (⊎_elim (λ none. inl none) (λ is. inr (is ∙ sym goes.size)) was.size);
      };
  table = ap (λ t. t.table) fed.token ∙ hub.table ∙ sym table;
  sized = ap (λ t. length t.view.sizes) fed.token ∙ hub.sized ∙ sym (ap (λ h. h.updaters) fed.heart.goes.stays);
  numbers = ap (λ t. t.view.numbers) fed.token ∙ hub.numbers ∙ sym numbers;
  name = ap (λ t. t.view.name) fed.token ∙ hub.name ∙ sym name;
}
  where
    table : b.heart.table ≡ a.heart.table
    table = ap (λ h. h.table) fed.heart.goes.stays

    numbers : b.heart.view.numbers ≡ a.heart.view.numbers
    numbers = ap (λ v. v.numbers) fed.heart.goes.knows.view

    name : b.heart.view.name ≡ a.heart.view.name
    name = ap (λ v. v.name) fed.heart.goes.knows.view

pub hub_fed : (on : Bool) (keeps : ℕ → ℕ → Bool) (hint_of : List ℕ → List Entry → ℕ) (kind : Kind) (lines : List (List ℕ)) (a b : Hub) → IsHub a → FeedsWindow on keeps hint_of kind lines a b → IsHub b
hub_fed on keeps hint_of kind lines a b hub fed = hub_took on keeps hint_of kind (lines ∷ []) a b hub (record { heart = fed.heart; updaters = fed.updaters; token = fed.token })

-- ---- how much its updaters have kept

pub few_none : (numbers : List ℕ) (us : List UpdaterState) → HaveKeptNone numbers us → HaveFew 0 [] us
few_none numbers us new = λ i d within. let none = ap length (new i d within).1 in omega arith

pub few_left : (count : ℕ) (rest : List (List ℕ)) (unit : List ℕ) (us : List UpdaterState) → HaveFew count rest us → HaveFew (count + 1) (rest ++ unit ∷ []) us
few_left count rest unit us few = λ i d within. let here = few i d within in omega (arith, here, length-append rest (unit ∷ []))

pub few_room : (count : ℕ) (lines : List (List ℕ)) (us : List UpdaterState) → HaveFew count lines us → count ≤ most_kept → HaveRoom lines us
few_room count lines us few most = λ i d within. let here = few i d within in omega (arith, here, block_within lines i (length us) within)

pub few_fed : (keeps : ℕ → ℕ → Bool) (hint_of : List ℕ → List Entry → ℕ) (kind : Kind) (count : ℕ) (lines : List (List ℕ)) (us us' : List UpdaterState) → HaveFew count lines us → TakeShares keeps hint_of kind (lines ∷ []) us us' → HaveFew count [] us'
few_fed keeps hint_of kind count lines us us' few taken = λ i d within.
    let within' : i < length us = omega (arith, taken.count) in
    let here = few i d within' in
    let more = takes_few keeps hint_of (get_or us i d) (get_or us' i d) (share kind (lines ∷ []) (length us) i) (taken.each i d within') in
    let items : length (share kind (lines ∷ []) (length us) i) ≤ length lines
    = omega (arith, ap length (share_one kind lines (length us) i), few_items kind (block_of lines i (length us)), block_within lines i (length us) within') in
    omega (arith, here, more, items)

-- what a report leaves
pub kept_left : (u u' : UpdaterState) → IsLeft u u' → kept_of u' ≡ kept_of u
kept_left u u' left = ap (λ l. l ++ u'.fill) left.handed ∙ ap (λ l. handed_of u ++ l) (ap (λ z. z.fill) left.stays)

pub few_stay : (count : ℕ) (a b : Hub) → HaveFew count [] a.updaters → LeavesHub a b → HaveFew count [] b.updaters
few_stay count a b few leaves = λ i d within.
    let within' : i < length a.updaters = omega (arith, leaves.count) in
    let here = few i d within' in
    let same = ap length (kept_left (get_or a.updaters i d) (get_or b.updaters i d) (leaves.updaters i d within')) in
    omega (arith, here, same)

-- ---- an empty window

nil_is : {A : Type 0} (xs : List A) → length xs ≤ 0 → xs ≡ []
nil_is [] few = refl
nil_is (x ∷ xs) few = let none : ⊥ = omega arith in absurd none

share_of_none : (kind : Kind) (n i : ℕ) → i < n → share kind ([] ∷ []) n i ≡ []
share_of_none kind n i within = share_one kind [] n i ∙ ap (items_in kind) (nil_is (block_of [] i n) (block_within [] i n within)) ∙ no_items kind

pub no_window : (on : Bool) (keeps : ℕ → ℕ → Bool) (hint_of : List ℕ → List Entry → ℕ) (kind : Kind) (b : Hub) → FeedsWindow on keeps hint_of kind [] b b
no_window on keeps hint_of kind b = record {
  heart = may_wait on b.heart;
  updaters = record {
    count = refl;
    each = λ i d within. let u = get_or b.updaters i d in subst (λ l. Takes keeps hint_of u l u) (sym (share_of_none kind (length b.updaters) i within)) (takes_none keeps hint_of u u (none_refl u));
  };
  token = refl;
}

-- ---- a report that is not made

pub leaves_same : (a : Hub) → LeavesHub a a
leaves_same a = record {
  heart = heart_waits a.heart;
  count = refl;
  updaters = λ i d within. let u = get_or a.updaters i d in record { stays = refl; handed = refl; base = refl; numbers = refl; name = refl; sized = refl; seen = begins_refl u.view.seen; steps = begins_refl u.view.steps };
  token = record { table = refl; numbers = refl; name = refl; sized = refl; seen = begins_refl a.token.view.seen; steps = begins_refl a.token.view.steps };
}

-- ---- a token that asks

module _ (packed_of : List ℕ → List Entry → ℕ) (a b : Hub) (word : ℕ) (reply : IsRelaxedReply packed_of a.token.view word b.token.view) (table : b.token.table ≡ a.token.table) (heart : b.heart ≡ a.heart) (updaters : b.updaters ≡ a.updaters) where
  pub asked_hub : IsHub a → IsHub b
  asked_hub hub = record {
    count = ap length updaters ∙ hub.count ∙ sym (ap (λ h. h.updaters) heart);
    updaters = subst (λ us. (i : ℕ) (d : UpdaterState) → i < length us → IsUpdaterAt b i (get_or us i d)) (sym updaters) (λ i d within.
        let was = hub.updaters i d within in let u = get_or a.updaters i d in record {
          number = was.number;
          table = was.table ∙ sym (ap (λ h. h.table) heart);
          numbers = was.numbers ∙ sym (ap (λ h. h.view.numbers) heart);
          name = was.name ∙ sym (ap (λ h. h.view.name) heart);
          known = subst (λ v. Begins (known_of v i) (handed_of u)) (sym reply.stays) was.known;
          size = subst (λ v. (size_of v i ≡ 0) ⊎ (size_of v i ≡ u.size)) (sym reply.stays) was.size;
        });
    table = table ∙ hub.table ∙ sym (ap (λ h. h.table) heart);
    sized = ap (λ v. length v.sizes) reply.stays ∙ hub.sized ∙ sym (ap (λ h. h.updaters) heart);
    numbers = ap (λ v. v.numbers) reply.stays ∙ hub.numbers ∙ sym (ap (λ h. h.view.numbers) heart);
    name = ap (λ v. v.name) reply.stays ∙ hub.name ∙ sym (ap (λ h. h.view.name) heart);
  }
