-- Shares of windows, and the k smallest of what updaters kept.
use Rattle.std.proofs.Common.{◌≡◌, ◌↔◌, ◌⊎◌, inl, inr, ⊎_elim, ℕ, ◌<◌, nat_lt, Bool, List, [], ◌∷◌, ◌++◌, length, get_or, flat_map, All, Contains, sym, ap, refl, ◌∙◌, subst, arith, append-nil, append_assoc}
use Rattle.std.specs.List.{range_with_len}
use Rattle.std.proofs.lemmas.Grind.{flat_map-append}
use Rattle.std.proofs.lemmas.List.Elements.{All-contains, All-get_or, All-from_get_or, Contains-get_or, Contains-append_left, Contains-append_right, Contains-append_cases}
use Rattle.sk_model.specs.Entries.{Entry, items_of_entries, entries_by}
use Rattle.sk_model.specs.Missing.{Begins}
use Rattle.sk_model.proofs.Missing.{begins_trans, begins_refl}
use Rattle.sk_model.specs.Sketch.{k_smallest, theta_of}
use Rattle.sk_model.specs.Width.{IsItem, AreItems}
use Rattle.sk_model.proofs.Sketch.{k_smallest_of_members}
use Rattle.sk_model.proofs.Rising.{Has, Has-from_Contains, Contains-from_Has, Has-append_left}
use Rattle.sk_compose.specs.Kept.{AreKept}
use Rattle.sk_compose.proofs.Kept.{kept_append, kept_longer}
use Rattle.sk_compose.proofs.Smallest.{has_right, has_cases, in_some_part, in_all_parts, smallest_of_all}
use Rattle.sk_hub.specs.Updaters.{UpdaterState, base_of, kept_of}
use Rattle.sk_read.specs.declared.kind.Kind.{Kind}
use Rattle.sk_fill.specs.Windows.{all_lines, items_in}
use Rattle.sk_hub.specs.Calls.{Takes}
use Rattle.sk_fill.specs.Blocks.{block_of}
use Rattle.sk_feed.specs.Rounds.{TakeBlocks}
use Rattle.sk_feed.specs.Shares.{share, KeepsMore, KeepShares, TakeShares, HaveKeptNone, HasAllOf}
use Rattle.sk_fill.proofs.Items.{items_append, items_below, no_items}
use Rattle.sk_fill.proofs.Joined.{items_joined}
use Rattle.sk_hub.proofs.Calls.{none_refl, takes_none, takes_trans}

-- ---- what each took

pub share_none : (kind : Kind) (n i : ℕ) → share kind [] n i ≡ []
unfolding share
share_none kind n i = refl

pub share_one : (kind : Kind) (lines : List (List ℕ)) (n i : ℕ) → share kind (lines ∷ []) n i ≡ items_in kind (block_of lines i n)
unfolding share
share_one kind lines n i = append-nil (items_in kind (block_of lines i n))

pub share_append : (kind : Kind) (windows more : List (List (List ℕ))) (n i : ℕ) → share kind (windows ++ more) n i ≡ share kind windows n i ++ share kind more n i
unfolding share
share_append kind windows more n i = flat_map-append (λ lines. items_in kind (block_of lines i n)) windows more

pub no_shares : (keeps : ℕ → ℕ → Bool) (hint_of : List ℕ → List Entry → ℕ) (kind : Kind) (us : List UpdaterState) → TakeShares keeps hint_of kind [] us us
no_shares keeps hint_of kind us = record {
  count = refl;
  each = λ i d within. subst (λ l. Takes keeps hint_of (get_or us i d) l (get_or us i d)) (sym (share_none kind (length us) i)) (takes_none keeps hint_of (get_or us i d) (get_or us i d) (none_refl (get_or us i d)));
}

pub one_window : (keeps : ℕ → ℕ → Bool) (hint_of : List ℕ → List Entry → ℕ) (kind : Kind) (lines : List (List ℕ)) (us us' : List UpdaterState) → length us' ≡ length us → TakeBlocks keeps hint_of kind lines us us' → TakeShares keeps hint_of kind (lines ∷ []) us us'
one_window keeps hint_of kind lines us us' count taken = record {
  count = count;
  each = λ i d within. subst (λ l. Takes keeps hint_of (get_or us i d) l (get_or us' i d)) (sym (share_one kind lines (length us) i)) (taken i d within);
}

pub add_up : (keeps : ℕ → ℕ → Bool) (hint_of : List ℕ → List Entry → ℕ) (kind : Kind) (windows more : List (List (List ℕ))) (us vs ws : List UpdaterState) → TakeShares keeps hint_of kind windows us vs → TakeShares keeps hint_of kind more vs ws → TakeShares keeps hint_of kind (windows ++ more) us ws
add_up keeps hint_of kind windows more us vs ws a b = record {
  count = b.count ∙ a.count;
  each = λ i d within.
      let later : Takes keeps hint_of (get_or vs i d) (share kind more (length us) i) (get_or ws i d) = subst (λ n. Takes keeps hint_of (get_or vs i d) (share kind more n i) (get_or ws i d)) a.count (b.each i d (omega (arith, a.count))) in
      subst (λ l. Takes keeps hint_of (get_or us i d) l (get_or ws i d)) (sym (share_append kind windows more (length us) i))
      (takes_trans keeps hint_of (get_or us i d) (get_or vs i d) (get_or ws i d) (share kind windows (length us) i) (share kind more (length us) i) (a.each i d within) later);
}

-- ---- what each kept of it

pub keeps_none : (keeps : ℕ → ℕ → Bool) (hint_of : List ℕ → List Entry → ℕ) (u : UpdaterState) → KeepsMore keeps hint_of u [] u
unfolding AreKept
keeps_none keeps hint_of u = record { number = refl; size = refl; table = refl; numbers = refl; base = begins_refl (base_of u); more = []; kept = sym (append-nil (kept_of u)); of_items = refl }

pub keeps_taken : (keeps : ℕ → ℕ → Bool) (hint_of : List ℕ → List Entry → ℕ) (u : UpdaterState) (items : List ℕ) (u' : UpdaterState) → Takes keeps hint_of u items u' → KeepsMore keeps hint_of u items u'
keeps_taken keeps hint_of u items u' t = record { number = t.goes.number; size = t.goes.size; table = t.goes.table; numbers = t.goes.numbers; base = t.goes.base; more = t.more; kept = t.kept; of_items = t.of_items }

pub keeps_left : (keeps : ℕ → ℕ → Bool) (hint_of : List ℕ → List Entry → ℕ) (u u' : UpdaterState) → u'.number ≡ u.number → u'.size ≡ u.size → u'.table ≡ u.table → u'.view.numbers ≡ u.view.numbers → base_of u' ≡ base_of u → kept_of u' ≡ kept_of u → KeepsMore keeps hint_of u [] u'
unfolding AreKept
keeps_left keeps hint_of u u' number size table numbers base kept = record { number = number; size = size; table = table; numbers = numbers; base = subst (Begins (base_of u)) (sym base) (begins_refl (base_of u)); more = []; kept = kept ∙ sym (append-nil (kept_of u)); of_items = refl }

pub keeps_trans : (keeps : ℕ → ℕ → Bool) (hint_of : List ℕ → List Entry → ℕ) (u v w : UpdaterState) (xs ys : List ℕ) → KeepsMore keeps hint_of u xs v → KeepsMore keeps hint_of v ys w → KeepsMore keeps hint_of u (xs ++ ys) w
keeps_trans keeps hint_of u v w xs ys a b = record {
  number = b.number ∙ a.number;
  size = b.size ∙ a.size;
  table = b.table ∙ a.table;
  numbers = b.numbers ∙ a.numbers;
  base = begins_trans (base_of u) (base_of v) (base_of w) a.base b.base;
  more = a.more ++ b.more;
  kept = b.kept ∙ ap (λ l. l ++ b.more) a.kept ∙ append_assoc (kept_of u) a.more b.more;
  of_items = kept_append keeps (hint_of u.view.numbers) (base_of w) xs ys a.more b.more
      (kept_longer keeps (hint_of u.view.numbers) (base_of v) (base_of w) xs a.more b.base a.of_items)
      (subst (λ n. AreKept keeps (hint_of n) (base_of w) ys b.more) a.numbers b.of_items);
}

pub no_shares_kept : (keeps : ℕ → ℕ → Bool) (hint_of : List ℕ → List Entry → ℕ) (kind : Kind) (us : List UpdaterState) → KeepShares keeps hint_of kind [] us us
no_shares_kept keeps hint_of kind us = record {
  count = refl;
  each = λ i d within. let u = get_or us i d in subst (λ l. KeepsMore keeps hint_of u l u) (sym (share_none kind (length us) i)) (keeps_none keeps hint_of u);
}

pub shares_kept : (keeps : ℕ → ℕ → Bool) (hint_of : List ℕ → List Entry → ℕ) (kind : Kind) (windows : List (List (List ℕ))) (us us' : List UpdaterState) → TakeShares keeps hint_of kind windows us us' → KeepShares keeps hint_of kind windows us us'
shares_kept keeps hint_of kind windows us us' t = record {
  count = t.count;
  each = λ i d within. keeps_taken keeps hint_of (get_or us i d) (share kind windows (length us) i) (get_or us' i d) (t.each i d within);
}

pub kept_add_up : (keeps : ℕ → ℕ → Bool) (hint_of : List ℕ → List Entry → ℕ) (kind : Kind) (windows more : List (List (List ℕ))) (us vs ws : List UpdaterState) → KeepShares keeps hint_of kind windows us vs → KeepShares keeps hint_of kind more vs ws → KeepShares keeps hint_of kind (windows ++ more) us ws
kept_add_up keeps hint_of kind windows more us vs ws a b = record {
  count = b.count ∙ a.count;
  each = λ i d within.
      let later : KeepsMore keeps hint_of (get_or vs i d) (share kind more (length us) i) (get_or ws i d) = subst (λ n. KeepsMore keeps hint_of (get_or vs i d) (share kind more n i) (get_or ws i d)) a.count (b.each i d (omega (arith, a.count))) in
      subst (λ l. KeepsMore keeps hint_of (get_or us i d) l (get_or ws i d)) (sym (share_append kind windows more (length us) i))
      (keeps_trans keeps hint_of (get_or us i d) (get_or vs i d) (get_or ws i d) (share kind windows (length us) i) (share kind more (length us) i) (a.each i d within) later);
}

-- ---- what all took together

in_either : (f g : ℕ → List ℕ) (n z : ℕ) → Contains (flat_map f (range_with_len 0 n)) z ⊎ Contains (flat_map g (range_with_len 0 n)) z → Contains (flat_map (λ i. f i ++ g i) (range_with_len 0 n)) z
in_either f g n z (inl h) =
    let some = in_some_part f 0 n z (Has-from_Contains (flat_map f (range_with_len 0 n)) z h) in
    Contains-from_Has (flat_map (λ i. f i ++ g i) (range_with_len 0 n)) z (in_all_parts (λ i. f i ++ g i) 0 n some.0 z some.1 some.2 (Has-append_left (f some.0) (g some.0) z some.3))
in_either f g n z (inr h) =
    let some = in_some_part g 0 n z (Has-from_Contains (flat_map g (range_with_len 0 n)) z h) in
    Contains-from_Has (flat_map (λ i. f i ++ g i) (range_with_len 0 n)) z (in_all_parts (λ i. f i ++ g i) 0 n some.0 z some.1 some.2 (has_right (f some.0) (g some.0) z some.3))

in_one : (f g : ℕ → List ℕ) (n z : ℕ) → Contains (flat_map (λ i. f i ++ g i) (range_with_len 0 n)) z → Contains (flat_map f (range_with_len 0 n)) z ⊎ Contains (flat_map g (range_with_len 0 n)) z
in_one f g n z h =
    let some = in_some_part (λ i. f i ++ g i) 0 n z (Has-from_Contains (flat_map (λ i. f i ++ g i) (range_with_len 0 n)) z h) in
    ⊎_elim
    (λ k. inl (Contains-from_Has (flat_map f (range_with_len 0 n)) z (in_all_parts f 0 n some.0 z some.1 some.2 k)))
    (λ k. inr (Contains-from_Has (flat_map g (range_with_len 0 n)) z (in_all_parts g 0 n some.0 z some.1 some.2 k)))
    (has_cases (f some.0) (g some.0) z some.3)

none_of_none : (kind : Kind) (n from count z : ℕ) → Contains (flat_map (λ i. share kind [] n i) (range_with_len from count)) z → Contains (items_in kind []) z
unfolding share
none_of_none kind n from count z h =
    let some = in_some_part (λ i. share kind [] n i) from count z (Has-from_Contains (flat_map (λ i. share kind [] n i) (range_with_len from count)) z h) in absurd some.3

none_of_no_lines : (kind : Kind) (xs : List ℕ) (z : ℕ) → Contains (items_in kind []) z → Contains xs z
none_of_no_lines kind xs z h =
    let none : Has [] z = Has-from_Contains [] z (subst (λ l. Contains l z) (no_items kind) h) in absurd none

pub all_items : (kind : Kind) (windows : List (List (List ℕ))) (n z : ℕ) → 0 < n → Contains (flat_map (λ i. share kind windows n i) (range_with_len 0 n)) z ↔ Contains (items_in kind (all_lines windows)) z
unfolding share
all_items kind [] n z some = (none_of_none kind n 0 n z, none_of_no_lines kind (flat_map (λ i. share kind [] n i) (range_with_len 0 n)) z)
all_items kind (lines ∷ windows) n z some =
    let first : ℕ → List ℕ = λ i. items_in kind (block_of lines i n) in
    let rest : ℕ → List ℕ = λ i. share kind windows n i in
    let joined = items_joined kind lines n some in
    let later = all_items kind windows n z some in
    let split : items_in kind (lines ++ all_lines windows) ≡ items_in kind lines ++ items_in kind (all_lines windows) = items_append kind lines (all_lines windows) in (
      λ h. subst (λ l. Contains l z) (sym split) (⊎_elim
          (λ k. Contains-append_left (items_in kind lines) (items_in kind (all_lines windows)) z (subst (λ l. Contains l z) joined k))
          (λ k. Contains-append_right (items_in kind lines) (items_in kind (all_lines windows)) z (later.0 k))
          (in_one first rest n z h)),
      λ h. in_either first rest n z (⊎_elim
          (λ k. inl (subst (λ l. Contains l z) (sym joined) k))
          (λ k. inr (later.1 k))
          (Contains-append_cases (items_in kind lines) (items_in kind (all_lines windows)) z (subst (λ l. Contains l z) split h))),
    )

-- ---- and a list that has all of it

at_some : {A R : Type 0} (xs : List A) (i : ℕ) → i < length xs → (A → R) → R
at_some [] i within f = let none : ⊥ = omega arith in absurd none
at_some (x ∷ xs) i within f = f x

taken_is_kept : (keeps : ℕ → ℕ → Bool) (hint_of : List ℕ → List Entry → ℕ) (numbers : List ℕ) (list : List Entry) (i : ℕ) (items : List ℕ) (u u' : UpdaterState) → (u.view.numbers ≡ numbers) × (kept_of u ≡ []) → KeepsMore keeps hint_of u items u' → Begins (base_of u') list → entries_by i list ≡ kept_of u'
    → AreKept keeps (hint_of numbers) list items (entries_by i list)
taken_is_kept keeps hint_of numbers list i items u u' new taken base has =
    let kept : entries_by i list ≡ taken.more = has ∙ taken.kept ∙ ap (λ l. l ++ taken.more) new.1 in
    subst (AreKept keeps (hint_of numbers) list items) (sym kept)
    (subst (λ n. AreKept keeps (hint_of n) list items taken.more) new.0 (kept_longer keeps (hint_of u.view.numbers) (base_of u') list items taken.more base taken.of_items))

share_below : (kind : Kind) (windows : List (List (List ℕ))) (n i : ℕ) → 0 < n → i < n → AreItems (share kind windows n i)
share_below kind windows n i some within = All-from_get_or IsItem (share kind windows n i) 0 (λ j inner.
    let z = get_or (share kind windows n i) j 0 in
    All-contains IsItem (items_in kind (all_lines windows)) z (items_below kind (all_lines windows))
    ((all_items kind windows n z some).0 (Contains-from_Has (flat_map (λ m. share kind windows n m) (range_with_len 0 n)) z
    (in_all_parts (λ m. share kind windows n m) 0 n i z (omega arith) (omega arith) (Has-from_Contains (share kind windows n i) z (Contains-get_or (share kind windows n i) j 0 inner))))))

pub smallest_of_shares : (k : ℕ) (keeps : ℕ → ℕ → Bool) (hint_of : List ℕ → List Entry → ℕ) (numbers : List ℕ) (list : List Entry) (kind : Kind) (windows : List (List (List ℕ))) (us us' : List UpdaterState) → ((h item : ℕ) → keeps h item ≡ nat_lt item h) → ((l : List Entry) → hint_of numbers l ≡ theta_of k (items_of_entries l))
    → 0 < length us → HaveKeptNone numbers us → KeepShares keeps hint_of kind windows us us' → HasAllOf list us' → k_smallest k (items_of_entries list) ≡ k_smallest k (items_in kind (all_lines windows))
smallest_of_shares k keeps hint_of numbers list kind windows us us' keeps_is hint_is some new taken has =
    smallest_of_all k keeps (hint_of numbers) list n (λ i. share kind windows n i) keeps_is hint_is only (λ i within. share_below kind windows n i some within) kept
    ∙ k_smallest_of_members k (flat_map (λ i. share kind windows n i) (range_with_len 0 n)) (items_in kind (all_lines windows)) (λ z h. (all_items kind windows n z some).0 h) (λ z h. (all_items kind windows n z some).1 h)
  where
    n : ℕ
    n = length us

    only : All (λ entry. entry.0 < n) list
    only = subst (λ m. All (λ entry. entry.0 < m) list) taken.count has.only

    kept : (i : ℕ) → i < n → AreKept keeps (hint_of numbers) list (share kind windows n i) (entries_by i list)
    kept i within =
        let within' : i < length us' = omega (arith, taken.count) in
        at_some us i within (λ d. taken_is_kept keeps hint_of numbers list i (share kind windows n i) (get_or us i d) (get_or us' i d)
        (All-get_or (λ u. (u.view.numbers ≡ numbers) × (kept_of u ≡ [])) us i d within new) (taken.each i d within) (has.bases i d within') (has.kept i d within'))
