-- The items of a block on their way to an updater.
use Rattle.std.proofs.Common.{◌≡◌, ◌⊎◌, inl, inr, ℕ, ◌+◌, ◌-◌, ◌≤◌, Bool, true, false, cond, List, [], ◌∷◌, ◌++◌, length, get_or, take, drop, slice_range, Option, Some, None, refl, sym, ap, ◌∙◌, subst, arith, append-nil, append_assoc, length-append, length-take, take-take, take_at}
use Rattle.std.specs.List.{filter}
use Rattle.std.proofs.lemmas.List.{drop-take, drop-drop}
use Rattle.std.proofs.lemmas.List.Elements.{filter-append}
use Rattle.std.proofs.Math.Seq.{take-append-add}
use Rattle.sk_model.specs.Entries.{Entry}
use Rattle.sk_model.proofs.Missing.{begins_trans, begins_refl}
use Rattle.sk_hub.specs.Updaters.{UpdaterState, base_of}
use Rattle.sk_read.specs.declared.kind.Kind.{Kind}
use Rattle.sk_fill.specs.Windows.{item_in, items_in}
use Rattle.sk_hub.specs.Calls.{KeepsNone, Takes}
use Rattle.sk_feed.specs.OnItsWay.{BlockItemsState, IsOnItsWay}
use Rattle.sk_fill.proofs.Items.{few_items, items_append, one_item, no_item, no_items}
use Rattle.sk_feed.proofs.Filtered.{takes_by_earlier}
use Rattle.sk_hub.proofs.Calls.{none_refl, takes_none, takes_trans}

-- ---- parts of lists

-- what is left of a range after its first part
pub range_less : {A : Type 0} (xs : List A) (at end n : ℕ) → at + n ≤ end → slice_range xs (at + n) end ≡ drop n (slice_range xs at end)
range_less xs at end n inside =
    let parts : end - at ≡ n + (end - (at + n)) = omega arith in
    sym (ap (λ k. drop n (take k (drop at xs))) parts ∙ drop-take n (end - (at + n)) (drop at xs) ∙ ap (take (end - (at + n))) (drop-drop n at xs))

pub range_from_start : {A : Type 0} (xs : List A) (n : ℕ) → slice_range xs 0 n ≡ take n xs
range_from_start xs n = let size : n - 0 ≡ n = omega arith in ap (λ k. take k xs) size

-- the first of lines, in two parts
pub front_of_rest : (lines front back : List (List ℕ)) (most n : ℕ) → length front ≡ n → n ≤ most → lines ≡ front ++ back → take most lines ≡ front ++ take (most - n) back
front_of_rest lines front back most n count few is =
    let size : most ≡ length front + (most - n) = omega arith in
    ap (take most) is ∙ ap (λ k. take k (front ++ back)) size ∙ take-append-add front back (most - n)

few_by_test : (b : Bool) (x : ℕ) (xs : List ℕ) (n : ℕ) → length xs ≤ n → length (cond b (x ∷ xs) xs) ≤ n + 1
few_by_test true x xs n few = omega arith
few_by_test false x xs n few = omega arith

few_filtered : (p : ℕ → Bool) (xs : List ℕ) → length (filter p xs) ≤ length xs
few_filtered p [] = omega arith
few_filtered p (x ∷ xs) = omega (arith, few_by_test (p x) x (filter p xs) (length xs) (few_filtered p xs))

pub few_kept : (p : ℕ → Bool) (kind : Kind) (lines : List (List ℕ)) → length (filter p (items_in kind lines)) ≤ length lines
few_kept p kind lines = omega (arith, few_filtered p (items_in kind lines), few_items kind lines)

-- ---- lines of whose items some are kept

-- the items kept of lines are two lists, of the first lines and of the others
record Parts (p : ℕ → Bool) (kind : Kind) (lines : List (List ℕ)) (xs ys : List ℕ) : Type 0 where
  pub front : List (List ℕ)
  pub back : List (List ℕ)
  pub joined : lines ≡ front ++ back
  pub first : xs ≡ filter p (items_in kind front)
  pub then : ys ≡ filter p (items_in kind back)

kept_append : (p : ℕ → Bool) (kind : Kind) (lines more : List (List ℕ)) → filter p (items_in kind (lines ++ more)) ≡ filter p (items_in kind lines) ++ filter p (items_in kind more)
kept_append p kind lines more = ap (filter p) (items_append kind lines more) ∙ filter-append p (items_in kind lines) (items_in kind more)

item_or_none : (p : ℕ → Bool) (item : ℕ) (b : Bool) → p item ≡ b → (filter p (item ∷ []) ≡ []) ⊎ ((i : ℕ) × (filter p (item ∷ []) ≡ i ∷ []))
item_or_none p item true is = inr (item, ap (λ c. cond c (item ∷ []) []) is)
item_or_none p item false is = inl (ap (λ c. cond c (item ∷ []) []) is)

-- of a line one item is kept, or none
one_or_none : (p : ℕ → Bool) (kind : Kind) (line : List ℕ) (item : Option ℕ) → item_in kind line ≡ item → (filter p (items_in kind (line ∷ [])) ≡ []) ⊎ ((i : ℕ) × (filter p (items_in kind (line ∷ [])) ≡ i ∷ []))
one_or_none p kind line None is = inl (ap (filter p) (no_item kind line is))
one_or_none p kind line (Some item) is = subst (λ l. (filter p l ≡ []) ⊎ ((i : ℕ) × (filter p l ≡ i ∷ []))) (sym (one_item kind line item is)) (item_or_none p item (p item) refl)

line_more : (p : ℕ → Bool) (kind : Kind) (line : List ℕ) (lines : List (List ℕ)) (zs xs ys : List ℕ) → filter p (items_in kind (line ∷ [])) ≡ zs → Parts p kind lines xs ys → Parts p kind (line ∷ lines) (zs ++ xs) ys
line_more p kind line lines zs xs ys is parts = record {
  front = line ∷ parts.front;
  back = parts.back;
  joined = ap (λ l. line ∷ l) parts.joined;
  first = ap (λ l. zs ++ l) parts.first ∙ ap (λ l. l ++ filter p (items_in kind parts.front)) (sym is) ∙ sym (kept_append p kind (line ∷ []) parts.front);
  then = parts.then;
}

by_line : (p : ℕ → Bool) (kind : Kind) (line : List ℕ) (lines : List (List ℕ)) (x : ℕ) (xs ys : List ℕ) → filter p (items_in kind (line ∷ lines)) ≡ (x ∷ xs) ++ ys → ((zs : List ℕ) → filter p (items_in kind lines) ≡ zs ++ ys → Parts p kind lines zs ys)
    → (filter p (items_in kind (line ∷ [])) ≡ []) ⊎ ((i : ℕ) × (filter p (items_in kind (line ∷ [])) ≡ i ∷ [])) → Parts p kind (line ∷ lines) (x ∷ xs) ys
by_line p kind line lines x xs ys all later (inl none) =
    let rest : filter p (items_in kind lines) ≡ (x ∷ xs) ++ ys = ap (λ l. l ++ filter p (items_in kind lines)) (sym none) ∙ sym (kept_append p kind (line ∷ []) lines) ∙ all in
    line_more p kind line lines [] (x ∷ xs) ys none (later (x ∷ xs) rest)
by_line p kind line lines x xs ys all later (inr one) =
    let rest : one.0 ∷ filter p (items_in kind lines) ≡ (x ∷ xs) ++ ys = ap (λ l. l ++ filter p (items_in kind lines)) (sym one.1) ∙ sym (kept_append p kind (line ∷ []) lines) ∙ all in
    let same : one.0 ≡ x = ap (λ l. get_or l 0 0) rest in
    subst (λ i. Parts p kind (line ∷ lines) (i ∷ xs) ys) same (line_more p kind line lines (one.0 ∷ []) xs ys one.1 (later xs (ap (drop 1) rest)))

in_parts : (p : ℕ → Bool) (kind : Kind) (lines : List (List ℕ)) (xs ys : List ℕ) → filter p (items_in kind lines) ≡ xs ++ ys → Parts p kind lines xs ys
in_parts p kind lines [] ys is = record { front = []; back = lines; joined = refl; first = sym (ap (filter p) (no_items kind)); then = sym is }
in_parts p kind [] (x ∷ xs) ys is =
    let none : [] ≡ (x ∷ xs) ++ ys = sym (ap (filter p) (no_items kind)) ∙ is in
    absurd (omega (arith, ap length none))
in_parts p kind (line ∷ lines) (x ∷ xs) ys is = by_line p kind line lines x xs ys is (λ zs rest. in_parts p kind lines zs ys rest) (one_or_none p kind line (item_in kind line) refl)

-- ---- on the way

pub sets_out : (keeps : ℕ → ℕ → Bool) (hint_of : List ℕ → List Entry → ℕ) (lines : List (List ℕ)) (u : UpdaterState) (items : BlockItemsState) → items.waiting ≡ [] → items.rest ≡ lines → IsOnItsWay keeps hint_of lines u u items
sets_out keeps hint_of lines u items none rest = record {
  front = [];
  next = [];
  joined = sym rest;
  taken = subst (λ l. Takes keeps hint_of u l u) (sym (no_items items.kind)) (takes_none keeps hint_of u u (none_refl u));
  base = base_of u;
  earlier = begins_refl (base_of u);
  waiting = none ∙ sym (ap (filter (keeps (hint_of u.view.numbers (base_of u)))) (no_items items.kind));
}

module _ (keeps : ℕ → ℕ → Bool) (hint_of : List ℕ → List Entry → ℕ) (lines : List (List ℕ)) (start u : UpdaterState) (a : BlockItemsState) (way : IsOnItsWay keeps hint_of lines start u a) where
  -- of those that wait the first were taken
  pub takes_waiting : (v : UpdaterState) (b : BlockItemsState) (xs : List ℕ) → a.waiting ≡ xs ++ b.waiting → b.kind ≡ a.kind → b.rest ≡ a.rest → Takes keeps hint_of u xs v → IsOnItsWay keeps hint_of lines start v b
  takes_waiting v b xs is kind rest taken =
      let parts = in_parts (keeps (hint_of u.view.numbers way.base)) a.kind way.next xs b.waiting (sym way.waiting ∙ is) in
      let these : Takes keeps hint_of u (items_in a.kind parts.front) v = takes_by_earlier keeps hint_of u v way.base (items_in a.kind parts.front) way.earlier (subst (λ l. Takes keeps hint_of u l v) parts.first taken) in
      let all : Takes keeps hint_of start (items_in a.kind (way.front ++ parts.front)) v
      = subst (λ l. Takes keeps hint_of start l v) (sym (items_append a.kind way.front parts.front)) (takes_trans keeps hint_of start u v (items_in a.kind way.front) (items_in a.kind parts.front) way.taken these) in
      record {
        front = way.front ++ parts.front;
        next = parts.back;
        joined = way.joined ∙ ap (λ l. (way.front ++ l) ++ a.rest) parts.joined ∙ ap (λ l. l ++ a.rest) (sym (append_assoc way.front parts.front parts.back))
            ∙ ap (λ l. ((way.front ++ parts.front) ++ parts.back) ++ l) (sym rest);
        taken = subst (λ k. Takes keeps hint_of start (items_in k (way.front ++ parts.front)) v) (sym kind) all;
        base = way.base;
        earlier = begins_trans way.base (base_of u) (base_of v) way.earlier taken.goes.base;
        waiting = parts.then ∙ ap (λ n. filter (keeps (hint_of n way.base)) (items_in a.kind parts.back)) (sym taken.goes.numbers)
            ∙ ap (λ k. filter (keeps (hint_of v.view.numbers way.base)) (items_in k parts.back)) (sym kind);
      }

  -- the updater went on without them
  pub waits_on : (v : UpdaterState) → KeepsNone u v → IsOnItsWay keeps hint_of lines start v a
  waits_on v none = takes_waiting v a [] refl refl refl (takes_none keeps hint_of u v none)

  -- none waits: all those of the lines before the rest were taken
  before_taken : a.waiting ≡ [] → Takes keeps hint_of start (items_in a.kind (way.front ++ way.next)) u
  before_taken none =
      let these : Takes keeps hint_of u (items_in a.kind way.next) u
      = takes_by_earlier keeps hint_of u u way.base (items_in a.kind way.next) way.earlier (subst (λ l. Takes keeps hint_of u l u) (sym none ∙ way.waiting) (takes_none keeps hint_of u u (none_refl u))) in
      subst (λ l. Takes keeps hint_of start l u) (sym (items_append a.kind way.front way.next)) (takes_trans keeps hint_of start u u (items_in a.kind way.front) (items_in a.kind way.next) way.taken these)

  -- of lines more those wait that its hint keeps
  pub gathers_more : (b : BlockItemsState) (hint : ℕ) (more : List (List ℕ)) → a.waiting ≡ [] → b.kind ≡ a.kind → hint ≡ hint_of u.view.numbers (base_of u) → a.rest ≡ more ++ b.rest
      → b.waiting ≡ filter (keeps hint) (items_in a.kind more) → IsOnItsWay keeps hint_of lines start u b
  gathers_more b hint more none kind is rest waiting = record {
    front = way.front ++ way.next;
    next = more;
    joined = way.joined ∙ ap (λ l. (way.front ++ way.next) ++ l) rest ∙ sym (append_assoc (way.front ++ way.next) more b.rest);
    taken = subst (λ k. Takes keeps hint_of start (items_in k (way.front ++ way.next)) u) (sym kind) (before_taken none);
    base = base_of u;
    earlier = begins_refl (base_of u);
    waiting = waiting ∙ ap (λ n. filter (keeps n) (items_in a.kind more)) is ∙ ap (λ k. filter (keeps (hint_of u.view.numbers (base_of u))) (items_in k more)) (sym kind);
  }

  pub arrives : a.waiting ≡ [] → a.rest ≡ [] → Takes keeps hint_of start (items_in a.kind lines) u
  arrives none end = subst (λ l. Takes keeps hint_of start (items_in a.kind l) u) (sym (way.joined ∙ ap (λ l. (way.front ++ way.next) ++ l) end ∙ append-nil (way.front ++ way.next))) (before_taken none)

  -- of lines of a window those of the first were taken
  pub front_taken : (all : List (List ℕ)) (from to : ℕ) → from ≤ to → lines ≡ slice_range all from to → (place : ℕ) × (from ≤ place) × (place ≤ to) × Takes keeps hint_of start (items_in a.kind (slice_range all from place)) u
  front_taken all from to order is =
      let n = length way.front in
      let few : n ≤ to - from = omega (
        arith,
        ap length (sym way.joined ∙ is),
        length-append (way.front ++ way.next) a.rest,
        length-append way.front way.next,
        length-take (to - from) (drop from all),
      ) in
      let count : from + n - from ≡ n = omega arith in
      let first : way.front ≡ slice_range all from (from + n)
      = sym (take_at way.front (way.next ++ a.rest) n refl) ∙ ap (take n) (sym (append_assoc way.front way.next a.rest) ∙ sym way.joined ∙ is) ∙ take-take n (to - from) (drop from all) few
      ∙ ap (λ k. take k (drop from all)) (sym count) in
      (from + n, omega arith, omega arith, subst (λ l. Takes keeps hint_of start (items_in a.kind l) u) first way.taken)
