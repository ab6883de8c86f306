-- The items of lines of which a hint keeps some.
use Rattle.std.proofs.Common.{◌≡◌, ℕ, ◌+◌, ◌<◌, ◌≤◌, Bool, true, false, cond, List, [], ◌∷◌, ◌++◌, length, get_or, set, take, Some, None, sym, ap, refl, ◌∙◌, arith, append-nil}
use Rattle.std.specs.List.{filter}
use Rattle.std.specs.Int.{from_bool}
use Rattle.std.proofs.lemmas.List.{take_more, take_more_set, take-set}
use Rattle.std.proofs.lemmas.List.Elements.{filter-append, All-filter, All-nil}
use Rattle.sk_model.specs.Width.{IsItem, AreItems}
use Rattle.sk_read.specs.declared.kind.Kind.{Kind}
use Rattle.sk_read.specs.Items.{IsGood}
use Rattle.sk_fill.specs.Gathers.{HasGathered}
use Rattle.sk_fill.specs.Windows.{item_in, items_in}
use Rattle.sk_fill.proofs.Items.{no_items, items_append, one_item, no_item, items_below}

-- an item was written behind those kept, and counts where it is kept
one_counted : (p : ℕ → Bool) (xs kept : List ℕ) (n item : ℕ) (b : Bool) → p item ≡ b → n < length kept → take n kept ≡ filter p xs → take (n + from_bool b) (set kept n item) ≡ filter p (xs ++ item ∷ [])
one_counted p xs kept n item true passes within was = take_more_set kept n item within ∙ ap (λ l. l ++ item ∷ []) was ∙ sym (filter-append p xs (item ∷ []) ∙ ap (λ c. filter p xs ++ cond c (item ∷ []) []) passes)
one_counted p xs kept n item false fails within was =
    let still : n + from_bool false ≡ n = omega arith in
    ap (λ m. take m (set kept n item)) still ∙ take-set kept n item ∙ was ∙ sym (filter-append p xs (item ∷ []) ∙ ap (λ c. filter p xs ++ cond c (item ∷ []) []) fails ∙ append-nil (filter p xs))

pub few_counted : (b : Bool) → from_bool b ≤ 1
few_counted true = omega arith
few_counted false = omega arith

-- of one line more
pub item_gathered : (p : ℕ → Bool) (kind : Kind) (lines : List (List ℕ)) (at n item : ℕ) (kept : List ℕ) → at < length lines → item_in kind (get_or lines at []) ≡ Some item → n < length kept → take n kept ≡ filter p (items_in kind (take at lines))
    → take (n + from_bool (p item)) (set kept n item) ≡ filter p (items_in kind (take (at + 1) lines))
item_gathered p kind lines at n item kept within is room was =
    one_counted p (items_in kind (take at lines)) kept n item (p item) refl room was
    ∙ ap (filter p) (sym (ap (items_in kind) (take_more lines at [] within) ∙ items_append kind (take at lines) (get_or lines at [] ∷ []) ∙ ap (λ l. items_in kind (take at lines) ++ l) (one_item kind (get_or lines at []) item is)))

-- of a line more that is empty
pub none_gathered : (p : ℕ → Bool) (kind : Kind) (lines : List (List ℕ)) (at n : ℕ) (kept : List ℕ) → at < length lines → item_in kind (get_or lines at []) ≡ None → take n kept ≡ filter p (items_in kind (take at lines))
    → take n kept ≡ filter p (items_in kind (take (at + 1) lines))
none_gathered p kind lines at n kept within is was =
    was ∙ ap (filter p) (sym (ap (items_in kind) (take_more lines at [] within) ∙ items_append kind (take at lines) (get_or lines at [] ∷ []) ∙ ap (λ l. items_in kind (take at lines) ++ l) (no_item kind (get_or lines at []) is) ∙ append-nil (items_in kind (take at lines))))

pub filtered_below : (p : ℕ → Bool) (kind : Kind) (lines : List (List ℕ)) → AreItems (filter p (items_in kind lines))
filtered_below p kind lines = All-filter p IsItem (items_in kind lines) (items_below kind lines)

-- of no line
pub nothing_gathered : (p : ℕ → Bool) (kind : Kind) (lines : List (List ℕ)) (kept : List ℕ) → HasGathered p kind lines kept 0 0
nothing_gathered p kind lines kept = record {
  within = omega arith;
  few = omega arith;
  good = All-nil (IsGood kind);
  kept = sym (ap (filter p) (no_items kind));
}
