-- Lines whose items an updater takes.
use Rattle.std.proofs.Common.{◌≡◌, ◌⊎◌, inl, inr, ℕ, ◌+◌, ◌-◌, ◌<◌, ◌≤◌, List, [], ◌∷◌, length, get_or, slice_range, Bool, Some, None, subst, sym, ap, ◌∙◌, arith}
use Rattle.sk_model.specs.Entries.{Entry}
use Rattle.sk_read.specs.declared.kind.Kind.{Kind}
use Rattle.sk_hub.specs.Updaters.{UpdaterState, kept_of}
use Rattle.sk_fill.specs.Windows.{item_in, items_in}
use Rattle.sk_hub.specs.Calls.{KeepsNone, Takes}
use Rattle.sk_model.proofs.Lists.{slice_none, slice_split}
use Rattle.sk_fill.proofs.Items.{no_items, next_item, next_empty, items_append}
use Rattle.sk_hub.proofs.Calls.{none_refl, takes_none, takes_trans, takes_then_none, takes_few}

pub no_line : (keeps : ℕ → ℕ → Bool) (hint_of : List ℕ → List Entry → ℕ) (u : UpdaterState) (kind : Kind) (lines : List (List ℕ)) (from : ℕ) → Takes keeps hint_of u (items_in kind (slice_range lines from from)) u
no_line keeps hint_of u kind lines from = subst (λ l. Takes keeps hint_of u l u) (sym (ap (items_in kind) (slice_none lines from) ∙ no_items kind)) (takes_none keeps hint_of u u (none_refl u))

-- a block in two parts
pub parts_add_up : (keeps : ℕ → ℕ → Bool) (hint_of : List ℕ → List Entry → ℕ) (kind : Kind) (lines : List (List ℕ)) (from place to : ℕ) (u v w : UpdaterState) → from ≤ place → place ≤ to
    → Takes keeps hint_of u (items_in kind (slice_range lines from place)) v → Takes keeps hint_of v (items_in kind (slice_range lines place to)) w → Takes keeps hint_of u (items_in kind (slice_range lines from to)) w
parts_add_up keeps hint_of kind lines from place to u v w low high a b =
    subst (λ l. Takes keeps hint_of u l w) (sym (ap (items_in kind) (slice_split lines from place to low high) ∙ items_append kind (slice_range lines from place) (slice_range lines place to)))
    (takes_trans keeps hint_of u v w (items_in kind (slice_range lines from place)) (items_in kind (slice_range lines place to)) a b)

-- a line more, which has an item
pub line_taken : (keeps : ℕ → ℕ → Bool) (hint_of : List ℕ → List Entry → ℕ) (u v w : UpdaterState) (kind : Kind) (lines : List (List ℕ)) (from at item : ℕ) → from ≤ at → at < length lines → item_in kind (get_or lines at []) ≡ Some item
    → Takes keeps hint_of u (items_in kind (slice_range lines from at)) v → Takes keeps hint_of v (item ∷ []) w → Takes keeps hint_of u (items_in kind (slice_range lines from (at + 1))) w
line_taken keeps hint_of u v w kind lines from at item le within is a b =
    subst (λ l. Takes keeps hint_of u l w) (sym (next_item kind lines from at item le within is)) (takes_trans keeps hint_of u v w (items_in kind (slice_range lines from at)) (item ∷ []) a b)

-- one more, which has none
pub line_passed : (keeps : ℕ → ℕ → Bool) (hint_of : List ℕ → List Entry → ℕ) (u v : UpdaterState) (kind : Kind) (lines : List (List ℕ)) (from at : ℕ) → from ≤ at → at < length lines → item_in kind (get_or lines at []) ≡ None
    → Takes keeps hint_of u (items_in kind (slice_range lines from at)) v → Takes keeps hint_of u (items_in kind (slice_range lines from (at + 1))) v
line_passed keeps hint_of u v kind lines from at le within is a = subst (λ l. Takes keeps hint_of u l v) (sym (next_empty kind lines from at le within is)) a

-- a line at which memory ran out
pub line_refused : (keeps : ℕ → ℕ → Bool) (hint_of : List ℕ → List Entry → ℕ) (u v w : UpdaterState) (kind : Kind) (lines : List (List ℕ)) (from at to item : ℕ) → from ≤ at → at < to → to ≤ length lines → item_in kind (get_or lines at []) ≡ Some item
    → Takes keeps hint_of u (items_in kind (slice_range lines from at)) v → KeepsNone v w ⊎ Takes keeps hint_of v (item ∷ []) w → (place : ℕ) × (from ≤ place) × (place ≤ to) × Takes keeps hint_of u (items_in kind (slice_range lines from place)) w
line_refused keeps hint_of u v w kind lines from at to item le below within is a (inl none) = (at, le, omega arith, takes_then_none keeps hint_of u v w (items_in kind (slice_range lines from at)) a none)
line_refused keeps hint_of u v w kind lines from at to item le below within is a (inr taken) =
    let inside : at < length lines = omega arith in (at + 1, omega arith, omega arith, line_taken keeps hint_of u v w kind lines from at item le inside is a taken)

-- ---- how much more it may keep

pub room_after : (keeps : ℕ → ℕ → Bool) (hint_of : List ℕ → List Entry → ℕ) (v w : UpdaterState) (item at to most : ℕ) → Takes keeps hint_of v (item ∷ []) w → at < to → length (kept_of v) + (to - at) ≤ most → length (kept_of w) + (to - (at + 1)) ≤ most
room_after keeps hint_of v w item at to most taken below room = let few = takes_few keeps hint_of v w (item ∷ []) taken in omega arith

pub room_passed : (kept at to most : ℕ) → kept + (to - at) ≤ most → kept + (to - (at + 1)) ≤ most
room_passed kept at to most room = omega arith
