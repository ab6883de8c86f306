-- Units of which the items alone are held.
use Rattle.std.proofs.Common.{◌≡◌, ℕ, ◌+◌, ◌-◌, ◌*◌, ◌<◌, ◌≤◌, ◌==◌, ◌||◌, ◌&&◌, nat_lt, nat_le, cond, Bool, true, false, List, [], ◌∷◌, ◌++◌, length, get_or, set, take, drop, map, slice_range, All, Option, Some, None, unwrap_or, sym, ap, refl, ◌∙◌, subst, arith, append-nil, length-append}
use Rattle.std.specs.List.{concat, filter}
use Rattle.std.specs.Int.{from_bool}
use Rattle.std.proofs.lemmas.Bool.{lt-ltb, ltb-true, lt-leb, ne_eqb, eqb-false, leb-false, or_parts}
use Rattle.std.proofs.lemmas.List.{take-map, drop-map, map-append, map_more, length-map, length-take, length-take-le, take_more, take_more_set, take-set, take-append-drop}
use Rattle.std.proofs.lemmas.List.Elements.{filter-append, All-nil, All-cons, All-head, All-tail, All-more, All-take}
use Rattle.sk_model.specs.Entries.{Entry}
use Rattle.sk_model.specs.Lines.{AreWithin}
use Rattle.sk_model.specs.Limits.{line_limit, most_kept}
use Rattle.sk_model.specs.Width.{item_end, IsItem, AreItems}
use Rattle.sk_hub.specs.Updaters.{UpdaterState, kept_of}
use Rattle.sk_hub.specs.Calls.{Takes}
use Rattle.sk_read.specs.declared.kind.Kind.{Kind}
use Rattle.sk_read.specs.Items.{item_of, IsGood}
use Rattle.sk_fill.specs.Blocks.{place_of, block_of}
use Rattle.sk_fill.specs.Windows.{full_bytes, fills, FillsNone, item_in, items_in}
use Rattle.sk_feed.specs.Rounds.{HaveRoom}
use Rattle.sk_feed.specs.Shares.{TakeShares}
use Rattle.sk_ingest.specs.ItemWindows.{ItemWindowState, held_of, AreHeld, items_held, Holds, HoldsMore, has_filled, HasHeld, held_block, TakeHeld}
use Rattle.sk_fill.proofs.Items.{items_append, one_item, no_item, no_items, items_below}
use Rattle.sk_fill.proofs.Pages.{concat_more}
use Rattle.sk_fill.proofs.Units.{item_is, empty_is}
use Rattle.sk_feed.proofs.Shares.{one_window}

-- ---- what is held of lines

one_held : (kind : Kind) (line : List ℕ) (o : Option ℕ) → item_in kind line ≡ o → items_held (held_of kind line ∷ []) ≡ items_in kind (line ∷ [])
one_held kind line None is = ap (λ o. items_held (unwrap_or o 0 ∷ [])) is ∙ sym (no_item kind line is)
one_held kind line (Some x) is =
    let below : IsItem x = All-head IsItem x [] (subst AreItems (one_item kind line x is) (items_below kind (line ∷ []))) in
    ap (λ o. items_held (unwrap_or o 0 ∷ [])) is ∙ ap (λ b. cond b (x ∷ []) []) (lt-ltb 0 x (omega (arith, below))) ∙ sym (one_item kind line x is)

-- the items among what is held of lines are theirs
pub held_items : (kind : Kind) (lines : List (List ℕ)) → items_held (map (held_of kind) lines) ≡ items_in kind lines
held_items kind [] = sym (no_items kind)
held_items kind (line ∷ lines) =
    let rest : List ℕ = map (held_of kind) lines in
    filter-append (λ item. nat_lt 0 item) (held_of kind line ∷ []) rest
    ∙ ap (λ l. l ++ items_held rest) (one_held kind line (item_in kind line) refl)
    ∙ ap (λ l. items_in kind (line ∷ []) ++ l) (held_items kind lines)
    ∙ sym (items_append kind (line ∷ []) lines)

one_below : (kind : Kind) (line : List ℕ) (o : Option ℕ) → item_in kind line ≡ o → held_of kind line < item_end
one_below kind line None is = subst (λ o. unwrap_or o 0 < item_end) (sym is) (omega arith)
one_below kind line (Some x) is =
    let below : IsItem x = All-head IsItem x [] (subst AreItems (one_item kind line x is) (items_below kind (line ∷ []))) in
    subst (λ o. unwrap_or o 0 < item_end) (sym is) below.1

pub lines_held : (kind : Kind) (lines : List (List ℕ)) → AreHeld (map (held_of kind) lines)
lines_held kind [] = All-nil (λ item. item < item_end)
lines_held kind (line ∷ lines) = All-cons (λ item. item < item_end) (held_of kind line) (map (held_of kind) lines) (one_below kind line (item_in kind line) refl) (lines_held kind lines)

pub are_held : (kind : Kind) (units : List (List ℕ)) (w : ItemWindowState) → Holds kind units w → AreHeld w.items
are_held kind units w holds = subst AreHeld (sym holds.items) (lines_held kind units)

-- the items among what is held
pub held_are_items : (held : List ℕ) → AreHeld held → AreItems (items_held held)
held_are_items [] below = All-nil IsItem
held_are_items (x ∷ held) below = by (held_are_items held (All-tail (λ item. item < item_end) x held below)) (nat_lt 0 x) refl
  where
    by : AreItems (items_held held) → (b : Bool) → nat_lt 0 x ≡ b → AreItems (items_held (x ∷ held))
    by rest true some = subst (λ b. AreItems (cond b (x ∷ items_held held) (items_held held))) (sym some)
        (All-cons IsItem x (items_held held) (omega (arith, ltb-true 0 x some), All-head (λ item. item < item_end) x held below) rest)
    by rest false none = subst (λ b. AreItems (cond b (x ∷ items_held held) (items_held held))) (sym none) rest

-- ---- blocks

held_slice : (kind : Kind) (lines : List (List ℕ)) (from to : ℕ) → slice_range (map (held_of kind) lines) from to ≡ map (held_of kind) (slice_range lines from to)
held_slice kind lines from to = ap (λ (l : List ℕ). take (to - from) l) (drop-map (held_of kind) from lines) ∙ take-map (held_of kind) (to - from) (drop from lines)

-- what is held of a block
pub block_held : (kind : Kind) (units : List (List ℕ)) (w : ItemWindowState) (i n : ℕ) → Holds kind units w → held_block w.items i n ≡ map (held_of kind) (block_of units i n)
block_held kind units w i n holds =
    ap (λ l. held_block l i n) holds.items
    ∙ ap (λ m. slice_range (map (held_of kind) units) (place_of m i n) (place_of m (i + 1) n)) (length-map units (held_of kind))
    ∙ held_slice kind units (place_of (length units) i n) (place_of (length units) (i + 1) n)

pub held_room : (kind : Kind) (units : List (List ℕ)) (w : ItemWindowState) (us : List UpdaterState) → Holds kind units w → HaveRoom units us
    → (i : ℕ) (d : UpdaterState) → i < length us → length (kept_of (get_or us i d)) + length (held_block w.items i (length us)) ≤ most_kept
held_room kind units w us holds room i d within =
    let here = room i d within in
    omega (arith, here, ap length (block_held kind units w i (length us) holds), length-map (block_of units i (length us)) (held_of kind))

pub held_fed : (keeps : ℕ → ℕ → Bool) (hint_of : List ℕ → List Entry → ℕ) (kind : Kind) (units : List (List ℕ)) (w : ItemWindowState) (us us' : List UpdaterState) → Holds kind units w → TakeHeld keeps hint_of w.items us us' → TakeShares keeps hint_of kind (units ∷ []) us us'
held_fed keeps hint_of kind units w us us' holds taken = one_window keeps hint_of kind units us us' taken.count
    (λ i d within. subst (λ l. Takes keeps hint_of (get_or us i d) l (get_or us' i d)) (ap (λ l. items_held l) (block_held kind units w i (length us) holds) ∙ held_items kind (block_of units i (length us))) (taken.each i d within))

-- ---- a window

pub holds_none : (kind : Kind) (w : ItemWindowState) → w.items ≡ [] → w.bytes ≡ 0 → Holds kind [] w
holds_none kind w items bytes = record { items = items; bytes = bytes }

pub fills_by_held : (kind : Kind) (units : List (List ℕ)) (w : ItemWindowState) → Holds kind units w → has_filled w ≡ fills w.most units
fills_by_held kind units w holds =
    ap (λ n. (n == w.most) || nat_le full_bytes w.bytes) (ap length holds.items ∙ length-map units (held_of kind))
    ∙ ap (λ b. (length units == w.most) || nat_le full_bytes b) holds.bytes

pub holds_next : (kind : Kind) (units lines : List (List ℕ)) (w w' : ItemWindowState) → Holds kind units w → w'.items ≡ w.items ++ map (held_of kind) lines → w'.bytes ≡ w.bytes + length (concat lines) → Holds kind (units ++ lines) w'
holds_next kind units lines w w' holds items bytes = record {
  items = items ∙ ap (λ l. l ++ map (held_of kind) lines) holds.items ∙ sym (map-append (held_of kind) units lines);
  bytes = omega (arith, bytes, holds.bytes, concat_more units lines);
}

-- where it is not full, no beginning of its units fills one
pub held_unfilled : (kind : Kind) (units : List (List ℕ)) (w : ItemWindowState) (most : ℕ) → Holds kind units w → w.most ≡ most → length w.items < w.most → w.bytes < full_bytes → FillsNone most units
held_unfilled kind units w most holds is few small = λ n within.
    let front : List (List ℕ) = take n units in
    let count : length front < most = omega (arith, is, few, ap length holds.items, length-map units (held_of kind), length-take n units) in
    let parts : length (concat (front ++ drop n units)) ≡ length (concat front) + length (concat (drop n units)) = concat_more front (drop n units) in
    let all : length (concat (front ++ drop n units)) ≡ length (concat units) = ap (λ (l : List (List ℕ)). length (concat l)) (take-append-drop n units) in
    ap (λ b. b || nat_le full_bytes (length (concat front))) (ne_eqb (length front) most (λ same. let no : ⊥ = omega arith in absurd no))
    ∙ lt-leb full_bytes (length (concat front)) (omega (arith, parts, all, holds.bytes, small))

-- ---- lines of a text

pub none_held : (kind : Kind) (lines : List (List ℕ)) (written : List ℕ) → HasHeld kind lines written 0 0
none_held kind lines written = record { within = omega arith; good = All-nil (IsGood kind); held = refl; size = refl }

-- one line more
pub line_held : (kind : Kind) (lines : List (List ℕ)) (written : List ℕ) (at bytes item size bytes' : ℕ) → HasHeld kind lines written at bytes → at < length lines → at < length written → IsGood kind (get_or lines at []) → item ≡ held_of kind (get_or lines at []) → size ≡ length (get_or lines at []) → bytes' ≡ bytes + size
    → HasHeld kind lines (set written at item) (at + 1) bytes'
line_held kind lines written at bytes item size bytes' was inside room good is size_is sum =
    let line : List ℕ = get_or lines at [] in
    let more : take (at + 1) lines ≡ take at lines ++ line ∷ [] = take_more lines at [] inside in record {
      within = omega (arith, inside);
      good = All-more (IsGood kind) lines at [] inside was.good good;
      held = take_more_set written at item room ∙ ap (λ l. l ++ item ∷ []) was.held ∙ ap (λ x. map (held_of kind) (take at lines) ++ x ∷ []) is
          ∙ sym (map_more (held_of kind) lines at [] inside);
      size = omega (arith, was.size, sum, size_is, ap (λ (l : List (List ℕ)). length (concat l)) more, concat_more (take at lines) (line ∷ []), ap length (append-nil line));
    }

-- short lines have few bytes
pub short_lines : (lines : List (List ℕ)) → AreWithin line_limit lines → length (concat lines) ≤ line_limit * length lines
short_lines [] within = omega arith
short_lines (line ∷ lines) within =
    let first : length line ≤ line_limit = All-head (λ (l : List ℕ). length l ≤ line_limit) line lines within in
    let rest = short_lines lines (All-tail (λ (l : List ℕ). length l ≤ line_limit) line lines within) in
    omega (arith, first, rest, length-append line (concat lines))

-- ---- a unit

pub item_is_held : (kind : Kind) (unit : List ℕ) (item : ℕ) → 0 < length unit → item_of kind unit ≡ Some item → item ≡ held_of kind unit
item_is_held kind unit item some is = sym (ap (λ o. unwrap_or o 0) (item_is kind unit item some is))

pub none_is_held : (kind : Kind) (unit : List ℕ) → length unit ≡ 0 → 0 ≡ held_of kind unit
none_is_held kind unit none = sym (ap (λ o. unwrap_or o 0) (empty_is kind unit none))

-- ---- what a hint keeps

few_kept : (p : ℕ → Bool) (held : List ℕ) → length (filter p held) ≤ length held
few_kept p [] = omega arith
few_kept p (x ∷ held) = by (few_kept p held) (p x) refl
  where
    by : length (filter p held) ≤ length held → (b : Bool) → p x ≡ b → length (filter p (x ∷ held)) ≤ length (x ∷ held)
    by few true is = subst (λ b. length (cond b (x ∷ filter p held) (filter p held)) ≤ length (x ∷ held)) (sym is) (omega arith)
    by few false is = subst (λ b. length (cond b (x ∷ filter p held) (filter p held)) ≤ length (x ∷ held)) (sym is) (omega arith)

pub few_held : (held : List ℕ) → length (items_held held) ≤ length held
few_held held = few_kept (λ item. nat_lt 0 item) held

-- one more is written after those kept, and counts if it is an item that the hint keeps
pub next_kept : (p : ℕ → Bool) (held kept : List ℕ) (at n : ℕ) (counts : Bool) → at < length held → n < length kept → counts ≡ (nat_lt 0 (get_or held at 0) && p (get_or held at 0)) → take n kept ≡ filter p (items_held (take at held))
    → take (n + from_bool counts) (set kept n (get_or held at 0)) ≡ filter p (items_held (take (at + 1) held))
next_kept p held kept at n counts inside room is was = by (nat_lt 0 x) (p x) counts refl refl is
  where
    x : ℕ
    x = get_or held at 0

    more : filter p (items_held (take (at + 1) held)) ≡ filter p (items_held (take at held)) ++ filter p (items_held (x ∷ []))
    more = ap (λ l. filter p (items_held l)) (take_more held at 0 inside) ∙ ap (λ l. filter p l) (filter-append (λ item. nat_lt 0 item) (take at held) (x ∷ [])) ∙ filter-append p (items_held (take at held)) (items_held (x ∷ []))

    all : take (n + 1) (set kept n x) ≡ take n kept ++ x ∷ []
    all = take_more_set kept n x room

    left : filter p (items_held (x ∷ [])) ≡ [] → take (n + 0) (set kept n x) ≡ filter p (items_held (take (at + 1) held))
    left none =
        let still : n + 0 ≡ n = omega arith in
        ap (λ m. take m (set kept n x)) still ∙ take-set kept n x ∙ was ∙ sym (more ∙ ap (λ l. filter p (items_held (take at held)) ++ l) none ∙ append-nil (filter p (items_held (take at held))))

    by : (some keeps c : Bool) → nat_lt 0 x ≡ some → p x ≡ keeps → c ≡ (nat_lt 0 x && p x) → take (n + from_bool c) (set kept n x) ≡ filter p (items_held (take (at + 1) held))
    by true true c some keeps told =
        let counts : c ≡ true = told ∙ ap (λ b. b && p x) some ∙ keeps in
        ap (λ b. take (n + from_bool b) (set kept n x)) counts ∙ all ∙ ap (λ l. l ++ x ∷ []) was
        ∙ sym (more ∙ ap (λ l. filter p (items_held (take at held)) ++ l) (ap (λ b. filter p (cond b (x ∷ []) [])) some ∙ ap (λ b. cond b (x ∷ []) []) keeps))
    by true false c some keeps told =
        let counts : c ≡ false = told ∙ ap (λ b. b && p x) some ∙ keeps in
        ap (λ b. take (n + from_bool b) (set kept n x)) counts ∙ left (ap (λ b. filter p (cond b (x ∷ []) [])) some ∙ ap (λ b. cond b (x ∷ []) []) keeps)
    by false keeps c none is told =
        let counts : c ≡ false = told ∙ ap (λ b. b && p x) none in
        ap (λ b. take (n + from_bool b) (set kept n x)) counts ∙ left (ap (λ b. filter p (cond b (x ∷ []) [])) none)

pub at_most_one : (b : Bool) → from_bool b ≤ 1
at_most_one true = omega arith
at_most_one false = omega arith

pub short_front : (kind : Kind) (lines : List (List ℕ)) (written : List ℕ) (count bytes : ℕ) → AreWithin line_limit lines → HasHeld kind lines written count bytes → bytes ≤ line_limit * count
short_front kind lines written count bytes within has =
    let few = short_lines (take count lines) (All-take (λ (l : List ℕ). length l ≤ line_limit) count lines within) in
    omega (arith, has.size, few, length-take-le count lines has.within)

-- a window that is not full
pub is_open : (w : ItemWindowState) → has_filled w ≡ false → (length w.items ≡ w.most → ⊥) × (w.bytes < full_bytes)
is_open w still =
    let parts = or_parts (length w.items == w.most) (nat_le full_bytes w.bytes) still in
    (eqb-false (length w.items) w.most parts.0, leb-false full_bytes w.bytes parts.1)
