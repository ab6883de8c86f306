-- Lemmas on a sketch as contracts see it.
use Rattle.std.proofs.Common.{◌≡◌, ℕ, Vec, Global, All, vec_capacity, ◌+◌, ◌*◌, ◌/◌, ◌<◌, ◌≤◌, List, [], ◌∷◌, ◌++◌, length, take, drop, replicate, refl, sym, ap, subst, ◌∙◌, arith, length-append, mod-lt}
use Rattle.std.specs.Int.{abs_diff}
use Rattle.std.specs.List.Sorted.{IsNonDecreasing}
use Rattle.std.specs.Vec.{with_items}
use Rattle.std.proofs.Math.Seq.{take-add}
use Rattle.std.proofs.lemmas.List.{with_items_is}
use Rattle.std.proofs.lemmas.List.Sums.{fold-append}
use Rattle.sk_quant.specs.Coins.{Coins, coin_of}
use Rattle.sk_quant.specs.Held.{Held, nothing_held, held_with, held_with_all, held_after, layers_of, ranked}
use Rattle.sk_quant.specs.Limits.{least_quantile_k, most_quantile_k, key_end, most_items, level_count}
use Rattle.sk_quant.specs.Quantiles.{Quantiles, updated, updated_all, IsSketchOf, IsWholeQuantiles}
use Rattle.sk_quant.specs.Ranks.{rank_of, weighted_rank, weight_of, rank_error}
use Rattle.sk_quant.specs.Stored.{lists_of, held_in, shown_by, AreStored}
use Rattle.sk_quant.proofs.Bounds.{levels_are_short, after_none, one_more_filled, held_after_push, ranks_are_near, weight_of_layers}

-- the sketch of no items
abbrev pub empty : ℕ → ℕ → Quantiles
empty k key = record { k = k; key = key; count = 0; held = nothing_held }

pub whole_empty : (k key : ℕ) → least_quantile_k ≤ k → k ≤ most_quantile_k → key < key_end → IsWholeQuantiles (empty k key)
whole_empty k key least most small = record { least = least; most = most; key = small; count = omega arith; filled = (after_none k).filled }

pub empty_is_of : (k key : ℕ) → IsSketchOf (empty k key) []
unfolding held_after
empty_is_of k key = record { count = refl; held = refl }

pub whole_updated : (sketch : Quantiles) (x : ℕ) → IsWholeQuantiles sketch → sketch.count < most_items → IsWholeQuantiles (updated sketch x)
whole_updated sketch x whole few = record {
  least = whole.least;
  most = whole.most;
  key = whole.key;
  count = omega arith;
  filled = one_more_filled (coin_of sketch.key) sketch.k sketch.count x sketch.held (omega (arith, whole.least)) few whole.filled;
}

pub updated_is_of : (sketch : Quantiles) (x : ℕ) (items : List ℕ) → IsSketchOf sketch items → IsSketchOf (updated sketch x) (items ++ x ∷ [])
updated_is_of sketch x items is = record {
  count = omega (arith, is.count, length-append items (x ∷ []));
  held = ap (λ (h : Held). held_with (coin_of sketch.key) sketch.k h x) is.held ∙ sym (held_after_push (coin_of sketch.key) sketch.k x items);
}

pub ranked_is : (sketch : Quantiles) (x : ℕ) (items : List ℕ) → IsSketchOf sketch items → weighted_rank x (layers_of sketch.held) ≡ ranked x sketch.k sketch.key items
unfolding ranked
ranked_is sketch x items is = ap (λ (h : Held). weighted_rank x (layers_of h)) is.held

pub rank_is_near : (sketch : Quantiles) (x : ℕ) (items : List ℕ) → IsWholeQuantiles sketch → IsSketchOf sketch items → abs_diff (weighted_rank x (layers_of sketch.held)) (rank_of x items) ≤ rank_error (length items) sketch.k
rank_is_near sketch x items whole is =
    subst (λ (h : Held). abs_diff (weighted_rank x (layers_of h)) (rank_of x items) ≤ rank_error (length items) sketch.k) (sym is.held)
    (ranks_are_near (coin_of sketch.key) sketch.k x items (omega (arith, whole.least)) (omega (arith, whole.count, is.count)))

pub weight_of_whole : (sketch : Quantiles) → IsWholeQuantiles sketch → weight_of (layers_of sketch.held) ≡ sketch.count
weight_of_whole sketch whole = weight_of_layers sketch.k sketch.count sketch.held whole.filled

pub base_is_short : (sketch : Quantiles) → IsWholeQuantiles sketch → length sketch.held.base < 2 * sketch.k
base_is_short sketch whole =
    omega (arith, whole.filled.base, mod-lt sketch.count {m = 2 * sketch.k} (omega (arith, whole.least)))

pub levels_of_whole : (sketch : Quantiles) → IsWholeQuantiles sketch → All (λ level. (length level ≤ sketch.k) × IsNonDecreasing level) sketch.held.levels
levels_of_whole sketch whole = levels_are_short sketch.k (sketch.count / (2 * sketch.k)) sketch.held.levels whole.filled.levels

-- ---- the fields after an update

pub levels_rise : (sketch : Quantiles) → IsWholeQuantiles sketch → All (λ (level : List ℕ). IsNonDecreasing level) sketch.held.levels
levels_rise sketch whole k d inside = (levels_of_whole sketch whole k d inside).1

-- levels that were lent and came back
pub items_back : (levels : Vec (Vec ℕ Global) Global) (lent now : List (Vec ℕ Global)) → lent ≡ levels.items → length now ≡ length lent → (with_items levels now).items ≡ now
items_back levels lent now is_lent long =
    with_items_is levels now (omega (arith, long, ap (λ (ls : List (Vec ℕ Global)). length ls) is_lent, levels.ok.0))

-- what is put into base, levels and coins is what an update leaves, where the levels are lent and come back
pub shown_updated : (k count x : ℕ) (base base' : Vec ℕ Global) (levels : Vec (Vec ℕ Global) Global) (lent now : List (Vec ℕ Global)) (coins coins' : Coins) → lent ≡ levels.items → length now ≡ length lent → coins'.key ≡ coins.key
    → held_in base' now coins' ≡ held_with (coin_of coins.key) k (held_in base lent coins) x → shown_by k (count + 1) base' (with_items levels now) coins' ≡ updated (shown_by k count base levels coins) x
shown_updated k count x base base' levels lent now coins coins' is_lent long same held =
    ap (λ (ls : List (Vec ℕ Global)). record { k = k; key = coins'.key; count = count + 1; held = held_in base' ls coins' }) (items_back levels lent now is_lent long)
    ∙ ap (λ (key : ℕ). record { k = k; key = key; count = count + 1; held = held_in base' now coins' }) same
    ∙ ap (λ (h : Held). record { k = k; key = coins.key; count = count + 1; held = h }) held
    ∙ ap (λ (ls : List (Vec ℕ Global)). record { k = k; key = coins.key; count = count + 1; held = held_with (coin_of coins.key) k (held_in base ls coins) x }) is_lent

pub stored_updated : (k count x : ℕ) (base base' : Vec ℕ Global) (levels levels' : Vec (Vec ℕ Global) Global) (coins coins' : Coins) → shown_by k (count + 1) base' levels' coins' ≡ updated (shown_by k count base levels coins) x
    → AreStored k count base levels coins → count < most_items → 2 * k ≤ vec_capacity base' → All (λ level. k ≤ vec_capacity level) levels'.items → AreStored k (count + 1) base' levels' coins'
stored_updated k count x base base' levels levels' coins coins' is stored few room rooms = record {
  whole = subst (λ (s : Quantiles). IsWholeQuantiles s) (sym is) (whole_updated (shown_by k count base levels coins) x stored.whole few);
  base_room = room;
  level_rooms = rooms;
}

-- the list of a sketch that was updated
pub list_of_updated : (old new : Quantiles) (x : ℕ) → new ≡ updated old x → (items : List ℕ) → IsSketchOf old items → IsSketchOf new (items ++ x ∷ [])
list_of_updated old new x is items of = subst (λ (s : Quantiles). IsSketchOf s (items ++ x ∷ [])) (sym is) (updated_is_of old x items of)

pub shown_empty : (k key : ℕ) (base : Vec ℕ Global) (levels : Vec (Vec ℕ Global) Global) (coins : Coins) → base.items ≡ [] → lists_of levels.items ≡ replicate level_count [] → coins ≡ record { key = key; taken = 0 } → shown_by k 0 base levels coins ≡ empty k key
shown_empty k key base levels coins none no_levels none_taken =
    ap (λ (c : Coins). shown_by k 0 base levels c) none_taken
    ∙ ap (λ (items : List ℕ). record { k = k; key = key; count = 0; held = record { base = items; levels = lists_of levels.items; place = 0 } }) none
    ∙ ap (λ (ls : List (List ℕ)). record { k = k; key = key; count = 0; held = record { base = []; levels = ls; place = 0 } }) no_levels

-- ---- many items

-- all of them, one after another
pub updated_all_is : (sketch : Quantiles) (items : List ℕ) → updated_all sketch items ≡ record sketch {
  count = sketch.count + length items;
  held = held_with_all (coin_of sketch.key) sketch.k sketch.held items;
}
updated_all_is sketch [] = ap (λ (n : ℕ). record sketch { count = n }) (omega arith)
updated_all_is sketch (x ∷ items) =
    updated_all_is (updated sketch x) items
    ∙ ap (λ (n : ℕ). record sketch { count = n; held = held_with_all (coin_of sketch.key) sketch.k sketch.held (x ∷ items) }) (omega arith)

pub whole_updated_all : (sketch : Quantiles) (items : List ℕ) → IsWholeQuantiles sketch → sketch.count + length items ≤ most_items → IsWholeQuantiles (updated_all sketch items)
whole_updated_all sketch [] whole few = whole
whole_updated_all sketch (x ∷ items) whole few =
    whole_updated_all (updated sketch x) items (whole_updated sketch x whole (omega arith)) (omega arith)

pub count_updated_all : (sketch : Quantiles) (items : List ℕ) → (updated_all sketch items).count ≡ sketch.count + length items
count_updated_all sketch items = ap (λ (s : Quantiles). s.count) (updated_all_is sketch items)

-- some more of the items
pub updated_more : (sketch : Quantiles) (items : List ℕ) (at n : ℕ) → updated_all (updated_all sketch (take at items)) (take n (drop at items)) ≡ updated_all sketch (take (at + n) items)
updated_more sketch items at n =
    sym (fold-append updated sketch (take at items) (take n (drop at items))) ∙ ap (λ (l : List ℕ). updated_all sketch l) (sym (take-add at n items))

-- what is put into base, levels and coins is what these n items leave, where the levels are lent and come back
pub shown_updated_all : (k count n : ℕ) (items : List ℕ) (base base' : Vec ℕ Global) (levels : Vec (Vec ℕ Global) Global) (lent now : List (Vec ℕ Global)) (coins coins' : Coins) → length items ≡ n → lent ≡ levels.items → length now ≡ length lent → coins'.key ≡ coins.key
    → held_in base' now coins' ≡ held_with_all (coin_of coins.key) k (held_in base lent coins) items → shown_by k (count + n) base' (with_items levels now) coins' ≡ updated_all (shown_by k count base levels coins) items
shown_updated_all k count n items base base' levels lent now coins coins' many is_lent long same held =
    ap (λ (ls : List (Vec ℕ Global)). record { k = k; key = coins'.key; count = count + n; held = held_in base' ls coins' }) (items_back levels lent now is_lent long)
    ∙ ap (λ (key : ℕ). record { k = k; key = key; count = count + n; held = held_in base' now coins' }) same
    ∙ ap (λ (h : Held). record { k = k; key = coins.key; count = count + n; held = h }) held
    ∙ ap (λ (ls : List (Vec ℕ Global)). record { k = k; key = coins.key; count = count + n; held = held_with_all (coin_of coins.key) k (held_in base ls coins) items }) is_lent
    ∙ ap (λ (m : ℕ). record { k = k; key = coins.key; count = count + m; held = held_with_all (coin_of coins.key) k (held_in base levels.items coins) items }) (sym many)
    ∙ sym (updated_all_is (shown_by k count base levels coins) items)

pub stored_updated_all : (k count n : ℕ) (items : List ℕ) (base base' : Vec ℕ Global) (levels levels' : Vec (Vec ℕ Global) Global) (coins coins' : Coins) → length items ≡ n → shown_by k (count + n) base' levels' coins' ≡ updated_all (shown_by k count base levels coins) items
    → AreStored k count base levels coins → count + n ≤ most_items → 2 * k ≤ vec_capacity base' → All (λ level. k ≤ vec_capacity level) levels'.items → AreStored k (count + n) base' levels' coins'
stored_updated_all k count n items base base' levels levels' coins coins' many is stored few room rooms = record {
  whole = subst (λ (s : Quantiles). IsWholeQuantiles s) (sym is) (whole_updated_all (shown_by k count base levels coins) items stored.whole (omega (arith, many, few)));
  base_room = room;
  level_rooms = rooms;
}
