-- The blocks of a window, one after another.
use Rattle.std.proofs.Common.{◌≡◌, ℕ, zero, suc, ◌+◌, ◌<◌, List, ◌++◌, length, drop, flat_map, sym, ap, ◌∙◌, arith}
use Rattle.std.specs.List.{range_with_len}
use Rattle.std.proofs.lemmas.List.{drop_all}
use Rattle.std.proofs.lemmas.List.Folds.{drop_split}
use Rattle.sk_read.specs.declared.kind.Kind.{Kind}
use Rattle.sk_fill.specs.Blocks.{place_of, block_of}
use Rattle.sk_fill.specs.Windows.{items_in}
use Rattle.sk_fill.proofs.Blocks.{first_place, last_place, places_rise}
use Rattle.sk_fill.proofs.Items.{items_append, no_items}

-- the blocks from one on have all lines from where it begins
joined_from : (lines : List (List ℕ)) (n from count : ℕ) → 0 < n → from + count ≡ n → flat_map (λ i. block_of lines i n) (range_with_len from count) ≡ drop (place_of (length lines) from n) lines
joined_from lines n from zero some end =
    let last : from ≡ n = omega arith in
    sym (ap (λ i. drop (place_of (length lines) i n) lines) last ∙ ap (λ k. drop k lines) (last_place (length lines) n some) ∙ drop_all (length lines) lines (omega arith))
joined_from lines n from (suc count) some end =
    ap (λ l. block_of lines from n ++ l) (joined_from lines n (from + 1) count some (omega arith))
    ∙ sym (drop_split lines (place_of (length lines) from n) (place_of (length lines) (from + 1) n) (places_rise (length lines) from n some))

pub blocks_joined : (lines : List (List ℕ)) (n : ℕ) → 0 < n → flat_map (λ i. block_of lines i n) (range_with_len 0 n) ≡ lines
blocks_joined lines n some = joined_from lines n 0 n some (omega arith) ∙ ap (λ k. drop k lines) (first_place (length lines) n)

-- so have their items
items_of_each : (kind : Kind) (block : ℕ → List (List ℕ)) (from count : ℕ) → flat_map (λ i. items_in kind (block i)) (range_with_len from count) ≡ items_in kind (flat_map block (range_with_len from count))
items_of_each kind block from zero = sym (no_items kind)
items_of_each kind block from (suc count) =
    ap (λ l. items_in kind (block from) ++ l) (items_of_each kind block (from + 1) count)
    ∙ sym (items_append kind (block from) (flat_map block (range_with_len (from + 1) count)))

pub items_joined : (kind : Kind) (lines : List (List ℕ)) (n : ℕ) → 0 < n → flat_map (λ i. items_in kind (block_of lines i n)) (range_with_len 0 n) ≡ items_in kind lines
items_joined kind lines n some = items_of_each kind (λ i. block_of lines i n) 0 n ∙ ap (items_in kind) (blocks_joined lines n some)
