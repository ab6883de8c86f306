-- The quantiles sketch as one that takes items: what they leave, and the laws of that.
use Rattle.std.proofs.Common.{◌≡◌, ℕ, zero, suc, ◌+◌, ◌<◌, ◌≤◌, Bool, true, false, nat_lt, if◌then◌else◌, List, [], ◌∷◌, ◌++◌, length, slice_index, take, fold, refl, sym, ap, subst, ◌∙◌, arith, append_assoc, length-append}
use Rattle.std.proofs.lemmas.List.{append-nil}
use Rattle.std.proofs.lemmas.Bool.Decides.{nat_tests}
use Rattle.std.specs.Int.{abs_diff}
use Rattle.sk_quant.specs.Coins.{coin_of}
use Rattle.sk_quant.specs.Held.{ranked, held_after}
use Rattle.sk_quant.specs.Limits.{most_items}
use Rattle.sk_quant.specs.Quantiles.{Quantiles, updated, updated_all, IsSketchOf}
use Rattle.sk_quant.specs.Ranks.{rank_of, rank_error}
use Rattle.sk_quant.proofs.Sketches.{updated_is_of}

-- the fixed numbers of a sketch with this k, which tosses the coins of this key
abbrev pub quant_numbers : ℕ → ℕ → List ℕ
quant_numbers k key = k ∷ key ∷ []

-- the key, if it is the second of them
abbrev pub key_of : List ℕ → ℕ
key_of numbers = slice_index numbers 1

-- one more item, where there is room in the count
abbrev pub put : Quantiles → ℕ → Quantiles
put sketch x = if nat_lt sketch.count most_items then updated sketch x else sketch

abbrev pub put_all : Quantiles → List ℕ → Quantiles
put_all sketch items = fold put sketch items

-- a sketch of no item
abbrev pub opened : ℕ → ℕ → Quantiles
opened k key = record { k = k; key = key; count = 0; held = held_after (coin_of key) k [] }

pub opened_is_of : (k key : ℕ) → IsSketchOf (opened k key) []
opened_is_of k key = record { count = refl; held = refl }

-- n, below and within answer x for this list, by a sketch with this k and key
pub record IsRank (x k key : ℕ) (items : List ℕ) (n below within : ℕ) : Type 0 where
  pub count : n ≡ length items
  pub value : below ≡ ranked x k key items
  pub error : within ≡ rank_error (length items) k
  pub near : abs_diff below (rank_of x items) ≤ within

put_k : (s : Quantiles) (x : ℕ) → (put s x).k ≡ s.k
put_k s x = go (nat_lt s.count most_items)
  where
    go : (room : Bool) → (if room then updated s x else s).k ≡ s.k
    go true = refl
    go false = refl

put_key : (s : Quantiles) (x : ℕ) → (put s x).key ≡ s.key
put_key s x = go (nat_lt s.count most_items)
  where
    go : (room : Bool) → (if room then updated s x else s).key ≡ s.key
    go true = refl
    go false = refl

pub put_all_k : (s : Quantiles) (items : List ℕ) → (put_all s items).k ≡ s.k
put_all_k s [] = refl
put_all_k s (x ∷ items) = put_all_k (put s x) items ∙ put_k s x

pub put_all_key : (s : Quantiles) (items : List ℕ) → (put_all s items).key ≡ s.key
put_all_key s [] = refl
put_all_key s (x ∷ items) = put_all_key (put s x) items ∙ put_key s x

put_here : (s : Quantiles) (x : ℕ) → s.count < most_items → put s x ≡ updated s x
put_here s x few = let is : nat_lt s.count most_items ≡ true = grind (arith, nat_tests) in rw is refl

-- where the count has room for all of them, they are put to the end of the list
pub put_all_is_of : (s : Quantiles) (list items : List ℕ) → IsSketchOf s list → length list + length items ≤ most_items → IsSketchOf (put_all s items) (list ++ items)
put_all_is_of s list [] is few = subst (λ (l : List ℕ). IsSketchOf s l) (sym (append-nil list)) is
put_all_is_of s list (x ∷ items) is few =
    let next : IsSketchOf (put s x) (list ++ x ∷ []) = subst (λ (t : Quantiles). IsSketchOf t (list ++ x ∷ [])) (sym (put_here s x (omega (arith, is.count, few)))) (updated_is_of s x list is) in
    subst (λ (l : List ℕ). IsSketchOf (put_all (put s x) items) l) (append_assoc list (x ∷ []) items)
    (put_all_is_of (put s x) (list ++ x ∷ []) items next (omega (arith, length-append list (x ∷ []))))

put_full : (s : Quantiles) (x : ℕ) → most_items ≤ s.count → put s x ≡ s
put_full s x full = let is : nat_lt s.count most_items ≡ false = grind (arith, nat_tests) in rw is refl

put_all_full : (s : Quantiles) (items : List ℕ) → most_items ≤ s.count → put_all s items ≡ s
put_all_full s [] full = refl
put_all_full s (x ∷ items) full = ap (λ (t : Quantiles). put_all t items) (put_full s x full) ∙ put_all_full s items full

-- what is put of them is as many as the count has room for
pub put_all_is : (s : Quantiles) (items : List ℕ) (n : ℕ) → n ≤ length items → s.count + n ≤ most_items → (n < length items → most_items ≤ s.count + n) → updated_all s (take n items) ≡ put_all s items
put_all_is s items zero within few full = go items full
  where
    go : (rest : List ℕ) → (zero < length rest → most_items ≤ s.count + zero) → updated_all s (take zero rest) ≡ put_all s rest
    go [] full = refl
    go (x ∷ rest) full = sym (put_all_full s (x ∷ rest) (omega (arith, full (omega arith))))
put_all_is s [] (suc n) within few full = absurd (omega (arith, within))
put_all_is s (x ∷ items) (suc n) within few full =
    put_all_is (updated s x) items n (omega (arith, within)) (omega (arith, few)) (λ more. omega (arith, full (omega (arith, more))))
    ∙ sym (ap (λ (t : Quantiles). put_all t items) (put_here s x (omega (arith, few))))

pub same_numbers : (s : Quantiles) (items : List ℕ) → quant_numbers (put_all s items).k (put_all s items).key ≡ quant_numbers s.k s.key
same_numbers s items =
    ap (λ (k : ℕ). quant_numbers k (put_all s items).key) (put_all_k s items) ∙ ap (quant_numbers s.k) (put_all_key s items)
