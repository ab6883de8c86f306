-- Count-Min as a sketch that takes items: what they leave, the laws of that, and what is asked of it.
use Rattle.std.proofs.Common.{◌≡◌, ℕ, ◌+◌, ◌<◌, ◌≤◌, Bool, true, false, nat_lt, if◌then◌else◌, List, [], ◌∷◌, ◌++◌, length, slice_index, fold, refl, sym, subst, ◌∙◌, arith, append_assoc, length-append}
use Rattle.std.proofs.lemmas.Bool.Decides.{nat_tests}
use Rattle.std.proofs.lemmas.List.{append-nil}
use Rattle.sk_cms.specs.Counts.{Counts, counted, IsCountOf}
use Rattle.sk_cms.specs.Estimate.{least_of, times}
use Rattle.sk_cms.specs.Limits.{most_counted}
use Rattle.sk_cms.specs.Counting.{counted_is_of}

-- the fixed numbers of a sketch with these rows of this width
abbrev pub cms_numbers : ℕ → ℕ → List ℕ
cms_numbers rows width = rows ∷ width ∷ []

-- the rows and the width of a sketch with these numbers
abbrev pub rows_of : List ℕ → ℕ
rows_of numbers = slice_index numbers 0

abbrev pub width_of : List ℕ → ℕ
width_of numbers = slice_index numbers 1

-- n and least answer x for this list, by a sketch of these rows of this width
pub record IsTally (x rows width : ℕ) (items : List ℕ) (n least : ℕ) : Type 0 where
  pub count : n ≡ length items
  pub value : least ≡ least_of rows width x items
  pub over : times x items ≤ least

-- one more item, if there is room in the count
abbrev pub put : Counts → ℕ → Counts
put sketch x = if nat_lt sketch.count most_counted then counted sketch x else sketch

abbrev pub put_all : Counts → List ℕ → Counts
put_all sketch items = fold put sketch items

put_shape : (s : Counts) (x : ℕ) → cms_numbers (put s x).rows (put s x).width ≡ cms_numbers s.rows s.width
put_shape s x = go (nat_lt s.count most_counted)
  where
    go : (room : Bool) → cms_numbers (if room then counted s x else s).rows (if room then counted s x else s).width ≡ cms_numbers s.rows s.width
    go true = refl
    go false = refl

-- items change neither the rows nor their width
pub same_numbers : (s : Counts) (items : List ℕ) → cms_numbers (put_all s items).rows (put_all s items).width ≡ cms_numbers s.rows s.width
same_numbers s [] = refl
same_numbers s (x ∷ items) = same_numbers (put s x) items ∙ put_shape s x

pub put_here : (s : Counts) (x : ℕ) → s.count < most_counted → put s x ≡ counted s x
put_here s x few = let is : nat_lt s.count most_counted ≡ true = grind (arith, nat_tests) in rw is refl

-- if the count has room for all of them, they are put to the end of the list
pub put_all_is_of : (s : Counts) (list items : List ℕ) → length list + length items ≤ most_counted → IsCountOf s list → IsCountOf (put_all s items) (list ++ items)
put_all_is_of s list [] few is = subst (λ (l : List ℕ). IsCountOf s l) (sym (append-nil list)) is
put_all_is_of s list (x ∷ items) few is =
    let next : IsCountOf (put s x) (list ++ x ∷ []) = subst (λ (t : Counts). IsCountOf t (list ++ x ∷ [])) (sym (put_here s x (omega (arith, is.count, few)))) (counted_is_of s x list is) in
    subst (λ (l : List ℕ). IsCountOf (put_all (put s x) items) l) (append_assoc list (x ∷ []) items)
    (put_all_is_of (put s x) (list ++ x ∷ []) items (omega (arith, length-append list (x ∷ []))) next)
