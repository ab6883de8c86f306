-- The items of a list of updates, those of each updater, and those of all lines: the same in other orders.
use Rattle.std.proofs.Common.{◌≡◌, ◌≢◌, ⊎_elim, ℕ, zero, suc, ◌+◌, ◌<◌, ◌≤◌, List, [], ◌∷◌, ◌++◌, length, flat_map, All, IsPermutation, refl, sym, ap, ◌∙◌, subst, arith, append-nil, append_assoc}
use Rattle.std.specs.List.{range_with_len}
use Rattle.std.proofs.lemmas.Bool.{cases_lt}
use Rattle.std.proofs.lemmas.List.Elements.{All-head, All-tail}
use Rattle.std.proofs.lemmas.List.Sorted.{IsPermutation-refl, IsPermutation-sym, IsPermutation-cons, IsPermutation-trans, IsPermutation-append_left, IsPermutation-append_right, IsPermutation-append_comm, length_permutation}
use Rattle.sk_model.specs.Entries.{Entry, items_of_entries, entries_by, tagged}
use Rattle.sk_model.proofs.Entries.{entries_by_tagged, entries_by_others}
use Rattle.sk_read.specs.Items.{items_by}
use Rattle.sk_read.specs.declared.kind.Kind.{Kind}
use Rattle.sk_fill.specs.Windows.{all_lines, items_in}
use Rattle.sk_fill.specs.Blocks.{block_of}
use Rattle.sk_feed.specs.Shares.{share}
use Rattle.sk_fill.proofs.Items.{items_append, no_items, good_items}
use Rattle.sk_fill.proofs.Joined.{items_joined}
use Rattle.sk_fill.proofs.Cutting.{all_lines_more}
use Rattle.sk_tell.specs.Manners.{Manner}
use Rattle.sk_tell.specs.Feeding.{Course}
use Rattle.sk_tell.specs.Headline.{IsListOf}
use Rattle.sk_learn.proofs.Lists.{by_cons}

-- ---- lists of a range of numbers

same_flat : {A : Type 0} (f g : ℕ → List A) (from count : ℕ) → ((i : ℕ) → from ≤ i → i < from + count → f i ≡ g i) → flat_map f (range_with_len from count) ≡ flat_map g (range_with_len from count)
same_flat f g from zero same = refl
same_flat f g from (suc count) same =
    ap (λ l. l ++ flat_map f (range_with_len (from + 1) count)) (same from (omega arith) (omega arith))
    ∙ ap (λ l. g from ++ l) (same_flat f g (from + 1) count (λ i low high. same i (omega arith) (omega arith)))

none_flat : {A : Type 0} (f : ℕ → List A) (from count : ℕ) → ((i : ℕ) → from ≤ i → i < from + count → f i ≡ []) → flat_map f (range_with_len from count) ≡ []
none_flat f from zero none = refl
none_flat f from (suc count) none =
    ap (λ l. l ++ flat_map f (range_with_len (from + 1) count)) (none from (omega arith) (omega arith))
    ∙ none_flat f (from + 1) count (λ i low high. none i (omega arith) (omega arith))

-- one of the numbers alone has something
one_flat : {A : Type 0} (f : ℕ → List A) (from count k : ℕ) → from ≤ k → k < from + count → ((i : ℕ) → i ≢ k → f i ≡ []) → flat_map f (range_with_len from count) ≡ f k
one_flat f from zero k low high others = absurd (omega arith)
one_flat f from (suc count) k low high others = ⊎_elim
    (λ later. ap (λ l. l ++ flat_map f (range_with_len (from + 1) count)) (others from (λ same. let no : ⊥ = omega (arith, same) in no))
    ∙ one_flat f (from + 1) count k (omega arith) (omega arith) others)
    (λ here. let is : from ≡ k = omega arith in
    ap (λ l. f from ++ l) (none_flat f (from + 1) count (λ i above inside. others i (λ same. let no : ⊥ = omega (arith, same) in no)))
    ∙ append-nil (f from) ∙ ap f is)
    (cases_lt from k)

-- what each number has in two parts is all first parts and all second ones
parts : {A : Type 0} (f g : ℕ → List A) (xs : List ℕ) → IsPermutation (flat_map (λ i. f i ++ g i) xs) (flat_map f xs ++ flat_map g xs)
parts f g [] = IsPermutation-refl []
parts {A} f g (x ∷ xs) =
    let fs = flat_map f xs in let gs = flat_map g xs in
    let both = flat_map (λ i. f i ++ g i) xs in
    let inner : IsPermutation (g x ++ (fs ++ gs)) (fs ++ (g x ++ gs)) =
    subst (λ l. IsPermutation l (fs ++ (g x ++ gs))) (append_assoc (g x) fs gs)
    (subst (λ l. IsPermutation ((g x ++ fs) ++ gs) l) (append_assoc fs (g x) gs) (IsPermutation-append_left gs (g x ++ fs) (fs ++ g x) (IsPermutation-append_comm (g x) fs))) in
    let moved : IsPermutation (g x ++ both) (fs ++ (g x ++ gs)) = IsPermutation-trans (g x ++ both) (g x ++ (fs ++ gs)) (fs ++ (g x ++ gs)) (IsPermutation-append_right (g x) both (fs ++ gs) (parts f g xs)) inner in
    subst (λ l. IsPermutation l ((f x ++ fs) ++ (g x ++ gs))) (sym (append_assoc (f x) (g x) both))
    (subst (IsPermutation (f x ++ (g x ++ both))) (sym (append_assoc (f x) fs (g x ++ gs))) (IsPermutation-append_right (f x) (g x ++ both) (fs ++ (g x ++ gs)) moved))

-- ---- a list of updates

pub of_each : (n : ℕ) (l : List Entry) → All (λ e. e.0 < n) l → IsPermutation (items_of_entries l) (flat_map (λ i. entries_by i l) (range_with_len 0 n))
unfolding items_of_entries entries_by
of_each n [] only = subst (IsPermutation []) (sym (none_flat (λ i. entries_by i []) 0 n (λ i low high. refl))) (IsPermutation-refl [])
of_each n (e ∷ es) only =
    let range = range_with_len 0 n in
    let one : ℕ → List ℕ = λ i. entries_by i (tagged e.0 (e.1 ∷ [])) in
    let rest : ℕ → List ℕ = λ i. entries_by i es in
    let inside : e.0 < n = All-head (λ (x : Entry). x.0 < n) e es only in
    let split : flat_map (λ i. entries_by i (e ∷ es)) range ≡ flat_map (λ i. one i ++ rest i) range = same_flat (λ i. entries_by i (e ∷ es)) (λ i. one i ++ rest i) 0 n (λ i low high. by_cons i e es) in
    let alone : flat_map one range ≡ e.1 ∷ [] = one_flat one 0 n e.0 (omega arith) (omega arith) (λ i other. entries_by_others e.0 i (e.1 ∷ []) other) ∙ entries_by_tagged e.0 (e.1 ∷ []) in
    let later : IsPermutation (e.1 ∷ items_of_entries es) (e.1 ∷ flat_map rest range) = IsPermutation-cons e.1 (items_of_entries es) (flat_map rest range) (of_each n es (All-tail (λ (x : Entry). x.0 < n) e es only)) in
    let apart : IsPermutation (e.1 ∷ flat_map rest range) (flat_map (λ i. one i ++ rest i) range) =
    subst (λ l. IsPermutation (l ++ flat_map rest range) (flat_map (λ i. one i ++ rest i) range)) alone (IsPermutation-sym (flat_map (λ i. one i ++ rest i) range) (flat_map one range ++ flat_map rest range) (parts one rest range)) in
    subst (IsPermutation (e.1 ∷ items_of_entries es)) (sym split) (IsPermutation-trans (e.1 ∷ items_of_entries es) (e.1 ∷ flat_map rest range) (flat_map (λ i. one i ++ rest i) range) later apart)

-- ---- shares of windows

pub of_shares : (kind : Kind) (windows : List (List (List ℕ))) (n : ℕ) → 0 < n → IsPermutation (flat_map (λ i. share kind windows n i) (range_with_len 0 n)) (items_in kind (all_lines windows))
unfolding share
of_shares kind [] n some = subst (λ l. IsPermutation l (items_in kind [])) (sym (none_flat (λ i. share kind [] n i) 0 n (λ i low high. refl))) (subst (IsPermutation []) (sym (no_items kind)) (IsPermutation-refl []))
of_shares kind (lines ∷ windows) n some =
    let range = range_with_len 0 n in
    let first : ℕ → List ℕ = λ i. items_in kind (block_of lines i n) in
    let rest : ℕ → List ℕ = λ i. share kind windows n i in
    let whole : IsPermutation (flat_map first range ++ flat_map rest range) (flat_map first range ++ items_in kind (all_lines windows)) = IsPermutation-append_right (flat_map first range) (flat_map rest range) (items_in kind (all_lines windows)) (of_shares kind windows n some) in
    let split : flat_map first range ++ items_in kind (all_lines windows) ≡ items_in kind (lines ++ all_lines windows) = ap (λ l. l ++ items_in kind (all_lines windows)) (items_joined kind lines n some) ∙ sym (items_append kind lines (all_lines windows)) in
    IsPermutation-trans (flat_map (λ i. first i ++ rest i) range) (flat_map first range ++ flat_map rest range) (items_in kind (lines ++ all_lines windows)) (parts first rest range)
    (subst (IsPermutation (flat_map first range ++ flat_map rest range)) split whole)

of_one : (kind : Kind) (windows : List (List (List ℕ))) → share kind windows 1 0 ≡ items_in kind (all_lines windows)
unfolding share
of_one kind [] = sym (no_items kind)
of_one kind (lines ∷ windows) =
    ap (λ l. l ++ share kind windows 1 0) (sym (append-nil (items_in kind (block_of lines 0 1))) ∙ items_joined kind lines 1 (omega arith))
    ∙ ap (λ l. items_in kind lines ++ l) (of_one kind windows)
    ∙ sym (items_append kind lines (all_lines windows))

all_of_one : (l : List Entry) → All (λ e. e.0 < 1) l → items_of_entries l ≡ entries_by 0 l
unfolding items_of_entries entries_by
all_of_one [] only = refl
all_of_one (e ∷ es) only =
    let first : e.0 < 1 = All-head (λ (x : Entry). x.0 < 1) e es only in
    let zero_is : e.0 ≡ 0 = omega arith in
    let one : entries_by 0 (tagged e.0 (e.1 ∷ [])) ≡ e.1 ∷ [] = ap (λ k. entries_by k (tagged e.0 (e.1 ∷ []))) (sym zero_is) ∙ entries_by_tagged e.0 (e.1 ∷ []) in
    ap (λ l. e.1 ∷ l) (all_of_one es (All-tail (λ (x : Entry). x.0 < 1) e es only)) ∙ ap (λ l. l ++ entries_by 0 es) (sym one) ∙ sym (by_cons 0 e es)

-- ---- a list of a telling

module _ (manner : Manner) (units : List (List ℕ)) (course : Course manner units) (list : List Entry) (is : IsListOf manner (course.windows ++ course.rest ∷ []) list) where
  windows : List (List (List ℕ))
  windows = course.windows ++ course.rest ∷ []

  items_are : items_in manner.kind (all_lines (course.windows ++ course.rest ∷ [])) ≡ items_by manner.kind units
  items_are = ap (items_in manner.kind) (all_lines_more course.windows course.rest ∙ sym course.cut.joined) ∙ good_items manner.kind units course.good

  pub all_items : 0 < manner.updaters → IsPermutation (items_by manner.kind units) (items_of_entries list)
  all_items some =
      let range = range_with_len 0 manner.updaters in
      let all : List (List (List ℕ)) = course.windows ++ course.rest ∷ [] in
      let each : flat_map (λ i. entries_by i list) range ≡ flat_map (λ i. share manner.kind all manner.updaters i) range = same_flat (λ i. entries_by i list) (λ i. share manner.kind all manner.updaters i) 0 manner.updaters (λ i low high. is.each i (omega arith)) in
      let first : IsPermutation (items_of_entries list) (flat_map (λ i. share manner.kind all manner.updaters i) range) = subst (IsPermutation (items_of_entries list)) each (of_each manner.updaters list is.only) in
      let second : IsPermutation (flat_map (λ i. share manner.kind all manner.updaters i) range) (items_by manner.kind units) = subst (IsPermutation (flat_map (λ i. share manner.kind all manner.updaters i) range)) items_are (of_shares manner.kind all manner.updaters some) in
      IsPermutation-sym (items_of_entries list) (items_by manner.kind units) (IsPermutation-trans (items_of_entries list) (flat_map (λ i. share manner.kind all manner.updaters i) range) (items_by manner.kind units) first second)

  pub as_many : 0 < manner.updaters → length (items_of_entries list) ≡ length (items_by manner.kind units)
  as_many some = length_permutation (items_by manner.kind units) (items_of_entries list) (all_items some)

  pub in_order_of_one : manner.updaters ≡ 1 → items_of_entries list ≡ items_by manner.kind units
  in_order_of_one one =
      let all : List (List (List ℕ)) = course.windows ++ course.rest ∷ [] in
      all_of_one list (subst (λ n. All (λ e. e.0 < n) list) one is.only) ∙ is.each 0 (omega (arith, one)) ∙ ap (λ n. share manner.kind all n 0) one ∙ of_one manner.kind all ∙ items_are
