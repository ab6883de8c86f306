-- One more in the cells of items, at their places.
use Rattle.std.proofs.Common.{◌≡◌, ℕ, zero, suc, inl, inr, ◌+◌, ◌*◌, ◌<◌, ◌≤◌, ◌^◌, List, [], ◌∷◌, ◌++◌, length, take, drop, fold, get_or, get_or-set_same, get_or-set_other, Vec, Global, refl, sym, ap, subst, ◌∙◌, arith, All, flat_map}
use Rattle.std.specs.Prelude.{slice_set}
use Rattle.std.specs.Simd.{first_chunks}
use Rattle.std.specs.Vec.{with_items}
use Rattle.std.proofs.lemmas.Bool.{cases_eq, cases_lt}
use Rattle.std.proofs.Math.Seq.{take-add}
use Rattle.std.proofs.lemmas.List.{length-set, length-take, get_or_past, take_more, take-append-drop, drop-drop}
use Rattle.std.proofs.lemmas.List.Elements.{All-nil, All-append, All-get_or, All-set, All-from_get_or}
use Rattle.std.proofs.lemmas.List.Sums.{fold-append}
use Rattle.std.proofs.lemmas.Grind.{flat_map-append}
use Rattle.sk_cms.specs.Cells.{cell_below}
use Rattle.sk_cms.specs.Counting.{whole_counted}
use Rattle.sk_cms.specs.Counts.{Counts, counted, joined, raised, shown_by, IsWholeCounts}
use Rattle.sk_cms.specs.Estimate.{cell_of}
use Rattle.sk_cms.specs.Limits.{most_counted}
use Rattle.sk_cms.specs.Places.{places_of, raised_once}
use Rattle.sk_cms.specs.Tallies.{put, put_all, put_here}
use Rattle.sk_cms.proofs.Updates.{came_back}

-- ---- places

pub places-zero : (width x : ℕ) → places_of zero width x ≡ []
unfolding places_of
places-zero width x = refl

pub places-suc : (r width x : ℕ) → places_of (suc r) width x ≡ places_of r width x ++ (r * width + cell_of width r x) ∷ []
unfolding places_of
places-suc r width x = refl

one_all : (P : ℕ → Type 0) (x : ℕ) → P x → All P (x ∷ [])
one_all P x holds = All-from_get_or P (x ∷ []) 0 (λ i inside. let is : 0 ≡ i = omega arith in subst (λ (k : ℕ). P (get_or (x ∷ []) k 0)) is holds)

places_below : (rows width x most : ℕ) → 1 ≤ width → rows * width ≤ most → All (λ at. at < most) (places_of rows width x)
unfolding places_of
places_below zero width x most some fits = All-nil (λ at. at < most)
places_below (suc r) width x most some fits =
    All-append (λ at. at < most) (places_of r width x) ((r * width + cell_of width r x) ∷ []) (places_below r width x most some (omega arith))
    (one_all (λ at. at < most) (r * width + cell_of width r x) (omega (arith, cell_below width r x some)))

-- each lies before the end of all rows
pub all_places_below : (rows width most : ℕ) (items : List ℕ) → 1 ≤ width → rows * width ≤ most → All (λ at. at < most) (flat_map (places_of rows width) items)
all_places_below rows width most [] some fits = All-nil (λ at. at < most)
all_places_below rows width most (x ∷ items) some fits =
    All-append (λ at. at < most) (places_of rows width x) (flat_map (places_of rows width) items) (places_below rows width x most some fits) (all_places_below rows width most items some fits)

-- those of one more item
pub places_more : (rows width : ℕ) (items : List ℕ) (i : ℕ) → i < length items
    → flat_map (places_of rows width) (take (i + 1) items) ≡ flat_map (places_of rows width) (take i items) ++ places_of rows width (get_or items i 0)
places_more rows width items i below =
    let f = places_of rows width in let x = get_or items i 0 in
    ap (λ (l : List ℕ). flat_map f l) (take_more items i 0 below)
    ∙ flat_map-append f (take i items) (x ∷ [])
    ∙ ap (λ (l : List ℕ). flat_map f (take i items) ++ l) (append-none (f x))
  where
    append-none : (xs : List ℕ) → xs ++ [] ≡ xs
    append-none [] = refl
    append-none (x ∷ xs) = ap (λ (l : List ℕ). x ∷ l) (append-none xs)

-- ---- one more at each

pub raised_more : (cells ats : List ℕ) (i : ℕ) → i < length ats → fold raised_once cells (take (i + 1) ats) ≡ raised_once (fold raised_once cells (take i ats)) (get_or ats i 0)
raised_more cells ats i below =
    ap (λ (l : List ℕ). fold raised_once cells l) (take_more ats i 0 below) ∙ fold-append raised_once cells (take i ats) (get_or ats i 0 ∷ [])

pub length-raised_at : (cells ats : List ℕ) → length (fold raised_once cells ats) ≡ length cells
length-raised_at cells [] = refl
length-raised_at cells (at ∷ ats) = length-raised_at (raised_once cells at) ats ∙ length-set cells at (get_or cells at 0 + 1)

-- no cell has more than as many more as there are places
pub raised_at_small : (cells ats : List ℕ) (most : ℕ) → All (λ cell. cell ≤ most) cells → All (λ cell. cell ≤ most + length ats) (fold raised_once cells ats)
raised_at_small cells [] most small = subst (λ (n : ℕ). All (λ cell. cell ≤ n) cells) (omega arith) small
raised_at_small cells (at ∷ ats) most small =
    let P : ℕ → Type 0 = λ cell. cell ≤ most + 1 in
    let weak : All P cells = All-from_get_or P cells 0 (λ i inside. omega (arith, All-get_or (λ cell. cell ≤ most) cells i 0 inside small)) in
    let here : get_or cells at 0 ≤ most = elim (cases_lt at (length cells)) [
      | inl inside ↦ All-get_or (λ cell. cell ≤ most) cells at 0 inside small
      | inr past ↦ omega (arith, get_or_past cells at 0 past)
    ] in
    let one : All P (raised_once cells at) = All-set P cells at (get_or cells at 0 + 1) (omega (arith, here)) weak in
    subst (λ (n : ℕ). All (λ cell. cell ≤ n) (fold raised_once (raised_once cells at) ats)) (omega arith) (raised_at_small (raised_once cells at) ats (most + 1) one)

raised_once_most : (cells : List ℕ) (at i : ℕ) → get_or (raised_once cells at) i 0 ≤ get_or cells i 0 + 1
raised_once_most cells at i =
    let v = get_or cells at 0 + 1 in
    elim (cases_eq i at) [
      | inl same ↦
          elim (cases_lt at (length cells)) [
            | inl inside ↦
                let now : get_or (slice_set cells at v) i 0 ≡ v = ap (λ (k : ℕ). get_or (slice_set cells at v) k 0) same ∙ get_or-set_same cells at v 0 inside in
                let before : get_or cells at 0 ≡ get_or cells i 0 = ap (λ (k : ℕ). get_or cells k 0) (sym same) in
                omega (arith, now, before)
            | inr past ↦ omega (arith, get_or_past (slice_set cells at v) i 0 (omega (arith, length-set cells at v)))
          ]
      | inr other ↦ omega (arith, get_or-set_other cells at i v 0 other)
    ]

-- a cell has at most one more for each place
pub raised_at_most : (cells ats : List ℕ) (i : ℕ) → get_or (fold raised_once cells ats) i 0 ≤ get_or cells i 0 + length ats
raised_at_most cells [] i = omega arith
raised_at_most cells (at ∷ ats) i = omega (arith, raised_at_most (raised_once cells at) ats i, raised_once_most cells at i)

-- cells are not too great after any of the places
pub some_raised_small : (cells ats : List ℕ) (n : ℕ) → All (λ cell. cell ≤ most_counted) cells → length ats < 2 ^ 62 → All (λ cell. cell ≤ most_counted + 2 ^ 62) (fold raised_once cells (take n ats))
some_raised_small cells ats n small few = λ k d inside. omega (arith, raised_at_small cells (take n ats) most_counted small k d inside, length-take n ats, few)

-- ---- by fours

pub list_of_four : (xs : List ℕ) → length xs ≡ 4 → xs ≡ get_or xs 0 0 ∷ get_or xs 1 0 ∷ get_or xs 2 0 ∷ get_or xs 3 0 ∷ []
list_of_four [] four = absurd (omega arith)
list_of_four (a ∷ []) four = absurd (omega arith)
list_of_four (a ∷ b ∷ []) four = absurd (omega arith)
list_of_four (a ∷ b ∷ c ∷ []) four = absurd (omega arith)
list_of_four (a ∷ b ∷ c ∷ d ∷ []) four = refl
list_of_four (a ∷ b ∷ c ∷ d ∷ e ∷ more) four = absurd (omega arith)

-- the places of each four
pub four_at : (k i : ℕ) (ats : List ℕ) → i < k → get_or (first_chunks 4 k ats) i [] ≡ take 4 (drop (4 * i) ats)
four_at zero i ats below = absurd (omega arith)
four_at (suc k) zero ats below = refl
four_at (suc k) (suc i) ats below =
    four_at k i (drop 4 ats) (omega arith)
    ∙ ap (λ (l : List ℕ). take 4 l) (drop-drop (4 * i) 4 ats ∙ ap (λ (n : ℕ). drop n ats) (omega arith))

pub four_more : (cells ats : List ℕ) (i : ℕ) → fold raised_once cells (take (4 * (i + 1)) ats) ≡ fold raised_once (fold raised_once cells (take (4 * i) ats)) (take 4 (drop (4 * i) ats))
four_more cells ats i =
    let next : 4 * (i + 1) ≡ 4 * i + 4 = omega arith in
    ap (λ (n : ℕ). fold raised_once cells (take n ats)) next
    ∙ ap (λ (l : List ℕ). fold raised_once cells l) (take-add (4 * i) 4 ats)
    ∙ fold-append raised_once cells (take (4 * i) ats) (take 4 (drop (4 * i) ats))

-- those that are left
pub rest_more : (cells ats : List ℕ) (n : ℕ) → fold raised_once (fold raised_once cells (take n ats)) (drop n ats) ≡ fold raised_once cells ats
rest_more cells ats n =
    sym (fold-append raised_once cells (take n ats) (drop n ats)) ∙ ap (λ (l : List ℕ). fold raised_once cells l) (take-append-drop n ats)

-- ---- what an item adds

-- at the places of an item that is what `update` leaves in the cells
pub raised_is : (rows width x : ℕ) (cells : List ℕ) → fold raised_once cells (places_of rows width x) ≡ raised rows width x cells
unfolding places_of raised
raised_is zero width x cells = refl
raised_is (suc r) width x cells =
    let at = r * width + cell_of width r x in
    fold-append raised_once cells (places_of r width x) (at ∷ []) ∙ ap (λ (l : List ℕ). raised_once l at) (raised_is r width x cells)

-- ---- all items at once

-- if the count has room for all of them
pub put_all_is : (s : Counts) (items : List ℕ) → s.count + length items ≤ most_counted
    → put_all s items ≡ record { rows = s.rows; width = s.width; count = s.count + length items; cells = fold raised_once s.cells (flat_map (places_of s.rows s.width) items) }
put_all_is s [] few = ap (λ (n : ℕ). record { rows = s.rows; width = s.width; count = n; cells = s.cells }) (omega arith)
put_all_is s (x ∷ items) few =
    let f = places_of s.rows s.width in
    let shows : ℕ → List ℕ → Counts = λ n cells. record { rows = s.rows; width = s.width; count = n; cells = cells } in
    let cells : fold raised_once s.cells (f x ++ flat_map f items) ≡ fold raised_once (raised s.rows s.width x s.cells) (flat_map f items) =
    fold-append raised_once s.cells (f x) (flat_map f items) ∙ ap (λ (l : List ℕ). fold raised_once l (flat_map f items)) (raised_is s.rows s.width x s.cells) in
    let count : s.count + 1 + length items ≡ s.count + length (x ∷ items) = omega arith in
    ap (λ (t : Counts). put_all t items) (put_here s x (omega (arith, few)))
    ∙ put_all_is (counted s x) items (omega (arith, few))
    ∙ ap (λ (n : ℕ). shows n (fold raised_once (raised s.rows s.width x s.cells) (flat_map f items))) count
    ∙ ap (λ (l : List ℕ). shows (s.count + length (x ∷ items)) l) (sym cells)

pub whole_all : (s : Counts) (items : List ℕ) → IsWholeCounts s → s.count + length items ≤ most_counted → IsWholeCounts (put_all s items)
whole_all s [] whole few = whole
whole_all s (x ∷ items) whole few =
    let here = put_here s x (omega (arith, few)) in
    whole_all (put s x) items (subst IsWholeCounts (sym here) (whole_counted s x whole (omega (arith, few)))) (omega (arith, few, ap (λ (t : Counts). t.count) here))

-- cells that were lent, raised at the places of items and came back are those of all of them
pub shown_all : (rows width count : ℕ) (items : List ℕ) (low high : Vec ℕ Global) (lent_low lent_high now_low now_high places : List ℕ) → lent_low ≡ low.items → lent_high ≡ high.items → length now_low ≡ length lent_low → length now_high ≡ length lent_high
    → places ≡ flat_map (places_of rows width) items → count + length items ≤ most_counted → joined now_low now_high ≡ fold raised_once (joined lent_low lent_high) places
    → shown_by rows width (count + length items) (with_items low now_low).items (with_items high now_high).items ≡ put_all (shown_by rows width count low.items high.items) items
shown_all rows width count items low high lent_low lent_high now_low now_high places is_low is_high long_low long_high found few is =
    let shows : List ℕ → Counts = λ cells. record { rows = rows; width = width; count = count + length items; cells = cells } in
    ap (λ (l : List ℕ). shows (joined l (with_items high now_high).items)) (came_back low lent_low now_low is_low long_low)
    ∙ ap (λ (h : List ℕ). shows (joined now_low h)) (came_back high lent_high now_high is_high long_high)
    ∙ ap shows is
    ∙ ap (λ (ats : List ℕ). shows (fold raised_once (joined lent_low lent_high) ats)) found
    ∙ ap (λ (l : List ℕ). shows (fold raised_once (joined l lent_high) (flat_map (places_of rows width) items))) is_low
    ∙ ap (λ (h : List ℕ). shows (fold raised_once (joined low.items h) (flat_map (places_of rows width) items))) is_high
    ∙ sym (put_all_is (shown_by rows width count low.items high.items) items few)
