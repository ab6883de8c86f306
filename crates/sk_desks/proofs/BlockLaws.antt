-- Blocks of windows that desks took.
use Rattle.std.proofs.Common.{◌≡◌, ℕ, zero, suc, ◌+◌, ◌-◌, ◌<◌, ◌≤◌, List, [], ◌∷◌, ◌++◌, length, get_or, take, drop, take-add, slice_range, flat_map, IsPermutation, refl, sym, ap, subst, ◌∙◌, arith, append-nil, append_assoc}
use Rattle.std.specs.List.{range_with_len}
use Rattle.std.proofs.lemmas.Grind.{flat_map-append}
use Rattle.std.proofs.lemmas.List.{take_at, drop_at, drop-drop}
use Rattle.std.proofs.lemmas.List.Sorted.{IsPermutation-refl, IsPermutation-trans, IsPermutation-append_left, IsPermutation-append_right, IsPermutation-append_comm}
use Rattle.sk_model.specs.Limits.{most_kept}
use Rattle.sk_fill.specs.Blocks.{block_of, blocks_of}
use Rattle.sk_fill.specs.Windows.{all_lines}
use Rattle.sk_fill.proofs.Joined.{blocks_joined}
use Rattle.sk_feed.proofs.Rooms.{few_blocks}
use Rattle.sk_tenant.specs.Desks.{DeskState}
use Rattle.sk_desks.specs.Desks.{items_for}
use Rattle.sk_desks.specs.Feeds.{TakesLines, HasRoom, IsReadyFor, TakeBlocks}
use Rattle.sk_desks.specs.Windows.{AreUnused}
use Rattle.sk_desks.proofs.ItemLaws.{items_for-append, none_for}
use Rattle.sk_desks.proofs.Taking.{takes_no_line, takes_more, has_still, room_after}

-- ---- lines of a window, one more

pub no_lines : (seed : ℕ) (d : DeskState) (lines : List (List ℕ)) (from : ℕ) → TakesLines seed d (slice_range lines from from) d
no_lines seed d lines from =
    let zero : from - from ≡ 0 = omega arith in
    let none : slice_range lines from from ≡ [] = ap (λ (n : ℕ). take n (drop from lines)) zero in
    subst (λ (l : List (List ℕ)). TakesLines seed d l d) (sym none) (takes_no_line seed d)

-- ---- a group of them more

module _ (lines rest rest' group : List (List ℕ)) (at count : ℕ) (is : rest ≡ drop at lines) (parted : rest ≡ group ++ rest') (size : length group ≡ count) where
  pub group_is : group ≡ take count (drop at lines)
  group_is = sym (take_at group rest' count size) ∙ ap (take count) (sym parted ∙ is)

  pub group_rest : rest' ≡ drop (at + count) lines
  group_rest = sym (drop_at group rest' count size) ∙ ap (drop count) (sym parted ∙ is) ∙ drop-drop count at lines

  pub group_more : (from : ℕ) → from ≤ at → slice_range lines from (at + count) ≡ slice_range lines from at ++ group
  group_more from low =
      let both : (at + count) - from ≡ (at - from) + count = omega (arith, low) in
      let here : from + (at - from) ≡ at = omega (arith, low) in
      ap (λ (n : ℕ). take n (drop from lines)) both
      ∙ take-add (at - from) count (drop from lines)
      ∙ ap (λ (l : List (List ℕ)). take (at - from) (drop from lines) ++ take count l) (drop-drop (at - from) from lines ∙ ap (λ (n : ℕ). drop n lines) here)
      ∙ ap (λ (l : List (List ℕ)). take (at - from) (drop from lines) ++ l) (sym group_is)

-- ---- windows, one more

one_block : (lines : List (List ℕ)) (i n : ℕ) → blocks_of (lines ∷ []) i n ≡ block_of lines i n
one_block lines i n = append-nil (block_of lines i n)

pub blocks_more : (windows : List (List (List ℕ))) (lines : List (List ℕ)) (i n : ℕ) → blocks_of (windows ++ lines ∷ []) i n ≡ blocks_of windows i n ++ block_of lines i n
blocks_more windows lines i n = flat_map-append (λ (w : List (List ℕ)). block_of w i n) windows (lines ∷ []) ∙ ap (λ (l : List (List ℕ)). blocks_of windows i n ++ l) (append-nil (block_of lines i n))

pub take_none : (seed : ℕ) (desks : List DeskState) → TakeBlocks seed desks [] desks
take_none seed desks = record { count = refl; each = λ i d within. takes_no_line seed (get_or desks i d) }

-- each took its block of one window
pub take_each : (seed : ℕ) (desks desks' : List DeskState) (lines : List (List ℕ)) → length desks' ≡ length desks
    → ((i : ℕ) (d : DeskState) → i < length desks → TakesLines seed (get_or desks i d) (block_of lines i (length desks)) (get_or desks' i d)) → TakeBlocks seed desks (lines ∷ []) desks'
take_each seed desks desks' lines count each = record {
  count = count;
  each = λ i d within. subst (λ (l : List (List ℕ)). TakesLines seed (get_or desks i d) l (get_or desks' i d)) (sym (one_block lines i (length desks))) (each i d within);
}

-- each took its blocks of some windows, and then of others
pub take_windows : (seed : ℕ) (a b c : List DeskState) (windows more : List (List (List ℕ))) → TakeBlocks seed a windows b → TakeBlocks seed b more c → TakeBlocks seed a (windows ++ more) c
take_windows seed a b c windows more before after = record {
  count = after.count ∙ before.count;
  each = λ i d within.
      let within' : i < length b = omega (arith, within, before.count) in
      let later : TakesLines seed (get_or b i d) (blocks_of more i (length a)) (get_or c i d) =
      subst (λ (n : ℕ). TakesLines seed (get_or b i d) (blocks_of more i n) (get_or c i d)) before.count (after.each i d within') in
      subst (λ (l : List (List ℕ)). TakesLines seed (get_or a i d) l (get_or c i d)) (sym (flat_map-append (λ (w : List (List ℕ)). block_of w i (length a)) windows more))
      (takes_more seed (get_or a i d) (get_or b i d) (get_or c i d) (blocks_of windows i (length a)) (blocks_of more i (length a)) (before.each i d within) later);
}

-- desks that were unused have room for windows more
pub ready_for : (seed : ℕ) (names : List (List ℕ)) (first desks : List DeskState) (windows : List (List (List ℕ))) (count : ℕ) → AreUnused names first → TakeBlocks seed first windows desks → length (all_lines windows) + count ≤ most_kept
    → (i : ℕ) (d : DeskState) → i < length desks → IsReadyFor count (get_or desks i d)
ready_for seed names first desks windows count unused took few i d within =
    let before : i < length first = omega (arith, within, took.count) in
    let desk = get_or first i d in
    let is = unused.each i d before in
    let blocks = blocks_of windows i (length first) in
    let its : TakesLines seed desk blocks (get_or desks i d) = took.each i d before in
    let room : HasRoom (length blocks + count) desk = λ t u inside. omega (arith, few_blocks windows (length first) i before, ap length (is.none t u inside), is.quota_is, few) in
    record { has = has_still seed desk (get_or desks i d) blocks its is.has; room = room_after seed desk (get_or desks i d) blocks count is.has its room }

-- ---- all blocks of all windows

-- what each number has in two parts is all first parts and all second ones
parts : {A : Type 0} (f g : ℕ → List A) (xs : List ℕ) → IsPermutation (flat_map (λ i. f i ++ g i) xs) (flat_map f xs ++ flat_map g xs)
parts f g [] = IsPermutation-refl []
parts {A} f g (x ∷ xs) =
    let fs = flat_map f xs in let gs = flat_map g xs in
    let both = flat_map (λ i. f i ++ g i) xs in
    let inner : IsPermutation (g x ++ (fs ++ gs)) (fs ++ (g x ++ gs)) =
    subst (λ l. IsPermutation l (fs ++ (g x ++ gs))) (append_assoc (g x) fs gs)
    (subst (λ l. IsPermutation ((g x ++ fs) ++ gs) l) (append_assoc fs (g x) gs) (IsPermutation-append_left gs (g x ++ fs) (fs ++ g x) (IsPermutation-append_comm (g x) fs))) in
    let moved : IsPermutation (g x ++ both) (fs ++ (g x ++ gs)) = IsPermutation-trans (g x ++ both) (g x ++ (fs ++ gs)) (fs ++ (g x ++ gs)) (IsPermutation-append_right (g x) both (fs ++ gs) (parts f g xs)) inner in
    subst (λ l. IsPermutation l ((f x ++ fs) ++ (g x ++ gs))) (sym (append_assoc (f x) (g x) both))
    (subst (IsPermutation (f x ++ (g x ++ both))) (sym (append_assoc (f x) fs (g x ++ gs))) (IsPermutation-append_right (f x) (g x ++ both) (fs ++ (g x ++ gs)) moved))

none_of_each : (seed : ℕ) (name : List ℕ) (from count : ℕ) → flat_map (λ i. items_for seed name []) (range_with_len from count) ≡ []
none_of_each seed name from zero = refl
none_of_each seed name from (suc count) = ap (λ (l : List ℕ). l ++ flat_map (λ i. items_for seed name []) (range_with_len (from + 1) count)) (none_for seed name) ∙ none_of_each seed name (from + 1) count

same_flat : (f g : ℕ → List ℕ) (from count : ℕ) → ((i : ℕ) → f i ≡ g i) → flat_map f (range_with_len from count) ≡ flat_map g (range_with_len from count)
same_flat f g from zero same = refl
same_flat f g from (suc count) same = ap (λ (l : List ℕ). l ++ flat_map f (range_with_len (from + 1) count)) (same from) ∙ ap (λ (l : List ℕ). g from ++ l) (same_flat f g (from + 1) count same)

items_of_each : (seed : ℕ) (name : List ℕ) (block : ℕ → List (List ℕ)) (from count : ℕ) → flat_map (λ i. items_for seed name (block i)) (range_with_len from count) ≡ items_for seed name (flat_map block (range_with_len from count))
items_of_each seed name block from zero = sym (none_for seed name)
items_of_each seed name block from (suc count) =
    ap (λ (l : List ℕ). items_for seed name (block from) ++ l) (items_of_each seed name block (from + 1) count)
    ∙ sym (items_for-append seed name (block from) (flat_map block (range_with_len (from + 1) count)))

-- the items of a tenant in the blocks of all desks are those in all lines, in some order
pub of_all_blocks : (seed : ℕ) (name : List ℕ) (windows : List (List (List ℕ))) (n : ℕ) → 0 < n → IsPermutation (flat_map (λ i. items_for seed name (blocks_of windows i n)) (range_with_len 0 n)) (items_for seed name (all_lines windows))
of_all_blocks seed name [] n some =
    subst (λ (l : List ℕ). IsPermutation l (items_for seed name [])) (sym (none_of_each seed name 0 n))
    (subst (λ (l : List ℕ). IsPermutation [] l) (sym (none_for seed name)) (IsPermutation-refl []))
of_all_blocks seed name (lines ∷ windows) n some =
    let range = range_with_len 0 n in
    let first : ℕ → List ℕ = λ i. items_for seed name (block_of lines i n) in
    let rest : ℕ → List ℕ = λ i. items_for seed name (blocks_of windows i n) in
    let whole : IsPermutation (flat_map first range ++ flat_map rest range) (flat_map first range ++ items_for seed name (all_lines windows)) =
    IsPermutation-append_right (flat_map first range) (flat_map rest range) (items_for seed name (all_lines windows)) (of_all_blocks seed name windows n some) in
    let joined : flat_map first range ≡ items_for seed name lines = items_of_each seed name (λ i. block_of lines i n) 0 n ∙ ap (items_for seed name) (blocks_joined lines n some) in
    let split : flat_map first range ++ items_for seed name (all_lines windows) ≡ items_for seed name (lines ++ all_lines windows) =
    ap (λ (l : List ℕ). l ++ items_for seed name (all_lines windows)) joined ∙ sym (items_for-append seed name lines (all_lines windows)) in
    subst (λ (l : List ℕ). IsPermutation l (items_for seed name (lines ++ all_lines windows)))
    (sym (same_flat (λ i. items_for seed name (block_of lines i n ++ blocks_of windows i n)) (λ i. first i ++ rest i) 0 n (λ i. items_for-append seed name (block_of lines i n) (blocks_of windows i n))))
    (IsPermutation-trans (flat_map (λ i. first i ++ rest i) range) (flat_map first range ++ flat_map rest range) (items_for seed name (lines ++ all_lines windows)) (parts first rest range)
    (subst (IsPermutation (flat_map first range ++ flat_map rest range)) split whole))
