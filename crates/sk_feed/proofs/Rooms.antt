-- Several windows that are fed together: shares, blocks, and room for them.
use Rattle.std.proofs.Common.{◌≡◌, ℕ, ◌+◌, ◌-◌, ◌<◌, ◌≤◌, Bool, List, [], ◌∷◌, ◌++◌, length, get_or, take, drop, map, Result, OnOk, IsOk, sym, ap, ◌∙◌, subst, arith, append-nil, length-append}
use Rattle.std.proofs.lemmas.Grind.{flat_map-append}
use Rattle.std.proofs.lemmas.List.{take_more, drop_more, take_rest, drop-map, take-append-drop, length-map, get_or-map}
use Rattle.sk_model.specs.Entries.{Entry}
use Rattle.sk_model.specs.Limits.{most_kept}
use Rattle.sk_hub.specs.Updaters.{UpdaterState, kept_of}
use Rattle.sk_read.specs.declared.kind.Kind.{Kind}
use Rattle.sk_fill.specs.Windows.{WindowState, items_in, all_lines}
use Rattle.sk_hub.specs.Calls.{Takes}
use Rattle.sk_fill.specs.Blocks.{block_of, blocks_of}
use Rattle.sk_feed.specs.Rounds.{HaveRoom, HaveRoomFor, HaveFew}
use Rattle.sk_feed.specs.Shares.{share, TakeShares}
use Rattle.sk_fill.proofs.Items.{few_items}
use Rattle.sk_feed.proofs.Rounds.{block_within, of_images, ok_gives}
use Rattle.sk_feed.proofs.Shares.{share_none, share_one, share_append}
use Rattle.sk_hub.proofs.Calls.{takes_few, takes_none, takes_trans, none_refl}

-- ---- how many

-- a share has no more items than the blocks have lines, and these no more than the windows
pub few_shares : (kind : Kind) (windows : List (List (List ℕ))) (n i : ℕ) → length (share kind windows n i) ≤ length (blocks_of windows i n)
unfolding share
few_shares kind [] n i = omega arith
few_shares kind (lines ∷ more) n i =
    let rest = few_shares kind more n i in
    omega (arith, rest, few_items kind (block_of lines i n), length-append (items_in kind (block_of lines i n)) (share kind more n i), length-append (block_of lines i n) (blocks_of more i n))

pub few_blocks : (windows : List (List (List ℕ))) (n i : ℕ) → i < n → length (blocks_of windows i n) ≤ length (all_lines windows)
few_blocks [] n i within = omega arith
few_blocks (lines ∷ more) n i within =
    let rest = few_blocks more n i within in
    omega (arith, rest, block_within lines i n within, length-append (block_of lines i n) (blocks_of more i n), length-append lines (all_lines more))

pub few_took : (keeps : ℕ → ℕ → Bool) (hint_of : List ℕ → List Entry → ℕ) (kind : Kind) (windows : List (List (List ℕ))) (us us' : List UpdaterState) → HaveFew 0 [] us → TakeShares keeps hint_of kind windows us us' → HaveFew (length (all_lines windows)) [] us'
few_took keeps hint_of kind windows us us' few taken = λ i d within.
    let within' : i < length us = omega (arith, taken.count) in
    let here = few i d within' in
    let more = takes_few keeps hint_of (get_or us i d) (get_or us' i d) (share kind windows (length us) i) (taken.each i d within') in
    omega (arith, here, more, few_shares kind windows (length us) i, few_blocks windows (length us) i within')

-- ---- room

pub room_for : (windows : List (List (List ℕ))) (count : ℕ) (us : List UpdaterState) → HaveFew count [] us → count + length (all_lines windows) ≤ most_kept → HaveRoomFor windows us
room_for windows count us few most = λ i d within. let here = few i d within in omega (arith, here, few_blocks windows (length us) i within)

pub room_one : (lines : List (List ℕ)) (us : List UpdaterState) → HaveRoom lines us → HaveRoomFor (lines ∷ []) us
room_one lines us room = λ i d within. subst (λ l. length (kept_of (get_or us i d)) + length l ≤ most_kept) (sym (append-nil (block_of lines i (length us)))) (room i d within)

pub room_first : (lines : List (List ℕ)) (us : List UpdaterState) → HaveRoomFor (lines ∷ []) us → HaveRoom lines us
room_first lines us room = λ i d within. subst (λ l. length (kept_of (get_or us i d)) + length l ≤ most_kept) (append-nil (block_of lines i (length us))) (room i d within)

blocks_append : (windows more : List (List (List ℕ))) (i n : ℕ) → blocks_of (windows ++ more) i n ≡ blocks_of windows i n ++ blocks_of more i n
blocks_append windows more i n = flat_map-append (λ lines. block_of lines i n) windows more

-- where there is room for windows there is for the first of them
pub room_before : (windows more : List (List (List ℕ))) (us : List UpdaterState) → HaveRoomFor (windows ++ more) us → HaveRoomFor windows us
room_before windows more us room = λ i d within.
    let here = room i d within in
    omega (arith, here, ap length (blocks_append windows more i (length us)), length-append (blocks_of windows i (length us)) (blocks_of more i (length us)))

-- and for the others when the first were taken
pub room_behind : (keeps : ℕ → ℕ → Bool) (hint_of : List ℕ → List Entry → ℕ) (kind : Kind) (windows more : List (List (List ℕ))) (us us' : List UpdaterState) → HaveRoomFor (windows ++ more) us → TakeShares keeps hint_of kind windows us us' → HaveRoomFor more us'
room_behind keeps hint_of kind windows more us us' room taken = λ i d within.
    let within' : i < length us = omega (arith, taken.count) in
    let here = room i d within' in
    let took = takes_few keeps hint_of (get_or us i d) (get_or us' i d) (share kind windows (length us) i) (taken.each i d within') in
    subst (λ n. length (kept_of (get_or us' i d)) + length (blocks_of more i n) ≤ most_kept) (sym taken.count)
    (omega (arith, here, took, few_shares kind windows (length us) i, ap length (blocks_append windows more i (length us)), length-append (blocks_of windows i (length us)) (blocks_of more i (length us))))

pub room_rest : (keeps : ℕ → ℕ → Bool) (hint_of : List ℕ → List Entry → ℕ) (kind : Kind) (windows : List (List (List ℕ))) (at : ℕ) (us us' : List UpdaterState) → HaveRoomFor windows us → TakeShares keeps hint_of kind (take at windows) us us' → HaveRoomFor (drop at windows) us'
room_rest keeps hint_of kind windows at us us' room taken = room_behind keeps hint_of kind (take at windows) (drop at windows) us us' (subst (λ l. HaveRoomFor l us) (sym (take-append-drop at windows)) room) taken

-- ---- one window after another

-- the lines of the windows from a place on
pub lines_behind : (ws : List WindowState) (at : ℕ) → map (λ (z : WindowState). z.lines) (take (length ws - at) (drop at ws)) ≡ drop at (map (λ (z : WindowState). z.lines) ws)
lines_behind ws at = ap (map (λ (z : WindowState). z.lines)) (take_rest ws at) ∙ sym (drop-map (λ (z : WindowState). z.lines) at ws)

-- the lines of the window at a place
at_place : (ws : List WindowState) (at : ℕ) (w : WindowState) → at < length ws → w ≡ get_or ws at w → w.lines ≡ get_or (map (λ (z : WindowState). z.lines) ws) at w.lines
at_place ws at w within is = ap (λ z. z.lines) is ∙ sym (get_or-map (λ z. z.lines) ws at w w.lines within)

pub taken_before : (ws : List WindowState) (at : ℕ) (w : WindowState) → at < length ws → w ≡ get_or ws at w → take (at + 1) (map (λ (z : WindowState). z.lines) ws) ≡ take at (map (λ (z : WindowState). z.lines) ws) ++ w.lines ∷ []
taken_before ws at w within is =
    let all = map (λ (z : WindowState). z.lines) ws in
    take_more all at w.lines (omega (arith, length-map ws (λ z. z.lines))) ∙ ap (λ l. take at all ++ l ∷ []) (sym (at_place ws at w within is))

pub left_behind : (ws : List WindowState) (at : ℕ) (w : WindowState) → at < length ws → w ≡ get_or ws at w → drop at (map (λ (z : WindowState). z.lines) ws) ≡ w.lines ∷ drop (at + 1) (map (λ (z : WindowState). z.lines) ws)
left_behind ws at w within is =
    let all = map (λ (z : WindowState). z.lines) ws in
    drop_more all at w.lines (omega (arith, length-map ws (λ z. z.lines))) ∙ ap (λ l. l ∷ drop (at + 1) all) (sym (at_place ws at w within is))

-- room for it, where those before were taken
pub room_at_place : (keeps : ℕ → ℕ → Bool) (hint_of : List ℕ → List Entry → ℕ) (kind : Kind) (ws : List WindowState) (w : WindowState) (at : ℕ) (us us' : List UpdaterState) → at < length ws → w ≡ get_or ws at w → HaveRoomFor (map (λ (z : WindowState). z.lines) ws) us
    → TakeShares keeps hint_of kind (take at (map (λ (z : WindowState). z.lines) ws)) us us' → HaveRoom w.lines us'
room_at_place keeps hint_of kind ws w at us us' within is room taken =
    let all = map (λ (z : WindowState). z.lines) ws in
    let later = room_rest keeps hint_of kind all at us us' room taken in
    room_first w.lines us' (room_before (w.lines ∷ []) (drop (at + 1) all) us' (subst (λ l. HaveRoomFor l us') (left_behind ws at w within is) later))

-- an updater on its way through windows: it took its blocks of those before a place, and has room for the others
pub record IsOnItsWay (keeps : ℕ → ℕ → Bool) (hint_of : List ℕ → List Entry → ℕ) (kind : Kind) (windows : List (List (List ℕ))) (i n at : ℕ) (u u' : UpdaterState) : Type 0 where
  pub taken : Takes keeps hint_of u (share kind (take at windows) n i) u'
  pub room : length (kept_of u') + length (blocks_of (drop at windows) i n) ≤ most_kept

pub sets_out : (keeps : ℕ → ℕ → Bool) (hint_of : List ℕ → List Entry → ℕ) (kind : Kind) (windows : List (List (List ℕ))) (i n : ℕ) (u : UpdaterState) → length (kept_of u) + length (blocks_of windows i n) ≤ most_kept → IsOnItsWay keeps hint_of kind windows i n 0 u u
sets_out keeps hint_of kind windows i n u room = record {
  taken = subst (λ l. Takes keeps hint_of u l u) (sym (share_none kind n i)) (takes_none keeps hint_of u u (none_refl u));
  room = room;
}

-- it has room for the next one
pub has_room : (keeps : ℕ → ℕ → Bool) (hint_of : List ℕ → List Entry → ℕ) (kind : Kind) (ws : List WindowState) (w : WindowState) (i n at : ℕ) (u u' : UpdaterState) → at < length ws → w ≡ get_or ws at w → IsOnItsWay keeps hint_of kind (map (λ (z : WindowState). z.lines) ws) i n at u u' → length (kept_of u') + length (block_of w.lines i n) ≤ most_kept
has_room keeps hint_of kind ws w i n at u u' within is way =
    let later = drop (at + 1) (map (λ (z : WindowState). z.lines) ws) in
    let room : length (kept_of u') + length (blocks_of (w.lines ∷ later) i n) ≤ most_kept = subst (λ l. length (kept_of u') + length (blocks_of l i n) ≤ most_kept) (left_behind ws at w within is) way.room in
    omega (arith, room, length-append (block_of w.lines i n) (blocks_of later i n))

-- it took its block of that
pub goes_on_its_way : (keeps : ℕ → ℕ → Bool) (hint_of : List ℕ → List Entry → ℕ) (kind : Kind) (ws : List WindowState) (w : WindowState) (i n at : ℕ) (u v u' : UpdaterState) → at < length ws → w ≡ get_or ws at w → IsOnItsWay keeps hint_of kind (map (λ (z : WindowState). z.lines) ws) i n at u v
    → Takes keeps hint_of v (items_in kind (block_of w.lines i n)) u' → IsOnItsWay keeps hint_of kind (map (λ (z : WindowState). z.lines) ws) i n (at + 1) u u'
goes_on_its_way keeps hint_of kind ws w i n at u v u' within is way taken =
    let all = map (λ (z : WindowState). z.lines) ws in
    let later = drop (at + 1) all in
    let room : length (kept_of v) + length (blocks_of (w.lines ∷ later) i n) ≤ most_kept = subst (λ l. length (kept_of v) + length (blocks_of l i n) ≤ most_kept) (left_behind ws at w within is) way.room in
    let took = takes_few keeps hint_of v u' (items_in kind (block_of w.lines i n)) taken in
    let joined : share kind (take at all) n i ++ items_in kind (block_of w.lines i n) ≡ share kind (take (at + 1) all) n i
    = ap (λ l. share kind (take at all) n i ++ l) (sym (share_one kind w.lines n i)) ∙ sym (share_append kind (take at all) (w.lines ∷ []) n i) ∙ ap (λ l. share kind l n i) (sym (taken_before ws at w within is)) in
    record {
      taken = subst (λ l. Takes keeps hint_of u l u') joined (takes_trans keeps hint_of u v u' (share kind (take at all) n i) (items_in kind (block_of w.lines i n)) way.taken taken);
      room = omega (arith, room, took, few_items kind (block_of w.lines i n), length-append (block_of w.lines i n) (blocks_of later i n));
    }

-- ---- all updaters

pub room_for_at : {A : Type 0} (f : A → UpdaterState) (windows : List (List (List ℕ))) (xs : List A) (i : ℕ) (x : A) → i < length xs → x ≡ get_or xs i x → HaveRoomFor windows (map f xs) → length (kept_of (f x)) + length (blocks_of windows i (length xs)) ≤ most_kept
room_for_at f windows xs i x inside is room =
    let at = room i (f x) (omega (arith, length-map xs f)) in
    subst (λ n. length (kept_of (f x)) + length (blocks_of windows i n) ≤ most_kept) (length-map xs f)
    (subst (λ u. length (kept_of u) + length (blocks_of windows i (length (map f xs))) ≤ most_kept) (get_or-map f xs i x (f x) inside ∙ ap f (sym is)) at)

pub all_take_shares : {A T E : Type 0} (f : A → UpdaterState) (fed : A → Result T E) (keeps : ℕ → ℕ → Bool) (hint_of : List ℕ → List Entry → ℕ) (kind : Kind) (windows : List (List (List ℕ))) (xs ys : List A) → length ys ≡ length xs
    → ((i : ℕ) (d : A) → i < length ys → IsOk (fed (get_or ys i d)))
    → ((i : ℕ) (d : A) → i < length xs → OnOk (fed (get_or ys i d)) (Takes keeps hint_of (f (get_or xs i d)) (share kind windows (length xs) i) (f (get_or ys i d))))
    → TakeShares keeps hint_of kind windows (map f xs) (map f ys)
all_take_shares f fed keeps hint_of kind windows xs ys same all each =
    let takes : (i : ℕ) → ℕ → UpdaterState → UpdaterState → Type 0 = λ i n u u'. Takes keeps hint_of u (share kind windows n i) u' in record {
      count = length-map ys f ∙ same ∙ sym (length-map xs f);
      each = of_images f (λ i. takes i (length (map f xs))) xs ys same
          (λ i d inside. subst (λ n. takes i n (f (get_or xs i d)) (f (get_or ys i d))) (sym (length-map xs f)) (ok_gives (fed (get_or ys i d)) (all i d (omega arith)) (each i d inside)));
    }
