-- Rooms whose updaters come and go.
use Rattle.std.proofs.Common.{◌≡◌, ℕ, zero, suc, ◌<◌, List, [], ◌∷◌, ◌++◌, length, get_or, set, map, replicate, reverse, take, drop, All, refl, sym, ap, subst, ◌∙◌, arith, append-nil, append_assoc, ext_get_or, take-append-drop}
use Rattle.std.proofs.lemmas.List.{get_or-map, get_or-replicate, length-map, map-append, map-set, reverse-append, reverse-reverse, set-get_or}
use Rattle.sk_hub.specs.Updaters.{UpdaterState}
use Rattle.sk_hub.specs.Hearts.{HeartState}
use Rattle.sk_hub.specs.Drains.{IsDrained}
use Rattle.sk_feed.specs.Drained.{DrainsAll}
use Rattle.sk_feed.proofs.Drained.{next_has, none_taken, one_more}
use Rattle.sk_tenant.specs.Rooms.{RoomState, empty_room, lists_in, sizes_of, emptied}
use Rattle.sk_tenant.specs.Drainings.{AreAllOf}
use Rattle.sk_tenant.proofs.FromEnd.{ChangedFrom}

map_replicate : {A B : Type 0} (f : A → B) (n : ℕ) (x : A) → map f (replicate n x) ≡ replicate n (f x)
map_replicate f zero x = refl
map_replicate f (suc n) x = ap (λ l. f x ∷ l) (map_replicate f n x)

pub lists_at_first : (count n : ℕ) (rooms : List RoomState) → rooms ≡ replicate count (empty_room n) → lists_in rooms ≡ replicate count []
lists_at_first count n rooms are = ap lists_in are ∙ map_replicate (λ room. room.items) count (empty_room n)

pub sizes_at_first : (count n : ℕ) (rooms : List RoomState) → rooms ≡ replicate count (empty_room n) → sizes_of rooms ≡ replicate count n
sizes_at_first count n rooms are = ap sizes_of are ∙ map_replicate (λ room. room.most) count (empty_room n)

-- each room has a place left, if all have the same number of updaters and were made for more
pub have_place : (rooms : List RoomState) (i n : ℕ) → All (λ l. length l ≡ i) (lists_in rooms) → sizes_of rooms ≡ replicate (length rooms) n → i < n → All (λ room. length room.items < room.most) rooms
have_place rooms i n full sizes fewer t r within =
    let inside : t < length (lists_in rooms) = omega (arith, within, length-map rooms (λ room. room.items)) in
    omega (
      arith,
      fewer,
      ap length (get_or-map (λ room. room.items) rooms t r [] within),
      full t [] inside,
      sym (get_or-map (λ room. room.most) rooms t r 0 within) ∙ ap (λ l. get_or l t 0) sizes ∙ get_or-replicate (length rooms) t n 0 within,
    )

-- and so has one that is as it was
pub has_place : (old rooms : List RoomState) (t : ℕ) (room : RoomState) → All (λ r. length r.items < r.most) old → room ≡ get_or rooms t room → get_or (lists_in rooms) t [] ≡ get_or (lists_in old) t [] → sizes_of rooms ≡ sizes_of old → t < length rooms
    → length room.items < room.most
has_place old rooms t room place at list sizes within =
    let inside : t < length old = omega (arith, within, ap length sizes, length-map rooms (λ r. r.most), length-map old (λ r. r.most)) in
    omega (
      arith,
      place t room inside,
      ap (λ r. length r.items) at,
      ap (λ r. r.most) at,
      ap length (get_or-map (λ r. r.items) rooms t room [] within),
      ap length list,
      ap length (get_or-map (λ r. r.items) old t room [] inside),
      get_or-map (λ r. r.most) rooms t room 0 within,
      ap (λ l. get_or l t 0) sizes,
      get_or-map (λ r. r.most) old t room 0 inside,
    )

-- a room changes, and not its size
pub sizes_stay : (rooms : List RoomState) (t : ℕ) (r r' : RoomState) → r ≡ get_or rooms t r → r'.most ≡ r.most → t < length rooms → sizes_of (set rooms t r') ≡ sizes_of rooms
sizes_stay rooms t r r' at same within =
    map-set (λ x. x.most) rooms t r'
    ∙ ap (λ n. set (sizes_of rooms) t n) (same ∙ ap (λ x. x.most) at ∙ sym (get_or-map (λ x. x.most) rooms t r 0 within))
    ∙ set-get_or (sizes_of rooms) t 0

-- ---- emptied

pub emptied_each : (old rooms : List RoomState) → ChangedFrom (λ t r r'. r' ≡ empty_room r.most) 0 old rooms → rooms ≡ emptied old
emptied_each old rooms each =
    ext_get_or (empty_room 0) rooms (emptied old) (each.count ∙ sym (length-map old (λ r. empty_room r.most)))
    (λ t within.
    let inside : t < length old = omega (arith, within, each.count) in
    each.after t (empty_room 0) (omega arith) inside ∙ sym (get_or-map (λ r. empty_room r.most) old t (empty_room 0) (empty_room 0) inside))

pub emptied_halves : (rooms first last : List RoomState) (half : ℕ) → first ≡ emptied (take half rooms) → last ≡ emptied (drop half rooms) → first ++ last ≡ emptied rooms
emptied_halves rooms first last half low high =
    ap (λ l. l ++ last) low ∙ ap (λ l. emptied (take half rooms) ++ l) high
    ∙ sym (map-append (λ r. empty_room r.most) (take half rooms) (drop half rooms))
    ∙ ap emptied (take-append-drop half rooms)

by_sizes : (rooms : List RoomState) → emptied rooms ≡ map empty_room (sizes_of rooms)
by_sizes [] = refl
by_sizes (r ∷ rs) = ap (λ l. empty_room r.most ∷ l) (by_sizes rs)

-- rooms that were empty are so again
pub empty_again : (tenants n : ℕ) (old rooms : List RoomState) → old ≡ replicate tenants (empty_room n) → sizes_of rooms ≡ sizes_of old → emptied rooms ≡ replicate tenants (empty_room n)
empty_again tenants n old rooms are same =
    by_sizes rooms ∙ ap (map empty_room) (same ∙ sizes_at_first tenants n old are) ∙ map_replicate empty_room tenants n

-- ---- drained

-- of all updaters these are left, the next one last, and the others were drained
pub record AreDrainedOf (h : HeartState) (us left : List UpdaterState) (h' : HeartState) : Type 0 where
  pub first : List UpdaterState
  pub all : first ++ reverse left ≡ us
  pub drained : DrainsAll h first h'

pub none_drained : (h : HeartState) (us left : List UpdaterState) → left ≡ reverse us → AreDrainedOf h us left h
none_drained h us left is = record {
  first = [];
  all = ap reverse is ∙ reverse-reverse us;
  drained = none_taken h;
}

module _ (h h' : HeartState) (us left rest : List UpdaterState) (u : UpdaterState) (are : AreAllOf h us) (is : left ≡ rest ++ u ∷ []) (drained : AreDrainedOf h us left h') where
  here : drained.first ++ u ∷ reverse rest ≡ us
  here = ap (λ l. drained.first ++ l) (sym (reverse-append rest (u ∷ [])) ∙ ap reverse (sym is)) ∙ drained.all

  pub table_of_next : u.table ≡ h'.table
  table_of_next = next_has (λ i x. x.table ≡ h.table) us drained.first (reverse rest) u here are.tables ∙ sym drained.drained.table

  pub one_drained : (h2 : HeartState) → IsDrained h' u h2 → AreDrainedOf h us rest h2
  one_drained h2 now = record {
    first = drained.first ++ u ∷ [];
    all = append_assoc drained.first (u ∷ []) (reverse rest) ∙ here;
    drained = one_more h h' h2 drained.first u drained.drained (next_has (λ i x. x.number ≡ i) us drained.first (reverse rest) u here are.numbers) now;
  }

pub all_drained : (h h' : HeartState) (us left : List UpdaterState) → left ≡ [] → AreDrainedOf h us left h' → DrainsAll h us h'
all_drained h h' us left none drained = subst (λ l. DrainsAll h l h') (sym (append-nil drained.first) ∙ ap (λ l. drained.first ++ reverse l) (sym none) ∙ drained.all) drained.drained
