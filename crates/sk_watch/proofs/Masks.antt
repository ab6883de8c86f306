-- Lemmas on masks, as a loop over the places builds them.
use Rattle.std.proofs.Common.{◌≡◌, ℕ, zero, suc, ◌+◌, ◌*◌, ◌^◌, ◌<◌, ◌≤◌, if◌then◌else◌, Bool, true, false, List, [], ◌∷◌, ◌++◌, length, map, take, get_or, refl, ap, ◌∙◌, sym, subst, arith, length-take-le}
use Rattle.std.specs.Int.{bit_at}
use Rattle.std.proofs.lemmas.Nat.Bits.{bit_at-zero, bit_at-suc}
use Rattle.std.proofs.lemmas.Grind.{take_at_read}
use Rattle.std.proofs.lemmas.List.{length-map, map-append}
use Rattle.std.proofs.Math.Nat.{pow-succ'}
use Rattle.sk_watch.specs.Masks.{mask_of}

two : (n : ℕ) → 2 ^ suc n ≡ 2 * 2 ^ n
two n = pow-succ' 2 n

pub no_places : 0 ≡ mask_of []
unfolding mask_of
no_places = refl

mask-append : (flags : List Bool) (flag : Bool) → mask_of (flags ++ flag ∷ []) ≡ mask_of flags + (if flag then 2 ^ length flags else 0)
unfolding mask_of
mask-append [] true = refl
mask-append [] false = refl
mask-append (true ∷ bs) true = omega (arith, mask-append bs true, two (length bs))
mask-append (false ∷ bs) true = omega (arith, mask-append bs true, two (length bs))
mask-append (true ∷ bs) false = omega (arith, mask-append bs false)
mask-append (false ∷ bs) false = omega (arith, mask-append bs false)

mask-below : (flags : List Bool) → mask_of flags < 2 ^ length flags
unfolding mask_of
mask-below [] = omega arith
mask-below (true ∷ bs) = omega (arith, mask-below bs, two (length bs))
mask-below (false ∷ bs) = omega (arith, mask-below bs, two (length bs))

length_first : {X : Type 0} (f : X → Bool) (xs : List X) (i : ℕ) → i ≤ length xs → length (map f (take i xs)) ≡ i
length_first f xs i within = length-map (take i xs) f ∙ length-take-le i xs within

-- the mask of the first i places fits below the bit of the next one
pub mask_within : {X : Type 0} (f : X → Bool) (xs : List X) (i : ℕ) → i < length xs → mask_of (map f (take i xs)) < 2 ^ i
mask_within f xs i inside = subst (λ n. mask_of (map f (take i xs)) < 2 ^ n) (length_first f xs i (omega (arith, inside))) (mask-below (map f (take i xs)))

one_more : {X : Type 0} (f : X → Bool) (xs : List X) (i : ℕ) (d : X) → i < length xs → mask_of (map f (take (i + 1) xs)) ≡ mask_of (map f (take i xs)) + (if f (get_or xs i d) then 2 ^ i else 0)
one_more f xs i d inside =
    ap (λ l. mask_of (map f l)) (take_at_read xs i d inside).1 ∙ ap mask_of (map-append f (take i xs) (get_or xs i d ∷ []))
    ∙ mask-append (map f (take i xs)) (f (get_or xs i d))
    ∙ ap (λ n. mask_of (map f (take i xs)) + (if f (get_or xs i d) then 2 ^ n else 0)) (length_first f xs i (omega (arith, inside)))

-- one place more
pub mask_more : {X : Type 0} (f : X → Bool) (xs : List X) (i mask : ℕ) (bit : Bool) (d : X) → i < length xs → mask ≡ mask_of (map f (take i xs)) → bit ≡ f (get_or xs i d) →
    mask + (if bit then 2 ^ i else 0) ≡ mask_of (map f (take (i + 1) xs))
mask_more f xs i mask bit d inside so_far is = rw (so_far, is) (sym (one_more f xs i d inside))

-- a bit of a mask is that of its place
pub bits_of_masks : (flags : List Bool) (i : ℕ) → bit_at (mask_of flags) i ≡ (if get_or flags i false then 1 else 0)
unfolding mask_of
bits_of_masks [] i = bit_at-zero i
bits_of_masks (true ∷ bs) zero = omega arith
bits_of_masks (false ∷ bs) zero = omega arith
bits_of_masks (true ∷ bs) (suc i) = bit_at-suc (1 + 2 * mask_of bs) i ∙ ap (λ n. bit_at n i) (omega arith) ∙ bits_of_masks bs i
bits_of_masks (false ∷ bs) (suc i) = bit_at-suc (0 + 2 * mask_of bs) i ∙ ap (λ n. bit_at n i) (omega arith) ∙ bits_of_masks bs i
