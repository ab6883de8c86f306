-- What a copy of a view knows of sizes.
use Rattle.std.proofs.Common.{◌≡◌, ◌≢◌, ℕ, zero, suc, List, [], ◌∷◌, length, map, get_or, refl, ap, subst, ⊎_elim}
use Rattle.std.proofs.lemmas.Bool.{cases_eq}
use Rattle.sk_machine.specs.declared.views.Post.{Post}
use Rattle.sk_machine.specs.declared.views.Post.TheVariants.{Guest, Root, Updater}
use Rattle.sk_gate.specs.Views.{only_at, sizes_on}

zeros_at : (xs : List ℕ) (i : ℕ) → get_or (map (λ (_ : ℕ). zero) xs) i zero ≡ zero
zeros_at [] i = refl
zeros_at (x ∷ xs) zero = refl
zeros_at (x ∷ xs) (suc i) = zeros_at xs i

zeros_length : (xs : List ℕ) → length (map (λ (_ : ℕ). zero) xs) ≡ length xs
zeros_length [] = refl
zeros_length (x ∷ xs) = ap suc (zeros_length xs)

only_length : (i : ℕ) (xs : List ℕ) → length (only_at i xs) ≡ length xs
only_length i [] = refl
only_length zero (x ∷ xs) = ap suc (zeros_length xs)
only_length (suc i) (x ∷ xs) = ap suc (only_length i xs)

pub only_here : (xs : List ℕ) (i : ℕ) → get_or (only_at i xs) i 0 ≡ get_or xs i 0
only_here [] i = refl
only_here (x ∷ xs) zero = refl
only_here (x ∷ xs) (suc i) = only_here xs i

pub only_else : (xs : List ℕ) (a i : ℕ) → i ≢ a → get_or (only_at a xs) i 0 ≡ 0
only_else [] a i ne = refl
only_else (x ∷ xs) zero zero ne = absurd (ne refl)
only_else (x ∷ xs) zero (suc i) ne = zeros_at xs i
only_else (x ∷ xs) (suc a) zero ne = refl
only_else (x ∷ xs) (suc a) (suc i) ne = only_else xs a i (λ e. ne (ap suc e))

pub copied_length : (sizes : List ℕ) (p : Post) → length (sizes_on sizes p) ≡ length sizes
copied_length sizes Guest = refl
copied_length sizes (Root made) = refl
copied_length sizes (Updater a mine) = only_length a sizes

-- a size that it knows is that of the seat
pub copied_size : (sizes : List ℕ) (p : Post) (i : ℕ) → get_or (sizes_on sizes p) i 0 ≢ 0 → get_or (sizes_on sizes p) i 0 ≡ get_or sizes i 0
copied_size sizes Guest i known = refl
copied_size sizes (Root made) i known = refl
copied_size sizes (Updater a mine) i known = ⊎_elim
    (λ (e : i ≡ a). subst (λ z. get_or (only_at z sizes) i 0 ≡ get_or sizes i 0) e (only_here sizes i))
    (λ (ne : i ≢ a). absurd (known (only_else sizes a i ne)))
    (cases_eq i a)
