-- Members of two lists, and the distinct members of one, rising.
use Rattle.std.proofs.Common.{◌≡◌, ℕ, ◌≤◌, ◌⊎◌, inl, inr, ⊎_elim, List, [], ◌∷◌, ◌++◌, Contains, refl}
use Rattle.std.specs.List.Sorted.{IsStrictlyIncreasing}
use Rattle.sk_model.specs.Sketch.{rising}
use Rattle.sk_model.proofs.Rising.{RisesFrom, Has, Has-from_Contains, Contains-from_Has, increasing_from_RisesFrom}
use Rattle.sk_model.proofs.Sketch.{RisesFrom-rising, Has-rising, rising-has, rising_is}

pub has_right : (xs ys : List ℕ) (z : ℕ) → Has ys z → Has (xs ++ ys) z
has_right [] ys z h = h
has_right (x ∷ xs) ys z h = inr (has_right xs ys z h)

pub has_cases : (xs ys : List ℕ) (z : ℕ) → Has (xs ++ ys) z → Has xs z ⊎ Has ys z
has_cases [] ys z h = inr h
has_cases (x ∷ xs) ys z (inl is) = inl (inl is)
has_cases (x ∷ xs) ys z (inr h) = ⊎_elim (λ g. inl (inr g)) inr (has_cases xs ys z h)

pub rises_above : (b : ℕ) (xs : List ℕ) → RisesFrom 0 xs → ((z : ℕ) → Has xs z → b ≤ z) → RisesFrom b xs
rises_above b [] up above = tt
rises_above b (x ∷ xs) up above = (above x (inl refl), up.1)

pub rising_nil : rising [] ≡ []
unfolding rising
rising_nil = refl

pub rising_increases : (xs : List ℕ) → IsStrictlyIncreasing (rising xs)
rising_increases xs = increasing_from_RisesFrom 0 (rising xs) (RisesFrom-rising xs)

pub rising_member : (xs : List ℕ) (z : ℕ) → Contains (rising xs) z → Contains xs z
rising_member xs z c = Contains-from_Has xs z (Has-rising xs z (Has-from_Contains (rising xs) z c))

pub member_rising : (xs : List ℕ) (z : ℕ) → Contains xs z → Contains (rising xs) z
member_rising xs z c = Contains-from_Has (rising xs) z (rising-has xs z (Has-from_Contains xs z c))

-- it is the same for lists with the same members
pub rising_of_members : (xs ys : List ℕ) → ((z : ℕ) → Contains xs z → Contains ys z) → ((z : ℕ) → Contains ys z → Contains xs z) → rising xs ≡ rising ys
rising_of_members xs ys to from =
    rising_is (rising ys) xs (rising_increases ys) (λ z c. from z (rising_member ys z c)) (λ z c. member_rising ys z (to z c))
