-- Lists with the same members, each as often.
use Rattle.std.proofs.Common.{◌≡◌, ◌≢◌, ℕ, zero, suc, ◌+◌, ◌<◌, ◌≤◌, Bool, cond, eqb, List, [], ◌∷◌, length, set, get_or, length-set, ⊎_elim, refl, sym, ap, ◌∙◌, arith, eq-eqb, ne_eqb}
use Rattle.std.specs.List.Sorted.{IsPermutation}
use Rattle.std.proofs.lemmas.Bool.{cases_eq}
use Rattle.std.proofs.lemmas.List.Sums.{sum_by-cons, sum_by-set}
use Rattle.std.proofs.lemmas.List.Sorted.{sum_by-IsPermutation}
use Rattle.std.proofs.Math.Seq.{get_or-set_other}
use Rattle.sk_heap.specs.Heap.{times, HasSame}

-- 1 where two numbers are equal
abbrev pub once : ℕ → ℕ → ℕ
once x y = cond (eqb y x) 1 0

pub times-cons : (x y : ℕ) (ys : List ℕ) → times x (y ∷ ys) ≡ once x y + times x ys
times-cons x y ys = sum_by-cons (λ y. once x y) y ys

pub same_permutation : (xs ys : List ℕ) → IsPermutation xs ys → HasSame ys xs
same_permutation xs ys moved x = sum_by-IsPermutation (λ y. once x y) xs ys moved

-- one member for another
pub same_set : (xs : List ℕ) (i v w : ℕ) → i < length xs → get_or xs i 0 ≡ w → HasSame (w ∷ set xs i v) (v ∷ xs)
same_set xs i v w inside is x =
    omega (arith, times-cons x w (set xs i v), times-cons x v xs, sum_by-set (λ y. once x y) xs i v 0 inside, ap (λ (w : ℕ). once x w) is)

-- a member moves to where another stood
pub same_moved : (xs : List ℕ) (i j v w : ℕ) → i < length xs → j < length xs → i ≢ j → get_or xs i 0 ≡ w → get_or xs j 0 ≡ v → HasSame (set (set xs i v) j w) xs
same_moved xs i j v w inside inside' apart at_i at_j x =
    let there : get_or (set xs i v) j 0 ≡ v = get_or-set_other xs i j v 0 (λ same. apart (sym same)) ∙ at_j in
    omega (
      arith,
      sum_by-set (λ y. once x y) xs i v 0 inside,
      sum_by-set (λ y. once x y) (set xs i v) j w 0 (omega (arith, length-set xs i v)),
      ap (λ (w : ℕ). once x w) at_i,
      ap (λ (w : ℕ). once x w) there,
    )

pub once-same : (x : ℕ) → once x x ≡ 1
once-same x = ap (λ (b : Bool). cond b 1 0) (eq-eqb x x refl)

pub once-other : (x y : ℕ) → y ≢ x → once x y ≡ 0
once-other x y apart = ap (λ (b : Bool). cond b 1 0) (ne_eqb y x apart)

-- the same of their successors
pub once-suc : (x y : ℕ) → once (x + 1) (y + 1) ≡ once x y
once-suc x y = ⊎_elim (λ same. ap (λ (y : ℕ). once (x + 1) (y + 1)) same ∙ once-same (x + 1) ∙ sym (once-same x) ∙ ap (λ (y : ℕ). once x y) (sym same)) (λ apart. once-other (x + 1) (y + 1) (λ e. apart (omega arith)) ∙ sym (once-other x y apart)) (cases_eq y x)

pub times_from_at : (xs : List ℕ) (x i : ℕ) → i < length xs → get_or xs i 0 ≡ x → 1 ≤ times x xs
times_from_at [] x i inside is = absurd (omega arith)
times_from_at (y ∷ ys) x zero inside is = omega (arith, times-cons x y ys, ap (λ (y : ℕ). once x y) is, once-same x)
times_from_at (y ∷ ys) x (suc i) inside is = omega (arith, times-cons x y ys, times_from_at ys x i (omega arith) is)

pub at_from_times : (xs : List ℕ) (x : ℕ) → 1 ≤ times x xs → (i : ℕ) × (i < length xs) × (get_or xs i 0 ≡ x)
at_from_times [] x some = absurd (omega arith)
at_from_times (y ∷ ys) x some =
    ⊎_elim (λ same. (zero, omega arith, same))
    (λ apart. let rest = at_from_times ys x (omega (arith, times-cons x y ys, once-other x y apart)) in (suc rest.0, omega (arith, rest.1), rest.2))
    (cases_eq y x)

pub same_behind : (new mid xs : List ℕ) (v w : ℕ) → HasSame new mid → HasSame (w ∷ mid) (v ∷ xs) → HasSame (w ∷ new) (v ∷ xs)
same_behind new mid xs v w same more x = omega (arith, times-cons x w new, times-cons x w mid, same x, more x)
