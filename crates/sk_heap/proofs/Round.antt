-- Going round: remainders of sums.
use Rattle.std.proofs.Common.{◌≡◌, ℕ, zero, suc, ◌+◌, ◌-◌, ◌*◌, ◌/◌, ◌%◌, ◌<◌, sym, ap, ◌∙◌, arith}
use Rattle.std.proofs.Math.Nat.{mod-add-mod, add-mod-mod, add-mul-mod_self_right, mod-add-div', mod-eq_of_lt}

-- two that stand at one place stand at one place after as many steps
pub same_steps : (m a b c : ℕ) → a % m ≡ b % m → (a + c) % m ≡ (b + c) % m
same_steps m a b c same = sym (mod-add-mod a m c) ∙ ap (λ (n : ℕ). (n + c) % m) same ∙ mod-add-mod b m c

whole_rounds : (m a c : ℕ) → 0 < m → ((a + c) + c * (m - 1)) % m ≡ a % m
whole_rounds zero a c some = absurd (omega arith)
whole_rounds (suc m) a c some =
    let times : c * suc m ≡ c * m + c = omega arith in
    let less : suc m - 1 ≡ m = omega arith in
    let sum : (a + c) + c * (suc m - 1) ≡ a + c * suc m = rw (less, times) (omega arith) in
    ap (λ (n : ℕ). n % suc m) sum ∙ add-mul-mod_self_right a c (suc m)

-- and so before them
pub same_before : (m a b c : ℕ) → 0 < m → (a + c) % m ≡ (b + c) % m → a % m ≡ b % m
same_before m a b c some same = sym (whole_rounds m a c some) ∙ same_steps m (a + c) (b + c) (c * (m - 1)) same ∙ whole_rounds m b c some

-- within one round each place is met once
pub one_round : (m s i j : ℕ) → i < m → j < m → (s + i) % m ≡ (s + j) % m → i ≡ j
one_round m s i j under under' same =
    let turn : (i + s) % m ≡ (j + s) % m = ap (λ (n : ℕ). n % m) (swap i s) ∙ same ∙ ap (λ (n : ℕ). n % m) (swap s j) in
    sym (mod-eq_of_lt under) ∙ same_before m i j s (omega arith) turn ∙ mod-eq_of_lt under'
  where
    swap : (a b : ℕ) → a + b ≡ b + a
    swap a b = omega arith

-- how far a place is
pub steps_reach : (m h p : ℕ) → p < m → (h + (p + m - h % m) % m) % m ≡ p
steps_reach m h p under =
    let low : h % m < m = omega arith in
    let split : h % m + h / m * m ≡ h = mod-add-div' h m in
    let sum : h + (p + m - h % m) ≡ p + (h / m + 1) * m = rounds (h / m) m (omega arith) in
    add-mod-mod h (p + m - h % m) m ∙ ap (λ (n : ℕ). n % m) sum ∙ add-mul-mod_self_right p (h / m + 1) m ∙ mod-eq_of_lt under
  where
    rounds : (q m : ℕ) → h + (p + m - h % m) ≡ p + q * m + m → h + (p + m - h % m) ≡ p + (q + 1) * m
    rounds q m e = omega arith

-- as many steps on from one place
pub steps_on : (m h e s g k n c : ℕ) → (h + e) % m ≡ (s + g) % m → n ≡ e + k → c ≡ g + k → (h + n) % m ≡ (s + c) % m
steps_on m h e s g k n c same n_is c_is =
    let left : h + n ≡ (h + e) + k = omega arith in
    let right : (s + g) + k ≡ s + c = omega arith in
    ap (λ (x : ℕ). x % m) left ∙ same_steps m (h + e) (s + g) k same ∙ ap (λ (x : ℕ). x % m) right

-- and back
pub steps_back : (m h e s g k n c : ℕ) → 0 < m → (h + n) % m ≡ (s + c) % m → n ≡ e + k → c ≡ g + k → (h + e) % m ≡ (s + g) % m
steps_back m h e s g k n c some same n_is c_is =
    let left : (h + e) + k ≡ h + n = omega arith in
    let right : s + c ≡ (s + g) + k = omega arith in
    same_before m (h + e) (s + g) k some (ap (λ (x : ℕ). x % m) left ∙ same ∙ ap (λ (x : ℕ). x % m) right)
