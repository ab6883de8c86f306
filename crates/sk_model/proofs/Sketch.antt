-- The laws of the k smallest.
use Rattle.std.proofs.Common.{◌≡◌, ℕ, zero, suc, ◌+◌, ◌-◌, ◌^◌, ◌<◌, ◌≤◌, Bool, true, false, List, [], ◌∷◌, ◌++◌, length, take, get_or, min, ltb, cond, All, Contains, ◌⊎◌, inl, inr, ⊎_elim, refl, sym, ap, ◌∙◌, arith, length-take, append_assoc, get_or-take}
use Rattle.std.specs.List.Sorted.{IsStrictlyIncreasing}
use Rattle.std.proofs.lemmas.Bool.Decides.{nat_tests}
use Rattle.std.proofs.lemmas.List.Elements.{All-contains, Contains-get_or, Contains-append_left, Contains-append_right, Contains-append_cases}
use Rattle.std.proofs.lemmas.List.{take_more}
use Rattle.std.proofs.lemmas.List.Sums.{fold-append}
use Rattle.sk_model.specs.Width.{item_end, IsItem, AreItems}
use Rattle.sk_model.specs.Sketch.{placed, rising, k_smallest, count_of, theta_to, theta_of, IsIdle, packed_of, unpacked}
use Rattle.sk_model.proofs.Rising.{RisesFrom, Has, Has-from_Contains, Contains-from_Has, Has-take, RisesFrom-take, RisesFrom-at, RisesFrom-increasing, increasing_from_RisesFrom, same_rising, among_the_least, take_is_least, all_to_last, take-placed, placed-idle, all_placed, RisesFrom-all_placed, Has-all_placed, all_placed-has, length-all_placed, all_placed-at_most, take-all_placed}

-- ---- the distinct members, rising

pub RisesFrom-rising : (hashes : List ℕ) → RisesFrom 0 (rising hashes)
unfolding rising
RisesFrom-rising hashes = RisesFrom-all_placed [] hashes tt

pub Has-rising : (hashes : List ℕ) (z : ℕ) → Has (rising hashes) z → Has hashes z
unfolding rising
Has-rising hashes z g = ⊎_elim (λ p. absurd p) (λ p. p) (Has-all_placed [] hashes z g)

pub rising-has : (hashes : List ℕ) (z : ℕ) → Has hashes z → Has (rising hashes) z
unfolding rising
rising-has hashes z g = all_placed-has [] hashes z g

pub rising-append : (hashes more : List ℕ) → rising (hashes ++ more) ≡ all_placed (rising hashes) more
unfolding rising
rising-append hashes more = fold-append (λ kept h. placed h kept) [] hashes more

-- one more of a list
pub rising_more : (hashes : List ℕ) (i d : ℕ) → i < length hashes → rising (take (i + 1) hashes) ≡ placed (get_or hashes i d) (rising (take i hashes))
rising_more hashes i d inside = ap rising (take_more hashes i d inside) ∙ rising-append (take i hashes) (get_or hashes i d ∷ [])

-- strictly increasing lists with the same members are equal
pub one_increasing : (xs ys : List ℕ) → IsStrictlyIncreasing xs → IsStrictlyIncreasing ys → ((x : ℕ) → Contains xs x → Contains ys x) → ((x : ℕ) → Contains ys x → Contains xs x) → xs ≡ ys
one_increasing xs ys up up' to from =
    same_rising 0 0 xs ys (RisesFrom-increasing xs up) (RisesFrom-increasing ys up')
    (λ z h. Has-from_Contains ys z (to z (Contains-from_Has xs z h))) (λ z h. Has-from_Contains xs z (from z (Contains-from_Has ys z h)))

-- hence a strictly increasing list with the members of hashes is `rising hashes`
pub rising_is : (xs hashes : List ℕ) → IsStrictlyIncreasing xs → ((x : ℕ) → Contains xs x → Contains hashes x) → ((x : ℕ) → Contains hashes x → Contains xs x) → rising hashes ≡ xs
rising_is xs hashes up to from =
    same_rising 0 0 (rising hashes) xs (RisesFrom-rising hashes) (RisesFrom-increasing xs up)
    (λ z h. Has-from_Contains xs z (from z (Contains-from_Has hashes z (Has-rising hashes z h)))) (λ z h. rising-has hashes z (Has-from_Contains hashes z (to z (Contains-from_Has xs z h))))

pub rising_of_increasing : (xs : List ℕ) → IsStrictlyIncreasing xs → rising xs ≡ xs
rising_of_increasing xs up = rising_is xs xs up (λ x c. c) (λ x c. c)

-- ---- the k smallest

pub RisesFrom-k_smallest : (k : ℕ) (hashes : List ℕ) → RisesFrom 0 (k_smallest k hashes)
unfolding k_smallest
RisesFrom-k_smallest k hashes = RisesFrom-take 0 k (rising hashes) (RisesFrom-rising hashes)

pub k_smallest_rises : (k : ℕ) (hashes : List ℕ) → IsStrictlyIncreasing (k_smallest k hashes)
k_smallest_rises k hashes = increasing_from_RisesFrom 0 (k_smallest k hashes) (RisesFrom-k_smallest k hashes)

pub count_within : (k : ℕ) (hashes : List ℕ) → count_of k hashes ≤ k
unfolding k_smallest
count_within k hashes = omega (arith, length-take k (rising hashes))

pub k_smallest_has_members : (k : ℕ) (hashes : List ℕ) (x : ℕ) → Contains (k_smallest k hashes) x → Contains hashes x
unfolding k_smallest
k_smallest_has_members k hashes x c = Contains-from_Has hashes x (Has-rising hashes x (Has-take k (rising hashes) x (Has-from_Contains (k_smallest k hashes) x c)))

pub k_smallest_has_the_least : (k : ℕ) (hashes : List ℕ) (x : ℕ) → Contains hashes x → Contains (k_smallest k hashes) x ⊎ ((count_of k hashes ≡ k) × All (λ y. y < x) (k_smallest k hashes))
unfolding k_smallest
k_smallest_has_the_least k hashes x c =
    ⊎_elim (λ h. inl (Contains-from_Has (k_smallest k hashes) x h)) (λ p. inr p)
    (among_the_least k 0 (rising hashes) x (RisesFrom-rising hashes) (rising-has hashes x (Has-from_Contains hashes x c)))

pub k_smallest_are_items : (k : ℕ) (hashes : List ℕ) → AreItems hashes → AreItems (k_smallest k hashes)
k_smallest_are_items k hashes items i d inside =
    All-contains IsItem hashes (get_or (k_smallest k hashes) i d) items
    (k_smallest_has_members k hashes (get_or (k_smallest k hashes) i d) (Contains-get_or (k_smallest k hashes) i d inside))

pub k_smallest-nil : (k : ℕ) → k_smallest k [] ≡ []
unfolding k_smallest rising
k_smallest-nil zero = refl
k_smallest-nil (suc k) = refl

pub one_more : (k h : ℕ) (hashes : List ℕ) → k_smallest k (hashes ++ h ∷ []) ≡ take k (placed h (k_smallest k hashes))
unfolding k_smallest
one_more k h hashes = ap (λ (l : List ℕ). take k l) (rising-append hashes (h ∷ [])) ∙ sym (take-placed k h (rising hashes))

pub a_batch_more : (k : ℕ) (hashes more : List ℕ) → k_smallest k (hashes ++ more) ≡ k_smallest k (k_smallest k hashes ++ more)
unfolding k_smallest
a_batch_more k hashes more =
    let kept = k_smallest k hashes in
    ap (λ (l : List ℕ). take k l) (rising-append hashes more)
    ∙ sym (take-all_placed k (rising hashes) more)
    ∙ ap (λ (l : List ℕ). take k (all_placed l more)) (sym (rising_of_increasing kept (k_smallest_rises k hashes)))
    ∙ ap (λ (l : List ℕ). take k l) (sym (rising-append kept more))

-- what is said of the k smallest holds of no other list
pub k_smallest_is : (k : ℕ) (xs hashes : List ℕ) → IsStrictlyIncreasing xs → length xs ≤ k → ((x : ℕ) → Contains xs x → Contains hashes x) → ((x : ℕ) → Contains hashes x → Contains xs x ⊎ ((length xs ≡ k) × All (λ y. y < x) xs)) → k_smallest k hashes ≡ xs
unfolding k_smallest
k_smallest_is k xs hashes up most to from =
    take_is_least k 0 0 xs (rising hashes) (RisesFrom-increasing xs up) (RisesFrom-rising hashes) most
    (λ z h. rising-has hashes z (Has-from_Contains hashes z (to z (Contains-from_Has xs z h))))
    (λ z h. ⊎_elim (λ c. inl (Has-from_Contains xs z c)) (λ p. inr p) (from z (Contains-from_Has hashes z (Has-rising hashes z h))))

-- lists with the same members have the same k smallest
pub k_smallest_of_members : (k : ℕ) (xs ys : List ℕ) → ((x : ℕ) → Contains xs x → Contains ys x) → ((x : ℕ) → Contains ys x → Contains xs x) → k_smallest k xs ≡ k_smallest k ys
k_smallest_of_members k xs ys to from =
    k_smallest_is k (k_smallest k ys) xs (k_smallest_rises k ys) (count_within k ys)
    (λ x has. from x (k_smallest_has_members k ys x has)) (λ x has. k_smallest_has_the_least k ys x (to x has))

turned : (xs ys : List ℕ) (x : ℕ) → Contains (xs ++ ys) x → Contains (ys ++ xs) x
turned xs ys x has = ⊎_elim (λ here. Contains-append_right ys xs x here) (λ there. Contains-append_left ys xs x there) (Contains-append_cases xs ys x has)

-- either of two lists may come first
pub either_first : (k : ℕ) (xs ys : List ℕ) → k_smallest k (xs ++ ys) ≡ k_smallest k (ys ++ xs)
either_first k xs ys = k_smallest_of_members k (xs ++ ys) (ys ++ xs) (turned xs ys) (turned ys xs)

-- nothing more is needed of either than what is kept of it
pub k_smallest_append : (k : ℕ) (xs ys : List ℕ) → k_smallest k (k_smallest k xs ++ k_smallest k ys) ≡ k_smallest k (xs ++ ys)
k_smallest_append k xs ys =
    either_first k (k_smallest k xs) (k_smallest k ys) ∙ sym (a_batch_more k ys (k_smallest k xs)) ∙ either_first k ys (k_smallest k xs) ∙ sym (a_batch_more k xs ys)

-- ---- theta

-- theta is the end if there are fewer than k, and otherwise the last of the k
theta_to_cases : (end k : ℕ) (hashes : List ℕ) → ((count_of k hashes < k) × (theta_to end k hashes ≡ end)) ⊎ ((count_of k hashes ≡ k) × (theta_to end k hashes ≡ get_or (k_smallest k hashes) (k - 1) 0))
theta_to_cases end k hashes = by_test (ltb (count_of k hashes) k) (λ is. grind (arith, nat_tests)) (λ is. grind (arith, nat_tests, count_within k hashes))
  where
    by_test : (b : Bool) → (b ≡ true → count_of k hashes < k) → (b ≡ false → count_of k hashes ≡ k) → ((count_of k hashes < k) × (cond b end (get_or (k_smallest k hashes) (k - 1) 0) ≡ end)) ⊎ ((count_of k hashes ≡ k) × (cond b end (get_or (k_smallest k hashes) (k - 1) 0) ≡ get_or (k_smallest k hashes) (k - 1) 0))
    by_test true less full = inl (less refl, refl)
    by_test false less full = inr (full refl, refl)

theta_cases : (k : ℕ) (hashes : List ℕ) → ((count_of k hashes < k) × (theta_of k hashes ≡ item_end)) ⊎ ((count_of k hashes ≡ k) × (theta_of k hashes ≡ get_or (k_smallest k hashes) (k - 1) 0))
theta_cases k hashes = theta_to_cases item_end k hashes

-- the i + 1 smallest rise from b, so the last of them is at least b + i
last_at_least : (b end i : ℕ) (hashes : List ℕ) → RisesFrom b (k_smallest (suc i) hashes) → count_of (suc i) hashes ≡ suc i → b + i ≤ theta_to end (suc i) hashes
last_at_least b end i hashes up full =
    ⊎_elim (λ p. absurd (omega (arith, p.0)))
    (λ p. omega (arith, p.1, RisesFrom-at b (k_smallest (suc i) hashes) (suc i - 1) up (omega arith)))
    (theta_to_cases end (suc i) hashes)

pub theta_of_full : (end k : ℕ) (hashes : List ℕ) → count_of k hashes ≡ k → k - 1 ≤ theta_to end k hashes
theta_of_full end zero hashes full = omega arith
theta_of_full end (suc i) hashes full = omega (arith, last_at_least 0 end i hashes (RisesFrom-k_smallest (suc i) hashes) full)

-- items rise from 1, so the last of k is at least k
pub rise_from_1 : (xs : List ℕ) → RisesFrom 0 xs → AreItems xs → RisesFrom 1 xs
rise_from_1 [] up items = tt
rise_from_1 (x ∷ xs) up items = (omega (arith, items 0 0 (omega arith)), up.1)

pub theta_of_items : (k : ℕ) (hashes : List ℕ) → AreItems hashes → count_of k hashes ≡ k → k ≤ theta_of k hashes
theta_of_items zero hashes items full = omega arith
theta_of_items (suc i) hashes items full =
    let kept = k_smallest (suc i) hashes in
    omega (arith, last_at_least 1 item_end i hashes (rise_from_1 kept (RisesFrom-k_smallest (suc i) hashes) (k_smallest_are_items (suc i) hashes items)) full)

pub theta_within : (k : ℕ) (hashes : List ℕ) → AreItems hashes → theta_of k hashes ≤ item_end
theta_within k hashes items = ⊎_elim (λ p. omega (arith, p.1)) (λ p. rw (p.1) (last_within k p.0)) (theta_cases k hashes)
  where
    last_within : (k : ℕ) → count_of k hashes ≡ k → get_or (k_smallest k hashes) (k - 1) 0 ≤ item_end
    last_within zero e = omega (arith, nothing zero (k_smallest zero hashes) e)
      where
        nothing : (i : ℕ) (xs : List ℕ) → length xs ≡ 0 → get_or xs i 0 ≡ 0
        nothing i [] e = refl
        nothing i (x ∷ xs) e = absurd (omega arith)
    last_within (suc i) e = omega (arith, k_smallest_are_items (suc i) hashes items (suc i - 1) 0 (omega arith))

pub theta_to_positive : (end k : ℕ) (hashes : List ℕ) → 1 ≤ end → 2 ≤ k → 1 ≤ theta_to end k hashes
theta_to_positive end k hashes one two = ⊎_elim (λ p. omega (arith, p.1)) (λ p. omega (arith, theta_of_full end k hashes p.0)) (theta_to_cases end k hashes)

pub theta_positive : (k : ℕ) (hashes : List ℕ) → 2 ≤ k → 1 ≤ theta_of k hashes
theta_positive k hashes two = theta_to_positive item_end k hashes (omega arith) two

-- ---- items that can no longer change a sketch

below_last : (k h : ℕ) (xs : List ℕ) → RisesFrom 0 xs → length xs ≡ k → get_or xs (k - 1) 0 ≤ h → All (λ y. y ≤ h) xs
below_last zero h xs up e le = λ i d inside. absurd (omega arith)
below_last (suc i) h xs up e le = let same : suc i - 1 ≡ i = omega arith in all_to_last 0 h i xs up (sym e) (rw same at le)

idle_all : (k h : ℕ) (hashes : List ℕ) → IsItem h → IsIdle k h hashes → (count_of k hashes ≡ k) × All (λ y. y ≤ h) (k_smallest k hashes)
idle_all k h hashes small idle =
    ⊎_elim (λ p. absurd (omega (arith, p.1)))
    (λ p. (p.0, below_last k h (k_smallest k hashes) (RisesFrom-k_smallest k hashes) p.0 (omega (arith, p.1))))
    (theta_cases k hashes)

length_k_smallest : (k : ℕ) (hashes : List ℕ) → count_of k hashes ≡ min k (length (rising hashes))
unfolding k_smallest
length_k_smallest k hashes = length-take k (rising hashes)

stays_full : (k : ℕ) (hashes more : List ℕ) → count_of k hashes ≡ k → count_of k (hashes ++ more) ≡ k
stays_full k hashes more full =
    omega (arith, length_k_smallest k hashes, length_k_smallest k (hashes ++ more), length-all_placed (rising hashes) more, ap length (rising-append hashes more))

last_falls : (k : ℕ) (hashes more : List ℕ) → count_of k hashes ≡ k → get_or (k_smallest k (hashes ++ more)) (k - 1) 0 ≤ get_or (k_smallest k hashes) (k - 1) 0
unfolding k_smallest
last_falls zero hashes more full = omega arith
last_falls (suc i) hashes more full =
    let same : suc i - 1 ≡ i = omega arith in
    let inside : i < length (rising hashes) = omega (arith, length-take (suc i) (rising hashes)) in
    rw (same, get_or-take (suc i) (rising (hashes ++ more)) i 0 (omega arith), get_or-take (suc i) (rising hashes) i 0 (omega arith), rising-append hashes more)
    (all_placed-at_most (rising hashes) more i (RisesFrom-rising hashes) inside)

-- theta never rises
pub theta_falls : (k : ℕ) (hashes more : List ℕ) → AreItems (hashes ++ more) → theta_of k (hashes ++ more) ≤ theta_of k hashes
theta_falls k hashes more items =
    ⊎_elim (λ p. omega (arith, p.1, theta_within k (hashes ++ more) items))
    (λ p. ⊎_elim (λ q. absurd (omega (arith, q.0, stays_full k hashes more p.0))) (λ q. omega (arith, p.1, q.1, last_falls k hashes more p.0)) (theta_cases k (hashes ++ more)))
    (theta_cases k hashes)

pub idle_stays : (k h : ℕ) (hashes more : List ℕ) → IsItem h → IsIdle k h hashes → IsIdle k h (hashes ++ more)
idle_stays k h hashes more small idle =
    ⊎_elim (λ p. absurd (omega (arith, p.1)))
    (λ p. ⊎_elim (λ q. absurd (omega (arith, q.0, stays_full k hashes more p.0))) (λ q. omega (arith, p.1, q.1, last_falls k hashes more p.0)) (theta_cases k (hashes ++ more)))
    (theta_cases k hashes)

-- an idle item at the end of the list
pub idle_once : (k h : ℕ) (hashes : List ℕ) → IsItem h → IsIdle k h hashes → k_smallest k (hashes ++ h ∷ []) ≡ k_smallest k hashes
idle_once k h hashes small idle =
    let kept = k_smallest k hashes in
    let all = idle_all k h hashes small idle in
    one_more k h hashes ∙ ap (λ (n : ℕ). take n (placed h kept)) (sym (all.0)) ∙ placed-idle h kept (all.1)

pub idle_changes_nothing : (k h : ℕ) (hashes more rest : List ℕ) → IsItem h → IsIdle k h hashes → k_smallest k ((hashes ++ more) ++ h ∷ rest) ≡ k_smallest k ((hashes ++ more) ++ rest)
idle_changes_nothing k h hashes more rest small idle =
    let so_far = hashes ++ more in
    ap (λ (l : List ℕ). k_smallest k l) (sym (append_assoc so_far (h ∷ []) rest))
    ∙ a_batch_more k (so_far ++ h ∷ []) rest
    ∙ ap (λ (l : List ℕ). k_smallest k (l ++ rest)) (idle_once k h so_far small (idle_stays k h hashes more small idle))
    ∙ sym (a_batch_more k so_far rest)

-- ---- both numbers in a word

-- a full list's word is its theta, which is not below k
pub packed_reads_back : (k : ℕ) (hashes : List ℕ) → AreItems hashes → unpacked k (packed_of k hashes) ≡ (count_of k hashes, theta_of k hashes)
packed_reads_back k hashes items = ⊎_elim (λ p. grind (arith, nat_tests, p.0, p.1)) (λ p. grind (arith, nat_tests, p.0, theta_of_items k hashes items p.0)) (theta_cases k hashes)

pub packed_fits : (k : ℕ) (hashes : List ℕ) → k ≤ 2 ^ 63 → AreItems hashes → packed_of k hashes < 2 ^ 64
packed_fits k hashes most items = grind (arith, nat_tests, count_within k hashes, theta_within k hashes items)
