-- How many of the last members of one list another lacks.
use Rattle.std.proofs.Common.{◌≡◌, ℕ, zero, suc, ◌+◌, ◌-◌, ◌≤◌, List, [], ◌∷◌, ◌++◌, length, take, drop, take-append-drop, refl, sym, ap, ◌∙◌, subst, arith, append_assoc, append-nil, length-append}
use Rattle.std.proofs.lemmas.List.{take-append-le}
use Rattle.sk_model.specs.Missing.{Begins, LacksAtMost}

pub begins_refl : {A : Type 0} (xs : List A) → Begins xs xs
begins_refl xs = ([], sym (append-nil xs))

pub begins_nil : {A : Type 0} (xs : List A) → Begins [] xs
begins_nil xs = (xs, refl)

pub begins_append : {A : Type 0} (xs ys : List A) → Begins xs (xs ++ ys)
begins_append xs ys = (ys, refl)

pub begins_more : {A : Type 0} (xs ys more : List A) → Begins xs ys → Begins xs (ys ++ more)
begins_more xs ys more b = (b.0 ++ more, ap (λ l. l ++ more) b.1 ∙ append_assoc xs b.0 more)

pub begins_trans : {A : Type 0} (xs ys zs : List A) → Begins xs ys → Begins ys zs → Begins xs zs
begins_trans xs ys zs b c = (b.0 ++ c.0, c.1 ∙ ap (λ l. l ++ c.0) b.1 ∙ append_assoc xs b.0 c.0)

pub begins_length : {A : Type 0} (xs ys : List A) → Begins xs ys → length xs ≤ length ys
begins_length xs ys b = let e = ap length b.1 in omega (arith, length-append xs b.0)

pub begins_front : {A : Type 0} (n : ℕ) (xs : List A) → Begins (take n xs) xs
begins_front n xs = (drop n xs, sym (take-append-drop n xs))

pub begins_take : {A : Type 0} (m n : ℕ) (xs more : List A) → m ≤ n → Begins (take m xs) (take n (xs ++ more))
begins_take zero n xs more le = (take n (xs ++ more), refl)
begins_take (suc m) n [] more le = (take n more, refl)
begins_take (suc m) zero (x ∷ xs) more le = absurd (omega arith)
begins_take (suc m) (suc n) (x ∷ xs) more le = let t = begins_take m n xs more (omega arith) in (t.0, ap (λ l. x ∷ l) t.1)

-- of two beginnings of one list, the shorter is a beginning of the longer
pub begins_shorter : {A : Type 0} (xs ys whole : List A) → Begins xs whole → Begins ys whole → length xs ≤ length ys → Begins xs ys
begins_shorter xs ys whole a b le = subst (Begins xs) (ap (take (length ys)) (sym a.1 ∙ b.1) ∙ front ys b.0) (longer (length ys) xs a.0 le)
  where
    longer : {A : Type 0} (n : ℕ) (xs rest : List A) → length xs ≤ n → Begins xs (take n (xs ++ rest))
    longer n [] rest le = (take n rest, refl)
    longer zero (x ∷ xs) rest le = absurd (omega arith)
    longer (suc n) (x ∷ xs) rest le = let t = longer n xs rest (omega arith) in (t.0, ap (λ l. x ∷ l) t.1)

    front : {A : Type 0} (ys rest : List A) → take (length ys) (ys ++ rest) ≡ ys
    front [] rest = refl
    front (y ∷ ys) rest = ap (λ l. y ∷ l) (front ys rest)

-- a beginning lacks no more than the whole does
pub lacks_begins : {A : Type 0} (xs ys zs : List A) (r : ℕ) → Begins xs ys → LacksAtMost ys zs r → LacksAtMost xs zs r
lacks_begins xs ys zs r b l =
    let e = ap length b.1 in
    begins_trans _ _ _
    (subst (λ w. Begins (take (length xs - r) xs) (take (length ys - r) w)) (sym b.1) (begins_take (length xs - r) (length ys - r) xs b.0 (omega (arith, length-append xs b.0)))) l

pub lacks_none : {A : Type 0} (xs ys : List A) (r : ℕ) → Begins xs ys → LacksAtMost xs ys r
lacks_none xs ys r b = begins_trans _ _ _ (begins_front (length xs - r) xs) b

-- ys and a few more
pub lacks_some : {A : Type 0} (xs ys more : List A) (r : ℕ) → xs ≡ ys ++ more → length more ≤ r → LacksAtMost xs ys r
lacks_some xs ys more r e few = subst (λ l. LacksAtMost l ys r) (sym e)
    (subst (λ l. Begins l ys) (sym (take-append-le (length (ys ++ more) - r) ys more (omega (arith, length-append ys more)))) (begins_front (length (ys ++ more) - r) ys))

pub missing_stays : {A : Type 0} (xs ys more : List A) (r : ℕ) → LacksAtMost xs ys r → LacksAtMost xs (ys ++ more) r
missing_stays xs ys more r l = begins_more _ ys more l

pub all_may_be_missing : {A : Type 0} (xs ys : List A) (r : ℕ) → length xs ≤ r → LacksAtMost xs ys r
all_may_be_missing xs ys r few = subst (λ n. Begins (take n xs) ys) (sym none) (ys, refl)
  where
    none : length xs - r ≡ 0
    none = omega arith

-- without their last s members, lists that begin one another do so still
begins_less : {A : Type 0} (xs ys : List A) (s : ℕ) → Begins xs ys → Begins (take (length xs - s) xs) (take (length ys - s) ys)
begins_less xs ys s b =
    let e = ap length b.1 in
    subst (λ w. Begins (take (length xs - s) xs) (take (length ys - s) w)) (sym b.1) (begins_take (length xs - s) (length ys - s) xs b.0 (omega (arith, length-append xs b.0)))

-- a prefix of a prefix
front_of_front : {A : Type 0} (n m : ℕ) (xs : List A) → n ≤ m → take n (take m xs) ≡ take n xs
front_of_front zero m xs le = refl
front_of_front (suc n) zero xs le = absurd (omega arith)
front_of_front (suc n) (suc m) [] le = refl
front_of_front (suc n) (suc m) (x ∷ xs) le = ap (λ l. x ∷ l) (front_of_front n m xs (omega arith))

front_length : {A : Type 0} (n : ℕ) (xs : List A) → n ≤ length xs → length (take n xs) ≡ n
front_length zero xs le = refl
front_length (suc n) [] le = absurd (omega arith)
front_length (suc n) (x ∷ xs) le = ap suc (front_length n xs (omega arith))

pub missing_adds_up : {A : Type 0} (xs ys zs : List A) (r s : ℕ) → LacksAtMost xs ys r → LacksAtMost ys zs s → LacksAtMost xs zs (r + s)
missing_adds_up xs ys zs r s first second =
    let p = take (length xs - r) xs in
    let size : length p ≡ length xs - r = front_length (length xs - r) xs (omega arith) in
    let shorter : Begins (take (length p - s) p) (take (length ys - s) ys) = begins_less p ys s first in
    let same : take (length xs - (r + s)) xs ≡ take (length p - s) p =
    sym (front_of_front (length xs - (r + s)) (length xs - r) xs (omega arith)) ∙ ap (λ n. take n p) (omega arith) in
    subst (λ l. Begins l zs) (sym same) (begins_trans _ _ _ shorter second)
