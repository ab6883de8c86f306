-- Lists of slots, of which the first go after the others.
use Rattle.std.proofs.Common.{◌≡◌, ℕ, zero, suc, ◌+◌, List, [], ◌∷◌, ◌++◌, length, refl, sym, ap, ◌∙◌, append_assoc, append-nil, add-one, arith}
use Rattle.atomic_table.specs.Table.{turned}
use Rattle.sk_gate.specs.Hands.{rotated}

abbrev first_or : {S : Type 0} → S → List (ℕ × S) → S
first_or x [] = x
first_or x (y ∷ ys) = y.1

module _ {S : Type 0} where
  pub same_slot : {i j : ℕ} {x y : S} {xs ys : List (ℕ × S)} → (i, x) ∷ xs ≡ (j, y) ∷ ys → x ≡ y
  same_slot {x = x} e = ap (first_or x) e

  pub rotated_none : (hand : List (ℕ × S)) → rotated 0 hand ≡ hand
  unfolding rotated
  rotated_none hand = refl

  rotated_more : (times : ℕ) (hand : List (ℕ × S)) → rotated (suc times) hand ≡ turned (rotated times hand)
  unfolding rotated
  rotated_more times hand = refl

  pub rotated_again : (times : ℕ) (hand : List (ℕ × S)) → rotated (times + 1) hand ≡ turned (rotated times hand)
  rotated_again times hand = rw add-one (rotated_more times hand)

  rotated_first : (times : ℕ) (hand : List (ℕ × S)) → rotated (suc times) hand ≡ rotated times (turned hand)
  unfolding rotated
  rotated_first zero hand = refl
  rotated_first (suc times) hand = ap turned (rotated_first times hand)

  -- the first slots stand after the others
  pub rotated_front : (xs ys : List (ℕ × S)) → rotated (length xs) (xs ++ ys) ≡ ys ++ xs
  unfolding rotated
  rotated_front [] ys = sym (append-nil ys)
  rotated_front (x ∷ xs) ys = rotated_first (length xs) (x ∷ (xs ++ ys)) ∙ ap (rotated (length xs)) (append_assoc xs ys (x ∷ [])) ∙ rotated_front xs (ys ++ x ∷ []) ∙ append_assoc ys (x ∷ []) xs

  -- a slot with these before and after it is first, once those before it have gone to the end
  pub placed_first : (before : ℕ) (hand front : List (ℕ × S)) (slot : ℕ) (x : S) (back : List (ℕ × S)) → hand ≡ front ++ (slot, x) ∷ back → length front ≡ before → rotated before hand ≡ (slot, x) ∷ (back ++ front)
  placed_first before hand front slot x back is long = ap (λ n. rotated n hand) (sym long) ∙ ap (rotated (length front)) is ∙ rotated_front front ((slot, x) ∷ back)

  -- and is where it was, once it and those after it have gone too
  pub placed_again : (after : ℕ) (hand front : List (ℕ × S)) (slot : ℕ) (x : S) (back : List (ℕ × S)) → hand ≡ (slot, x) ∷ (back ++ front) → length back ≡ after → rotated (after + 1) hand ≡ front ++ (slot, x) ∷ back
  placed_again after hand front slot x back is long =
      let size : after + 1 ≡ length ((slot, x) ∷ back) = omega arith in
      ap (λ n. rotated n hand) size ∙ ap (rotated (length ((slot, x) ∷ back))) is ∙ rotated_front ((slot, x) ∷ back) front
