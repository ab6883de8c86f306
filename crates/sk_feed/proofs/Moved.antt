-- Elements that are moved, one at a time, from the end of one list to the end of another.
use Rattle.std.proofs.Common.{◌≡◌, List, [], ◌∷◌, ◌++◌, map, reverse, ap, sym, refl, ◌∙◌, append_assoc, append-nil}
use Rattle.std.proofs.lemmas.List.{reverse-append, map-append}

pub map_reverse : {A B : Type 0} (f : B → A) (ys : List B) → map f (reverse ys) ≡ reverse (map f ys)
map_reverse f [] = refl
map_reverse f (y ∷ ys) =
    ap (map f) (reverse-append (y ∷ []) ys)
    ∙ map-append f (reverse ys) (y ∷ [])
    ∙ ap (λ l. l ++ f y ∷ []) (map_reverse f ys)
    ∙ sym (reverse-append (f y ∷ []) (map f ys))

-- the last of one goes to the end of the other
pub moved_one : {A : Type 0} (xs ys zs : List A) (x : A) → zs ≡ ys ++ x ∷ [] → (xs ++ x ∷ []) ++ reverse ys ≡ xs ++ reverse zs
moved_one xs ys zs x last = append_assoc xs (x ∷ []) (reverse ys) ∙ ap (λ l. xs ++ l) (sym (ap (λ l. reverse l) last ∙ reverse-append ys (x ∷ [])))

-- the first list was turned, and none is left of it
pub moved_all : {A : Type 0} (xs ys : List A) → ys ≡ [] → xs ++ reverse ys ≡ xs
moved_all xs ys none = ap (λ l. xs ++ reverse l) none ∙ append-nil xs
