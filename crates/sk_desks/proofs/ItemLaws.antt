-- The items of each tenant among lines.
use Rattle.std.proofs.Common.{◌≡◌, ◌≢◌, ℕ, ◌+◌, ◌<◌, ◌≤◌, ◌&&◌, Bool, true, false, cond, List, [], ◌∷◌, ◌++◌, length, get_or, Option, None, Some, filter_map, refl, sym, ap, subst, arith}
use Rattle.std.specs.List.{Contains, cons_option}
use Rattle.std.specs.Str.{bytes_eq}
use Rattle.std.proofs.lemmas.Bool.{and_from, and_left, and_right, false_from_ne_true}
use Rattle.std.proofs.lemmas.List.Elements.{All-cons, All-nil, filter_map-append, Contains-get_or}
use Rattle.std.proofs.lemmas.Slice.Eq.{bytes_eq-Decides}
use Rattle.sk_model.specs.Murmur.{hash_of}
use Rattle.sk_model.specs.Width.{IsItem, AreItems}
use Rattle.sk_model.proofs.Murmur.{hash_of-item}
use Rattle.sk_label.specs.Labels.{label_of, item_text_of, is_labelled}
use Rattle.sk_desks.specs.Desks.{item_for, items_for}

pub items_for-append : (seed : ℕ) (name : List ℕ) (xs ys : List (List ℕ)) → items_for seed name (xs ++ ys) ≡ items_for seed name xs ++ items_for seed name ys
unfolding items_for
items_for-append seed name xs ys = filter_map-append (item_for seed name) xs ys

pub none_for : (seed : ℕ) (name : List ℕ) → items_for seed name [] ≡ []
unfolding items_for
none_for seed name = refl

-- at most one a line
few_more : (found : Option ℕ) (rest : List ℕ) (n : ℕ) → length rest ≤ n → length (cons_option found rest) ≤ n + 1
few_more None rest n few = omega arith
few_more (Some x) rest n few = omega arith

pub few_items : (seed : ℕ) (name : List ℕ) (lines : List (List ℕ)) → length (items_for seed name lines) ≤ length lines
unfolding items_for
few_items seed name [] = omega arith
few_items seed name (line ∷ lines) = omega (arith, few_more (item_for seed name line) (filter_map (item_for seed name) lines) (length lines) (few_items seed name lines))

-- they are items
item_more : (found : Option ℕ) (rest : List ℕ) → ((x : ℕ) → found ≡ Some x → IsItem x) → AreItems rest → AreItems (cons_option found rest)
item_more None rest is are = are
item_more (Some x) rest is are = All-cons IsItem x rest (is x refl) are

found_is : (b : Bool) (hash x : ℕ) → IsItem hash → cond b (Some hash) None ≡ Some x → IsItem x
found_is true hash x is same = subst IsItem (let h : hash ≡ x = cc in h) is
found_is false hash x is same = absurd (none_found x same)
  where
    none_found : (x : ℕ) → None ≡ Some x → ⊥
    none_found x same = cc

pub are_items : (seed : ℕ) (name : List ℕ) (lines : List (List ℕ)) → AreItems (items_for seed name lines)
unfolding items_for
are_items seed name [] = All-nil IsItem
are_items seed name (line ∷ lines) =
    item_more (item_for seed name line) (filter_map (item_for seed name) lines)
    (λ x same. found_is (is_labelled line && bytes_eq (label_of line) name) (hash_of seed (item_text_of line)) x (hash_of-item seed (item_text_of line)) same) (are_items seed name lines)

-- ---- one line

-- a line with the tenant's name
pub its_item : (seed : ℕ) (name line : List ℕ) → is_labelled line ≡ true → label_of line ≡ name → items_for seed name (line ∷ []) ≡ hash_of seed (item_text_of line) ∷ []
unfolding items_for
its_item seed name line labelled same =
    let hash = hash_of seed (item_text_of line) in
    ap (λ (b : Bool). cons_option (cond b (Some hash) None) []) (and_from (is_labelled line) (bytes_eq (label_of line) name) labelled ((bytes_eq-Decides (label_of line) name).1 same))

-- a line with another name
pub no_item_of_other : (seed : ℕ) (name line : List ℕ) → label_of line ≢ name → items_for seed name (line ∷ []) ≡ []
unfolding items_for
no_item_of_other seed name line other =
    let hash = hash_of seed (item_text_of line) in
    let apart : bytes_eq (label_of line) name ≡ false = false_from_ne_true (bytes_eq (label_of line) name) (λ same. other ((bytes_eq-Decides (label_of line) name).0 same)) in
    ap (λ (b : Bool). cons_option (cond b (Some hash) None) []) (and_right (is_labelled line) (bytes_eq (label_of line) name) apart)

-- a line without the form
pub no_item : (seed : ℕ) (name line : List ℕ) → is_labelled line ≡ false → items_for seed name (line ∷ []) ≡ []
unfolding items_for
no_item seed name line unlabelled =
    let hash = hash_of seed (item_text_of line) in
    ap (λ (b : Bool). cons_option (cond b (Some hash) None) []) (and_left (is_labelled line) (bytes_eq (label_of line) name) unlabelled)

-- a line whose name is none of these
pub no_item_of_unknown : (seed : ℕ) (names : List (List ℕ)) (line : List ℕ) (t : ℕ) → t < length names → (Contains names (label_of line) → ⊥) → items_for seed (get_or names t []) (line ∷ []) ≡ []
no_item_of_unknown seed names line t within unknown =
    no_item_of_other seed (get_or names t []) line (λ same. unknown (subst (Contains names) (sym same) (Contains-get_or names t [] within)))
