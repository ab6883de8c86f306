-- Lists that are cut at a byte.
use Rattle.std.proofs.Common.{◌≡◌, ◌≢◌, ℕ, ◌≤◌, List, [], ◌∷◌, ◌++◌, length, codes, All, refl, sym, ap, ◌∙◌, arith, append_assoc}
use Rattle.std.proofs.lemmas.List.Elements.{All-head, All-tail, All-same}
use Rattle.sk_lines.specs.Cutter.{HasNoLf}
use Rattle.sk_image.specs.Images.{joined}

module _ {A : Type 0} where
  pub heads : (x y : A) (xs ys : List A) → x ∷ xs ≡ y ∷ ys → x ≡ y
  heads x y xs ys e = cc

  pub tails : (x y : A) (xs ys : List A) → x ∷ xs ≡ y ∷ ys → xs ≡ ys
  tails x y xs ys e = cc

  pub conses : (x y : A) (xs ys : List A) → x ≡ y → xs ≡ ys → x ∷ xs ≡ y ∷ ys
  conses x y xs ys e f = cc

  pub no_cons : (x : A) (xs : List A) → x ∷ xs ≡ [] → ⊥
  no_cons x xs e = cc

  pub no_cons_behind : (ys : List A) (x : A) (xs : List A) → ys ++ x ∷ xs ≡ [] → ⊥
  no_cons_behind [] x xs e = cc
  no_cons_behind (y ∷ ys) x xs e = cc

  -- lists with one element more at their ends
  pub ends : (xs ys : List A) (x y : A) → xs ++ x ∷ [] ≡ ys ++ y ∷ [] → (xs ≡ ys) × (x ≡ y)
  ends [] [] x y e = (refl, heads x y [] [] e)
  ends [] (b ∷ ys) x y e = absurd (no_cons_behind ys y [] (sym (tails x b [] (ys ++ y ∷ []) e)))
  ends (a ∷ xs) [] x y e = absurd (no_cons_behind xs x [] (tails a y (xs ++ x ∷ []) [] e))
  ends (a ∷ xs) (b ∷ ys) x y e =
      let rest = ends xs ys x y (tails a b (xs ++ x ∷ []) (ys ++ y ∷ []) e) in
      (conses a b xs ys (heads a b (xs ++ x ∷ []) (ys ++ y ∷ []) e) rest.0, rest.1)

module _ (b : ℕ) where
  -- a list has one first b
  pub cut : (x y more more' : List ℕ) → All (λ c. c ≢ b) x → All (λ c. c ≢ b) y → x ++ b ∷ more ≡ y ++ b ∷ more' → (x ≡ y) × (more ≡ more')
  cut [] [] more more' nx ny e = (refl, tails b b more more' e)
  cut [] (c ∷ y) more more' nx ny e = absurd (All-head (λ c. c ≢ b) c y ny (sym (heads b c more (y ++ b ∷ more') e)))
  cut (c ∷ x) [] more more' nx ny e = absurd (All-head (λ c. c ≢ b) c x nx (heads c b (x ++ b ∷ more) more' e))
  cut (c ∷ x) (d ∷ y) more more' nx ny e =
      let rest = cut x y more more' (All-tail (λ c. c ≢ b) c x nx) (All-tail (λ c. c ≢ b) d y ny) (tails c d (x ++ b ∷ more) (y ++ b ∷ more') e) in
      (conses c d x y (heads c d (x ++ b ∷ more) (y ++ b ∷ more') e) rest.0, rest.1)

  pub has_one : (x more : List ℕ) → All (λ c. c ≢ b) (x ++ b ∷ more) → ⊥
  has_one [] more none = All-head (λ c. c ≢ b) b more none refl
  has_one (c ∷ x) more none = has_one x more (All-tail (λ c. c ≢ b) c (x ++ b ∷ more) none)

  pub no_cut : (x more p : List ℕ) → All (λ c. c ≢ b) p → x ++ b ∷ more ≡ p → ⊥
  no_cut x more p none e = has_one x more (All-same (λ c. c ≢ b) (x ++ b ∷ more) p e none)

  -- the first b stands after each prefix that has none
  pub cut_late : (x more y more' : List ℕ) → All (λ c. c ≢ b) x → x ++ more ≡ y ++ b ∷ more' → length x ≤ length y
  cut_late [] more y more' nx e = omega arith
  cut_late (c ∷ x) more [] more' nx e = absurd (All-head (λ c. c ≢ b) c x nx (heads c b (x ++ more) more' e))
  cut_late (c ∷ x) more (d ∷ y) more' nx e =
      omega (arith, cut_late x more y more' (All-tail (λ c. c ≢ b) c x nx) (tails c d (x ++ more) (y ++ b ∷ more') e))

pub joined_first : (x : List ℕ) (xs : List (List ℕ)) (r : List ℕ) → joined (x ∷ xs) ++ r ≡ x ++ 10 ∷ (joined xs ++ r)
unfolding joined
joined_first x xs r = append_assoc (x ++ codes "\n") (joined xs) r ∙ append_assoc x (codes "\n") (joined xs ++ r)

pub joined_none : joined [] ≡ []
unfolding joined
joined_none = refl

-- a text of lines has these lines and no others
pub lines_split : (xs ys : List (List ℕ)) (r p : List ℕ) → All HasNoLf xs → All HasNoLf ys → HasNoLf p → joined xs ++ r ≡ joined ys ++ p → (zs : List (List ℕ)) × (ys ≡ xs ++ zs) × (r ≡ joined zs ++ p)
lines_split [] ys r p nx ny np e = (ys, refl, ap (λ (l : List ℕ). l ++ r) (sym joined_none) ∙ e)
lines_split (x ∷ xs) [] r p nx ny np e =
    absurd (no_cut 10 x (joined xs ++ r) p np (sym (joined_first x xs r) ∙ e ∙ ap (λ (l : List ℕ). l ++ p) joined_none))
lines_split (x ∷ xs) (y ∷ ys) r p nx ny np e =
    let here = cut 10 x y (joined xs ++ r) (joined ys ++ p) (All-head HasNoLf x xs nx) (All-head HasNoLf y ys ny) (sym (joined_first x xs r) ∙ e ∙ joined_first y ys p) in
    let rest = lines_split xs ys r p (All-tail HasNoLf x xs nx) (All-tail HasNoLf y ys ny) np here.1 in
    (rest.0, conses y x ys (xs ++ rest.0) (sym here.0) rest.1, rest.2)
