-- The lines of images: what they are made of, and that no two images share them.
use Rattle.std.proofs.Common.{◌≡◌, ◌≢◌, ℕ, ◌+◌, ◌%◌, ◌^◌, ◌<◌, ◌≤◌, true, not, eqb, ◌⊎◌, inl, inr, List, [], ◌∷◌, ◌++◌, length, map, take, get_or, codes, decimal, All, refl, sym, ap, ◌∙◌, subst, arith, append_assoc, append-nil, length-append}
use Rattle.std.proofs.lemmas.Bool.{and_parts, not-true, eqb-false}
use Rattle.std.specs.List.{list_all}
use Rattle.std.proofs.lemmas.Fmt.{decimal_by_steps, decimal_digit, decimal_injective, length-decimal-le}
use Rattle.std.proofs.lemmas.List.Elements.{All-nil, All-cons, All-head, All-tail, All-same, All-append, All-push, All-weaker, All-take}
use Rattle.std.proofs.lemmas.List.{append_cancel_left, take_at, get_or_append_left, length-map}
use Rattle.std.specs.List.Sorted.{IsStrictlyIncreasing}
use Rattle.sk_lines.specs.Cutter.{HasNoLf}
use Rattle.sk_image.specs.Images.{IsImage, first_line, hash_text, last_line, lines_of_image}
use Rattle.sk_image.specs.Versions.{IsVersion, IsHash, AreHashes, digits_of, most_k_of}
use Rattle.sk_image.specs.Reading.{most_line, BeginAnImage}
use Rattle.sk_lines.proofs.Hexadecimal.{length_hex, hex_digits, hex_injective}
use Rattle.sk_image.proofs.Splits.{heads, tails, conses, no_cons, no_cons_behind, cut}
use Rattle.sk_image.proofs.Versions.{few_digits, most_k_within, digits_suffice}

pub hash_is_not_last : (version hash count : ℕ) → hash_text version hash ≡ last_line count → ⊥
unfolding last_line
hash_is_not_last version hash count e =
    let P : ℕ → Type 0 = λ byte. (48 ≤ byte) × (byte ≤ 102) in
    let all = All-same P (last_line count) (hash_text version hash) (sym e) (hex_digits (digits_of version) hash) in
    absurd (omega (arith, (All-head P 110 (100 ∷ 32 ∷ decimal count) (All-tail P 101 (110 ∷ 100 ∷ 32 ∷ decimal count) all)).1))

-- decimal digits
pub decimal_digits : (n : ℕ) → n < 2 ^ 64 → All (λ byte. (48 ≤ byte) × (byte ≤ 57)) (decimal n)
decimal_digits n small =
    let P : ℕ → Type 0 = λ byte. (48 ≤ byte) × (byte ≤ 57) in
    decimal_by_steps (λ n ds. All P ds) (λ n low. All-cons P (48 + n) [] (omega arith, omega (arith, low)) (All-nil P))
    (λ n ds most all. All-push P ds (48 + n % 10) all (omega arith, omega arith)) n small

pub no_blank_in_decimal : (n : ℕ) → n < 2 ^ 64 → All (λ byte. byte ≢ 32) (decimal n)
no_blank_in_decimal n small = All-weaker (λ byte. (48 ≤ byte) × (byte ≤ 57)) (λ byte. byte ≢ 32) (λ byte is. λ e. absurd (omega (arith, is.0, e))) (decimal n) (decimal_digits n small)

no_lf_in_decimal : (n : ℕ) → n < 2 ^ 64 → HasNoLf (decimal n)
no_lf_in_decimal n small = All-weaker (λ byte. (48 ≤ byte) × (byte ≤ 57)) (λ byte. byte ≢ 10) (λ byte is. λ e. absurd (omega (arith, is.0, e))) (decimal n) (decimal_digits n small)

-- the parts of a first line
pub first_parts : (version k seed : ℕ) → first_line version k seed ≡ codes "theta" ++ (decimal version ++ 32 ∷ (codes "k=" ++ (decimal k ++ 32 ∷ (codes "seed=" ++ decimal seed))))
unfolding first_line
first_parts version k seed =
    append_assoc (codes "theta" ++ decimal version ++ codes " k=" ++ decimal k) (codes " seed=") (decimal seed)
    ∙ append_assoc (codes "theta" ++ decimal version ++ codes " k=") (decimal k) (codes " seed=" ++ decimal seed)
    ∙ append_assoc (codes "theta" ++ decimal version) (codes " k=") (decimal k ++ (codes " seed=" ++ decimal seed))
    ∙ append_assoc (codes "theta") (decimal version) (codes " k=" ++ (decimal k ++ (codes " seed=" ++ decimal seed)))

pub first_injective : (version k seed version' k' seed' : ℕ) → version < 2 ^ 64 → k < 2 ^ 64 → seed < 2 ^ 64 → version' < 2 ^ 64 → k' < 2 ^ 64 → seed' < 2 ^ 64 →
    first_line version k seed ≡ first_line version' k' seed' → (version ≡ version') × (k ≡ k') × (seed ≡ seed')
first_injective version k seed version' k' seed' a b c a' b' c' e =
    let words : ℕ → ℕ → List ℕ = λ k seed. decimal k ++ 32 ∷ (codes "seed=" ++ decimal seed) in
    let whole = append_cancel_left (codes "theta") (decimal version ++ 32 ∷ (codes "k=" ++ words k seed)) (decimal version' ++ 32 ∷ (codes "k=" ++ words k' seed')) (sym (first_parts version k seed) ∙ e ∙ first_parts version' k' seed') in
    let versions = cut 32 (decimal version) (decimal version') (codes "k=" ++ words k seed) (codes "k=" ++ words k' seed') (no_blank_in_decimal version a) (no_blank_in_decimal version' a') whole in
    let rest = append_cancel_left (codes "k=") (words k seed) (words k' seed') versions.1 in
    let ks = cut 32 (decimal k) (decimal k') (codes "seed=" ++ decimal seed) (codes "seed=" ++ decimal seed') (no_blank_in_decimal k b) (no_blank_in_decimal k' b') rest in (
      decimal_injective version version' a a' versions.0,
      decimal_injective k k' b b' ks.0,
      decimal_injective seed seed' c c' (append_cancel_left (codes "seed=") (decimal seed) (decimal seed') ks.1),
    )

-- what is true of each line
pub record IsLine (line : List ℕ) : Type 0 where
  pub no_lf : HasNoLf line
  pub within : length line ≤ most_line

short : (n : ℕ) → n < 2 ^ 64 → length (decimal n) ≤ 20
short n small = length-decimal-le 20 n (omega arith) (omega (arith, small)) small

no_lf_by_test : (xs : List ℕ) → list_all (λ byte. not (eqb byte 10)) xs ≡ true → HasNoLf xs
no_lf_by_test [] e = All-nil (λ byte. byte ≢ 10)
no_lf_by_test (x ∷ xs) e =
    let parts = and_parts (not (eqb x 10)) (list_all (λ byte. not (eqb byte 10)) xs) e in
    All-cons (λ byte. byte ≢ 10) x xs (eqb-false x 10 (not-true (eqb x 10) parts.0)) (no_lf_by_test xs parts.1)

no_lf_append : (xs ys : List ℕ) → HasNoLf xs → HasNoLf ys → HasNoLf (xs ++ ys)
no_lf_append xs ys a b = All-append (λ byte. byte ≢ 10) xs ys a b

first_is_line : (version k seed : ℕ) → version < 10 → k < 2 ^ 64 → seed < 2 ^ 64 → IsLine (first_line version k seed)
unfolding first_line
first_is_line version k seed a b c = record {
  no_lf = no_lf_append (codes "theta" ++ decimal version ++ codes " k=" ++ decimal k ++ codes " seed=") (decimal seed)
      (no_lf_append (codes "theta" ++ decimal version ++ codes " k=" ++ decimal k) (codes " seed=")
      (no_lf_append (codes "theta" ++ decimal version ++ codes " k=") (decimal k)
      (no_lf_append (codes "theta" ++ decimal version) (codes " k=")
      (no_lf_append (codes "theta") (decimal version) (no_lf_by_test (codes "theta") refl) (no_lf_in_decimal version (omega (arith, a))))
      (no_lf_by_test (codes " k=") refl))
      (no_lf_in_decimal k b))
      (no_lf_by_test (codes " seed=") refl))
      (no_lf_in_decimal seed c);
  within = omega (
    arith,
    ap length (decimal_digit version a),
    short k b,
    short seed c,
    length-append (codes "theta" ++ decimal version ++ codes " k=" ++ decimal k ++ codes " seed=") (decimal seed),
    length-append (codes "theta" ++ decimal version ++ codes " k=" ++ decimal k) (codes " seed="),
    length-append (codes "theta" ++ decimal version ++ codes " k=") (decimal k),
    length-append (codes "theta" ++ decimal version) (codes " k="),
    length-append (codes "theta") (decimal version),
  );
}

last_is_line : (count : ℕ) → count < 2 ^ 64 → IsLine (last_line count)
unfolding last_line
last_is_line count small = record {
  no_lf = no_lf_append (codes "end ") (decimal count) (no_lf_by_test (codes "end ") refl) (no_lf_in_decimal count small);
  within = omega (arith, short count small, length-append (codes "end ") (decimal count));
}

hash_is_line : (version hash : ℕ) → IsLine (hash_text version hash)
hash_is_line version hash = record {
  no_lf = All-weaker (λ byte. (48 ≤ byte) × (byte ≤ 102)) (λ byte. byte ≢ 10) (λ byte is. λ e. absurd (omega (arith, is.0, e))) (hash_text version hash) (hex_digits (digits_of version) hash);
  within = omega (arith, few_digits version, length_hex (digits_of version) hash);
}

hashes_are_lines : (version : ℕ) (hashes : List ℕ) → All IsLine (map (hash_text version) hashes)
hashes_are_lines version [] = All-nil IsLine
hashes_are_lines version (h ∷ hashes) = All-cons IsLine (hash_text version h) (map (hash_text version) hashes) (hash_is_line version h) (hashes_are_lines version hashes)

pub image_has_lines : (version k seed : ℕ) (hashes : List ℕ) → IsImage version k seed hashes → All IsLine (lines_of_image version k seed hashes)
unfolding lines_of_image
image_has_lines version k seed hashes whole =
    All-cons IsLine (first_line version k seed) (map (hash_text version) hashes ++ last_line (length hashes) ∷ []) (first_is_line version k seed (omega (arith, whole.version_is.1)) (omega (arith, whole.most, most_k_within version)) (omega (arith, whole.seed_fits)))
    (All-push IsLine (map (hash_text version) hashes) (last_line (length hashes)) (hashes_are_lines version hashes) (last_is_line (length hashes) (omega (arith, whole.most, most_k_within version, whole.within))))

All-front : {X : Type 0} (P : X → Type 0) (xs ys : List X) → All P (xs ++ ys) → All P xs
All-front P xs ys all = All-same P xs (take (length xs) (xs ++ ys)) (sym (take_at xs ys (length xs) refl)) (All-take P (length xs) (xs ++ ys) all)

pub beginning_has_lines : (lines : List (List ℕ)) → BeginAnImage lines → All IsLine lines
beginning_has_lines lines b =
    All-front IsLine lines b.begins.0 (All-same IsLine (lines ++ b.begins.0) (lines_of_image b.version b.k b.seed b.hashes) (sym b.begins.1) (image_has_lines b.version b.k b.seed b.hashes b.whole))

pub without_lf : (lines : List (List ℕ)) → All IsLine lines → All HasNoLf lines
without_lf lines all = All-weaker IsLine HasNoLf (λ line is. is.no_lf) lines all

-- a prefix of an image's hashes makes an image
front_rises : (xs ys : List ℕ) → IsStrictlyIncreasing (xs ++ ys) → IsStrictlyIncreasing xs
front_rises xs ys rises = λ k below.
    let up : k + 1 < length (xs ++ ys) = omega (arith, below, length-append xs ys) in
    let here : get_or (xs ++ ys) k 0 ≡ get_or xs k 0 = get_or_append_left xs ys 0 k (omega (arith, below)) in
    let there : get_or (xs ++ ys) (k + 1) 0 ≡ get_or xs (k + 1) 0 = get_or_append_left xs ys 0 (k + 1) below in
    omega (arith, rises k up, here, there)

pub image_front : (version k seed : ℕ) (xs ys : List ℕ) → IsImage version k seed (xs ++ ys) → IsImage version k seed xs
image_front version k seed xs ys whole = record {
  version_is = whole.version_is;
  least = whole.least;
  most = whole.most;
  seed_fits = whole.seed_fits;
  rises = front_rises xs ys whole.rises;
  hashes_fit = All-front (λ hash. IsHash version hash) xs ys whole.hashes_fit;
  within = omega (arith, whole.within, length-append xs ys);
}

pub new_image : (version k seed : ℕ) → IsVersion version → 2 ≤ k → k ≤ most_k_of version → seed < 2 ^ 32 → IsImage version k seed []
new_image version k seed is least most fits = record {
  version_is = is;
  least = least;
  most = most;
  seed_fits = fits;
  rises = λ k below. absurd (omega (arith, below));
  hashes_fit = All-nil (λ hash. IsHash version hash);
  within = omega arith;
}

-- how the hashes of an image continue whose lines begin with these, and after them one more
OneMore : ℕ → List ℕ → List ℕ → ℕ → List ℕ → List (List ℕ) → Type 0
OneMore version hashes hashes' count line rest = ((hashes' ≡ hashes) × (line ≡ last_line count) × (rest ≡ [])) ⊎ ((h : ℕ) × (more : List ℕ) × (hashes' ≡ hashes ++ h ∷ more) × (line ≡ hash_text version h))

goes_on : (version : ℕ) (hashes hashes' : List ℕ) (count : ℕ) (line : List ℕ) (rest : List (List ℕ)) → AreHashes version hashes → AreHashes version hashes' →
    map (hash_text version) hashes' ++ last_line count ∷ [] ≡ map (hash_text version) hashes ++ line ∷ rest → OneMore version hashes hashes' count line rest
unfolding OneMore
goes_on version [] [] count line rest i i' e = inl (refl, sym (heads (last_line count) line [] rest e), sym (tails (last_line count) line [] rest e))
goes_on version [] (h ∷ hashes') count line rest i i' e =
    inr (h, hashes', refl, sym (heads (hash_text version h) line (map (hash_text version) hashes' ++ last_line count ∷ []) rest e))
goes_on version (h ∷ hashes) [] count line rest i i' e =
    absurd (hash_is_not_last version h count (sym (heads (last_line count) (hash_text version h) [] (map (hash_text version) hashes ++ line ∷ rest) e)))
goes_on version (h ∷ hashes) (h' ∷ hashes') count line rest i i' e =
    let P : ℕ → Type 0 = λ hash. IsHash version hash in
    let front = heads (hash_text version h') (hash_text version h) (map (hash_text version) hashes' ++ last_line count ∷ []) (map (hash_text version) hashes ++ line ∷ rest) e in
    let back = tails (hash_text version h') (hash_text version h) (map (hash_text version) hashes' ++ last_line count ∷ []) (map (hash_text version) hashes ++ line ∷ rest) e in
    let same : h' ≡ h =
    hex_injective (digits_of version) h' h (digits_suffice version h' (All-head P h' hashes' i')) (digits_suffice version h (All-head P h hashes i)) front in
    elim (goes_on version hashes hashes' count line rest (All-tail P h hashes i) (All-tail P h' hashes' i') back) [
      | inl is ↦ inl (conses h' h hashes' hashes same is.0, is.1, is.2)
      | inr is ↦ inr (is.0, is.1, conses h' h hashes' (hashes ++ is.0 ∷ is.1) same is.2, is.3)
    ]

-- an image with another's numbers is an image
pub renamed : (version k seed version' k' seed' : ℕ) (hashes : List ℕ) → version ≡ version' → k ≡ k' → seed ≡ seed' → IsImage version k seed hashes → IsImage version' k' seed' hashes
renamed version k seed version' k' seed' hashes same_version same_k same_seed whole =
    subst (λ (s : ℕ). IsImage version' k' s hashes) same_seed (subst (λ (n : ℕ). IsImage version' n seed hashes) same_k (subst (λ (v : ℕ). IsImage v k seed hashes) same_version whole))

-- an image whose lines begin with these has this version, this k and this seed, and its hashes continue so
module _ (version k seed : ℕ) (hashes : List ℕ) (line : List ℕ) (whole : IsImage version k seed hashes) where
  after_hashes : (rest : List (List ℕ)) (b : BeginAnImage ((first_line version k seed ∷ map (hash_text version) hashes) ++ line ∷ rest)) →
      (b.version ≡ version) × (b.k ≡ k) × (b.seed ≡ seed) × OneMore version hashes b.hashes (length b.hashes) line (rest ++ b.begins.0)
  unfolding lines_of_image
  after_hashes rest b =
      let own : List (List ℕ) = map (hash_text b.version) b.hashes ++ last_line (length b.hashes) ∷ [] in
      let asked : List (List ℕ) = (map (hash_text version) hashes ++ line ∷ rest) ++ b.begins.0 in
      let first : first_line b.version b.k b.seed ≡ first_line version k seed = heads (first_line b.version b.k b.seed) (first_line version k seed) own asked b.begins.1 in
      let numbers = first_injective b.version b.k b.seed version k seed
      (omega (arith, b.whole.version_is.1)) (omega (arith, b.whole.most, most_k_within b.version)) (omega (arith, b.whole.seed_fits))
      (omega (arith, whole.version_is.1)) (omega (arith, whole.most, most_k_within version)) (omega (arith, whole.seed_fits)) first in
      let all : map (hash_text version) b.hashes ++ last_line (length b.hashes) ∷ [] ≡ asked =
      subst (λ (v : ℕ). map (hash_text v) b.hashes ++ last_line (length b.hashes) ∷ [] ≡ asked) numbers.0 (tails (first_line b.version b.k b.seed) (first_line version k seed) own asked b.begins.1) in
      let fit : AreHashes version b.hashes = subst (λ (v : ℕ). AreHashes v b.hashes) numbers.0 b.whole.hashes_fit in (
        numbers.0,
        numbers.1,
        numbers.2,
        goes_on version hashes b.hashes (length b.hashes) line (rest ++ b.begins.0) whole.hashes_fit fit (all ∙ append_assoc (map (hash_text version) hashes) (line ∷ rest) b.begins.0),
      )

  -- a line that is neither the last one nor the next hash's begins no image
  pub bad_behind_hashes : (line ≡ last_line (length hashes) → ⊥) → ((h : ℕ) → line ≡ hash_text version h → IsImage version k seed (hashes ++ h ∷ []) → ⊥) →
      ¬ BeginAnImage ((first_line version k seed ∷ map (hash_text version) hashes) ++ line ∷ [])
  unfolding OneMore
  bad_behind_hashes not_last no_hash = λ b.
      let is = after_hashes [] b in
      elim is.3 [
        | inl last ↦ not_last (last.1 ∙ ap (λ (hs : List ℕ). last_line (length hs)) last.0)
        | inr next ↦
            no_hash next.0 next.3
            (image_front version k seed (hashes ++ next.0 ∷ []) next.1
            (subst (IsImage version k seed) (next.2 ∙ sym (append_assoc hashes (next.0 ∷ []) next.1)) (renamed b.version b.k b.seed version k seed b.hashes is.0 is.1 is.2 b.whole)))
      ]

module _ (version k seed : ℕ) (hashes : List ℕ) (whole : IsImage version k seed hashes) where
  -- nothing comes after all lines of an image
  pub bad_behind_whole : (line : List ℕ) → ¬ BeginAnImage (lines_of_image version k seed hashes ++ line ∷ [])
  unfolding lines_of_image OneMore
  bad_behind_whole line = λ b.
      let again : BeginAnImage ((first_line version k seed ∷ map (hash_text version) hashes) ++ last_line (length hashes) ∷ (line ∷ [])) =
      subst BeginAnImage (append_assoc (first_line version k seed ∷ map (hash_text version) hashes) (last_line (length hashes) ∷ []) (line ∷ [])) b in
      elim (after_hashes version k seed hashes (last_line (length hashes)) whole (line ∷ []) again).3 [
        | inl last ↦ no_cons line again.begins.0 last.2
        | inr next ↦ hash_is_not_last version next.0 (length hashes) (sym next.3)
      ]

  pub open_begins : BeginAnImage (first_line version k seed ∷ map (hash_text version) hashes)
  unfolding lines_of_image
  open_begins = record { version = version; k = k; seed = seed; hashes = hashes; whole = whole; begins = (last_line (length hashes) ∷ [], refl) }

  pub whole_begins : BeginAnImage (lines_of_image version k seed hashes)
  whole_begins = record { version = version; k = k; seed = seed; hashes = hashes; whole = whole; begins = ([], sym (append-nil (lines_of_image version k seed hashes))) }

pub nothing_begins : BeginAnImage []
unfolding most_k_of
nothing_begins = record {
  version = 2;
  k = 2;
  seed = 0;
  hashes = [];
  whole = new_image 2 2 0 (omega arith, omega arith) (omega arith) (omega arith) (omega arith);
  begins = (lines_of_image 2 2 0 [], refl);
}

-- a line that is no first one begins no image
pub bad_first : (line : List ℕ) → ((version k seed : ℕ) → IsVersion version → 2 ≤ k → k ≤ most_k_of version → seed < 2 ^ 32 → line ≡ first_line version k seed → ⊥) → ¬ BeginAnImage (line ∷ [])
unfolding lines_of_image
bad_first line none = λ b.
    none b.version b.k b.seed b.whole.version_is b.whole.least b.whole.most b.whole.seed_fits
    (sym (heads (first_line b.version b.k b.seed) line (map (hash_text b.version) b.hashes ++ last_line (length b.hashes) ∷ []) b.begins.0 b.begins.1))

hashes_are_no_last : (version version' : ℕ) (hashes hashes' : List ℕ) (count : ℕ) → map (hash_text version') hashes' ++ last_line count ∷ [] ≡ map (hash_text version) hashes → ⊥
hashes_are_no_last version version' [] hashes' count e = no_cons_behind (map (hash_text version') hashes') (last_line count) [] e
hashes_are_no_last version version' (h ∷ hashes) [] count e =
    hash_is_not_last version h count (sym (heads (last_line count) (hash_text version h) [] (map (hash_text version) hashes) e))
hashes_are_no_last version version' (h ∷ hashes) (h' ∷ hashes') count e =
    hashes_are_no_last version version' hashes hashes' count
    (tails (hash_text version' h') (hash_text version h) (map (hash_text version') hashes' ++ last_line count ∷ []) (map (hash_text version) hashes) e)

-- lines without the last one are no image's
pub open_is_not_whole : (version k seed version' k' seed' : ℕ) (hashes hashes' : List ℕ) → lines_of_image version' k' seed' hashes' ≡ first_line version k seed ∷ map (hash_text version) hashes → ⊥
unfolding lines_of_image
open_is_not_whole version k seed version' k' seed' hashes hashes' e =
    hashes_are_no_last version version' hashes hashes' (length hashes')
    (tails (first_line version' k' seed') (first_line version k seed) (map (hash_text version') hashes' ++ last_line (length hashes') ∷ []) (map (hash_text version) hashes) e)

pub nothing_is_not_whole : (version k seed : ℕ) (hashes : List ℕ) → lines_of_image version k seed hashes ≡ [] → ⊥
unfolding lines_of_image
nothing_is_not_whole version k seed hashes e = no_cons (first_line version k seed) (map (hash_text version) hashes ++ last_line (length hashes) ∷ []) e

-- images with the same lines are one
pub same_lines : (version version' k k' seed seed' : ℕ) (hashes hashes' : List ℕ) → IsImage version k seed hashes → IsImage version' k' seed' hashes' →
    lines_of_image version k seed hashes ≡ lines_of_image version' k' seed' hashes' → (version ≡ version') × (k ≡ k') × (seed ≡ seed') × (hashes ≡ hashes')
unfolding lines_of_image OneMore
same_lines version version' k k' seed seed' hashes hashes' whole whole' e =
    let b : BeginAnImage ((first_line version' k' seed' ∷ map (hash_text version') hashes') ++ last_line (length hashes') ∷ []) =
    record { version = version; k = k; seed = seed; hashes = hashes; whole = whole; begins = ([], e ∙ sym (append-nil (lines_of_image version' k' seed' hashes'))) } in
    let is = after_hashes version' k' seed' hashes' (last_line (length hashes')) whole' [] b in
    elim is.3 [
      | inl last ↦ (is.0, is.1, is.2, last.0)
      | inr next ↦ absurd (hash_is_not_last version' next.0 (length hashes') (sym next.3))
    ]

pub number_of_lines : (version k seed : ℕ) (hashes : List ℕ) → length (lines_of_image version k seed hashes) ≡ length hashes + 2
unfolding lines_of_image
number_of_lines version k seed hashes =
    omega (arith, length-append (map (hash_text version) hashes) (last_line (length hashes) ∷ []), length-map hashes (hash_text version))

pub with_last : (version k seed : ℕ) (hashes : List ℕ) → (first_line version k seed ∷ map (hash_text version) hashes) ++ last_line (length hashes) ∷ [] ≡ lines_of_image version k seed hashes
unfolding lines_of_image
with_last version k seed hashes = refl
