-- The text of lines.
use Rattle.std.proofs.Common.{◌≡◌, ℕ, ◌+◌, ◌<◌, List, [], ◌∷◌, ◌++◌, length, map, take, get_or, codes, ap, ◌∙◌, append-nil}
use Rattle.std.proofs.lemmas.Grind.{flat_map-append}
use Rattle.std.proofs.lemmas.List.{take_more, map-append}
use Rattle.sk_image.specs.Images.{first_line, hash_text, last_line, lines_of_image, joined, text_of}

pub joined_append : (xs ys : List (List ℕ)) → joined (xs ++ ys) ≡ joined xs ++ joined ys
unfolding joined
joined_append xs ys = flat_map-append (λ (line : List ℕ). line ++ codes "\n") xs ys

pub joined_one : (line : List ℕ) → joined (line ∷ []) ≡ line ++ codes "\n"
unfolding joined
joined_one line = append-nil (line ++ codes "\n")

pub joined_more : (lines : List (List ℕ)) (line : List ℕ) → joined (lines ++ line ∷ []) ≡ joined lines ++ (line ++ codes "\n")
joined_more lines line = joined_append lines (line ∷ []) ∙ ap (λ (l : List ℕ). joined lines ++ l) (joined_one line)

-- the lines before one hash more, and it
pub hashes_more : (version : ℕ) (first : List ℕ) (hashes : List ℕ) (i : ℕ) → i < length hashes →
    joined (first ∷ map (hash_text version) (take (i + 1) hashes)) ≡ joined (first ∷ map (hash_text version) (take i hashes)) ++ (hash_text version (get_or hashes i 0) ++ codes "\n")
hashes_more version first hashes i below =
    ap (λ (hs : List ℕ). joined (first ∷ map (hash_text version) hs)) (take_more hashes i 0 below)
    ∙ ap (λ (ls : List (List ℕ)). joined (first ∷ ls)) (map-append (hash_text version) (take i hashes) (get_or hashes i 0 ∷ []))
    ∙ joined_more (first ∷ map (hash_text version) (take i hashes)) (hash_text version (get_or hashes i 0))

pub text_is : (version k seed : ℕ) (hashes : List ℕ) → text_of version k seed hashes ≡ joined (first_line version k seed ∷ map (hash_text version) hashes) ++ (last_line (length hashes) ++ codes "\n")
unfolding lines_of_image
text_is version k seed hashes = joined_more (first_line version k seed ∷ map (hash_text version) hashes) (last_line (length hashes))
