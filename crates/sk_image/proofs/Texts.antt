-- Texts of images, and texts that are none.
use Rattle.std.proofs.Common.{◌≡◌, ◌≢◌, ℕ, ◌+◌, ◌≤◌, ◌⊎◌, inl, inr, List, [], ◌∷◌, ◌++◌, length, map, All, refl, sym, ap, ◌∙◌, subst, arith, append_assoc, append-nil, length-append}
use Rattle.std.proofs.lemmas.List.Elements.{All-nil, All-head, All-tail, All-push}
use Rattle.std.proofs.lemmas.List.{length-map}
use Rattle.sk_lines.specs.Cutter.{HasNoLf}
use Rattle.sk_image.specs.Images.{IsImage, first_line, hash_text, lines_of_image, joined, text_of}
use Rattle.sk_image.specs.Reading.{most_line, BeginAnImage, IsBadAt, IsGoodSoFar}
use Rattle.sk_image.specs.Inside.{IsBadFrom}
use Rattle.sk_image.proofs.Splits.{conses, no_cons_behind, lines_split, joined_first, joined_none, cut, no_cut, cut_late}
use Rattle.sk_image.proofs.Grammar.{IsLine, beginning_has_lines, without_lf, open_begins, whole_begins, open_is_not_whole, same_lines}

no_lf_in_none : HasNoLf []
no_lf_in_none = All-nil (λ byte. byte ≢ 10)

-- lines that a text begins with are among its lines, if it is one of lines and a piece
front_of : (xs ys : List (List ℕ)) (r p : List ℕ) → BeginAnImage xs → BeginAnImage ys → HasNoLf p → joined xs ++ r ≡ joined ys ++ p → (zs : List (List ℕ)) × (ys ≡ xs ++ zs) × (r ≡ joined zs ++ p)
front_of xs ys r p bx by np e =
    lines_split xs ys r p (without_lf xs (beginning_has_lines xs bx)) (without_lf ys (beginning_has_lines ys by)) np e

none_joined : (zs : List (List ℕ)) → joined zs ++ [] ≡ [] → zs ≡ []
none_joined [] e = refl
none_joined (z ∷ zs) e = absurd (no_cons_behind z 10 (joined zs ++ []) (sym (joined_first z zs []) ∙ e))

pub same_text : (version version' k k' seed seed' : ℕ) (hashes hashes' : List ℕ) → IsImage version k seed hashes → IsImage version' k' seed' hashes' → text_of version k seed hashes ≡ text_of version' k' seed' hashes' →
    (version ≡ version') × (k ≡ k') × (seed ≡ seed') × (hashes ≡ hashes')
same_text version version' k k' seed seed' hashes hashes' whole whole' e =
    let xs = lines_of_image version k seed hashes in
    let ys = lines_of_image version' k' seed' hashes' in
    let split = front_of xs ys [] [] (whole_begins version k seed hashes whole) (whole_begins version' k' seed' hashes' whole') no_lf_in_none (append-nil (joined xs) ∙ e ∙ sym (append-nil (joined ys))) in
    same_lines version version' k k' seed seed' hashes hashes' whole whole' (sym (split.1 ∙ ap (λ (zs : List (List ℕ)). xs ++ zs) (none_joined split.0 (sym split.2)) ∙ append-nil xs))

none_joined_with : (p : List ℕ) → joined [] ++ p ≡ p
none_joined_with p = ap (λ (l : List ℕ). l ++ p) joined_none

begins_less : (xs ys : List (List ℕ)) → BeginAnImage (xs ++ ys) → BeginAnImage xs
begins_less xs ys b = record {
  version = b.version;
  k = b.k;
  seed = b.seed;
  hashes = b.hashes;
  whole = b.whole;
  begins = (ys ++ b.begins.0, b.begins.1 ∙ append_assoc xs ys b.begins.0);
}

last_of : {X : Type 0} (P : X → Type 0) (xs : List X) (x : X) (ys : List X) → All P (xs ++ x ∷ ys) → P x
last_of P [] x ys all = All-head P x ys all
last_of P (y ∷ xs) x ys all = last_of P xs x ys (All-tail P y (xs ++ x ∷ ys) all)

-- the last of lines that begin an image
last_line_is : (lines : List (List ℕ)) (line : List ℕ) → BeginAnImage (lines ++ line ∷ []) → IsLine line
last_line_is lines line b = last_of IsLine lines line [] (beginning_has_lines (lines ++ line ∷ []) b)

-- with no next line of the rest do these lines begin an image
Ends : List (List ℕ) → List ℕ → Type 0
Ends lines rest = (line more : List ℕ) → rest ≡ line ++ 10 ∷ more → ¬ BeginAnImage (lines ++ line ∷ [])

-- lines that continue end there or continue by a next line of the rest
module _ (lines : List (List ℕ)) (rest : List ℕ) (ends : Ends lines rest) where
  goes_no_further : (zs : List (List ℕ)) (p : List ℕ) → BeginAnImage (lines ++ zs) → rest ≡ joined zs ++ p → (zs ≡ []) × (rest ≡ p)
  unfolding Ends
  goes_no_further [] p b is = (refl, is ∙ none_joined_with p)
  goes_no_further (z ∷ zs) p b is =
      absurd (ends z (joined zs ++ p) (is ∙ joined_first z zs p) (begins_less (lines ++ z ∷ []) zs (subst BeginAnImage (sym (append_assoc lines (z ∷ []) zs)) b)))

  module _ (text : List ℕ) (split : text ≡ joined lines ++ rest) (before : BeginAnImage lines) where
    is_bad : ((version k seed : ℕ) (hashes : List ℕ) → lines_of_image version k seed hashes ≡ lines → rest ≡ [] → ⊥) → IsBadAt (length lines + 1) text
    unfolding Ends
    is_bad not_whole = record {
      lines = lines;
      rest = rest;
      split = split;
      number = refl;
      before = before;
      next = ends;
      none = λ image.
          let all = lines_of_image image.version image.k image.seed image.hashes in
          let begins = whole_begins image.version image.k image.seed image.hashes image.whole in
          let parts = front_of lines all rest [] before begins no_lf_in_none (sym split ∙ image.is ∙ sym (append-nil (joined all))) in
          let no_more = goes_no_further parts.0 [] (subst BeginAnImage parts.1 begins) parts.2 in
          not_whole image.version image.k image.seed image.hashes (parts.1 ∙ ap (λ (zs : List (List ℕ)). lines ++ zs) no_more.0 ∙ append-nil lines) no_more.1;
    }

    is_not_good : ((piece : List ℕ) → HasNoLf piece → length piece ≤ most_line → rest ≡ piece → ⊥) → ¬ IsGoodSoFar text
    is_not_good no_piece = λ good.
        let parts = front_of lines good.lines rest good.piece before good.before good.no_lf (sym split ∙ good.split) in
        let no_more = goes_no_further parts.0 good.piece (subst BeginAnImage parts.1 good.before) parts.2 in
        no_piece good.piece good.no_lf good.within no_more.1

module _ (lines : List (List ℕ)) (line text : List ℕ) (split : text ≡ joined lines ++ line) (before : BeginAnImage lines) (no_lf : HasNoLf line) where
  with_rest : (more : List ℕ) → text ++ more ≡ joined lines ++ (line ++ more)
  with_rest more = ap (λ (l : List ℕ). l ++ more) split ∙ append_assoc (joined lines) line more

  -- a line that LF ends
  pub bad_line : ¬ BeginAnImage (lines ++ line ∷ []) → IsBadFrom (length lines + 1) (text ++ 10 ∷ [])
  unfolding Ends
  bad_line bad =
      let ends : (more : List ℕ) → Ends lines (line ++ 10 ∷ more) = λ more line' more' e b.
      let same = (cut 10 line line' more more' no_lf (last_line_is lines line' b).no_lf e).0 in
      bad (subst (λ (l : List ℕ). BeginAnImage (lines ++ l ∷ [])) (sym same) b) in
      let all : (more : List ℕ) → (text ++ 10 ∷ []) ++ more ≡ joined lines ++ (line ++ 10 ∷ more) = λ more.
      append_assoc text (10 ∷ []) more ∙ with_rest (10 ∷ more) in
      record {
        bad = λ more. is_bad lines (line ++ 10 ∷ more) (ends more) _ (all more) before (λ version k seed hashes whole none. no_cons_behind line 10 more none);
        not_good = λ more. is_not_good lines (line ++ 10 ∷ more) (ends more) _ (all more) before (λ piece none within e. no_cut 10 line more piece none e);
      }

  -- a line that is too long already
  pub long_line : (byte : ℕ) → byte ≢ 10 → length line ≡ most_line → IsBadFrom (length lines + 1) (text ++ byte ∷ [])
  unfolding Ends
  long_line byte other full =
      let long = line ++ byte ∷ [] in
      let none_in : HasNoLf long = All-push (λ c. c ≢ 10) line byte no_lf other in
      let size : length long ≡ most_line + 1 = omega (arith, full, length-append line (byte ∷ [])) in
      let ends : (more : List ℕ) → Ends lines (long ++ more) = λ more line' more' e b.
      absurd (omega (arith, size, cut_late 10 long more line' more' none_in e, (last_line_is lines line' b).within)) in
      let all : (more : List ℕ) → (text ++ byte ∷ []) ++ more ≡ joined lines ++ (long ++ more) = λ more.
      append_assoc text (byte ∷ []) more ∙ with_rest (byte ∷ more) ∙ ap (λ (l : List ℕ). joined lines ++ l) (sym (append_assoc line (byte ∷ []) more)) in
      record {
        bad = λ more. is_bad lines (long ++ more) (ends more) _ (all more) before
            (λ version k seed hashes whole none. absurd (omega (arith, size, ap length none, length-append long more)));
        not_good = λ more. is_not_good lines (long ++ more) (ends more) _ (all more) before
            (λ piece none within e. absurd (omega (arith, size, within, ap length e, length-append long more)));
      }

  -- the end of a text that is not whole
  pub bad_end : ((version k seed : ℕ) (hashes : List ℕ) → lines_of_image version k seed hashes ≡ lines → line ≡ [] → ⊥) → IsBadAt (length lines + 1) text
  unfolding Ends
  bad_end not_whole = is_bad lines line (λ line' more e b. no_cut 10 line' more line no_lf (sym e)) text split before not_whole

pub bad_more : (n : ℕ) (text more : List ℕ) → IsBadFrom n text → IsBadFrom n (text ++ more)
bad_more n text more b = record {
  bad = λ rest. subst (IsBadAt n) (sym (append_assoc text more rest)) (b.bad (more ++ rest));
  not_good = λ rest. subst (λ (t : List ℕ). ¬ IsGoodSoFar t) (sym (append_assoc text more rest)) (b.not_good (more ++ rest));
}

-- of two lists of lines that one text begins with, one continues the other
Nested : List (List ℕ) → List (List ℕ) → List ℕ → List ℕ → Type 0
Nested xs ys r p = ((zs : List (List ℕ)) × (ys ≡ xs ++ zs) × (r ≡ joined zs ++ p)) ⊎ ((zs : List (List ℕ)) × (xs ≡ ys ++ zs) × (p ≡ joined zs ++ r))

nested : (xs ys : List (List ℕ)) (r p : List ℕ) → All HasNoLf xs → All HasNoLf ys → joined xs ++ r ≡ joined ys ++ p → Nested xs ys r p
unfolding Nested
nested [] ys r p nx ny e = inl (ys, refl, sym (none_joined_with r) ∙ e)
nested (x ∷ xs) [] r p nx ny e = inr (x ∷ xs, refl, sym (none_joined_with p) ∙ sym e)
nested (x ∷ xs) (y ∷ ys) r p nx ny e =
    let here = cut 10 x y (joined xs ++ r) (joined ys ++ p) (All-head HasNoLf x xs nx) (All-head HasNoLf y ys ny) (sym (joined_first x xs r) ∙ e ∙ joined_first y ys p) in
    elim (nested xs ys r p (All-tail HasNoLf x xs nx) (All-tail HasNoLf y ys ny) here.1) [
      | inl more ↦ inl (more.0, conses y x ys (xs ++ more.0) (sym here.0) more.1, more.2)
      | inr more ↦ inr (more.0, conses x y xs (ys ++ more.0) here.0 more.1, more.2)
    ]

pub one_bad_line : (m n : ℕ) (text : List ℕ) → IsBadAt m text → IsBadAt n text → m ≡ n
unfolding Nested Ends
one_bad_line m n text a b =
    let nested_are = nested a.lines b.lines a.rest b.rest (without_lf a.lines (beginning_has_lines a.lines a.before)) (without_lf b.lines (beginning_has_lines b.lines b.before)) (sym a.split ∙ b.split) in
    elim nested_are [
      | inl more ↦
          let none = (goes_no_further a.lines a.rest a.next more.0 b.rest (subst BeginAnImage more.1 b.before) more.2).0 in
          omega (arith, a.number, b.number, ap length (more.1 ∙ ap (λ (zs : List (List ℕ)). a.lines ++ zs) none ∙ append-nil a.lines))
      | inr more ↦
          let none = (goes_no_further b.lines b.rest b.next more.0 a.rest (subst BeginAnImage more.1 a.before) more.2).0 in
          omega (arith, a.number, b.number, ap length (more.1 ∙ ap (λ (zs : List (List ℕ)). b.lines ++ zs) none ∙ append-nil b.lines))
    ]

-- the text of an image without its last line
pub without_last : (version k seed : ℕ) (hashes : List ℕ) → IsImage version k seed hashes → IsBadAt (length hashes + 2) (joined (first_line version k seed ∷ map (hash_text version) hashes))
without_last version k seed hashes whole =
    let lines = first_line version k seed ∷ map (hash_text version) hashes in
    let number : length lines + 1 ≡ length hashes + 2 = omega (arith, length-map hashes (hash_text version)) in
    subst (λ (n : ℕ). IsBadAt n (joined lines)) number
    (bad_end lines [] (joined lines) (sym (append-nil (joined lines))) (open_begins version k seed hashes whole) no_lf_in_none
    (λ version' k' seed' hashes' is none. open_is_not_whole version k seed version' k' seed' hashes hashes' is))
