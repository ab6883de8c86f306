-- What a draft holds of the bytes that were taken.
use Rattle.std.proofs.Common.{◌≡◌, ◌≢◌, ℕ, zero, suc, ◌+◌, ◌-◌, ◌<◌, ◌≤◌, Option, None, Some, IfSome, List, [], ◌∷◌, ◌++◌, length, take, drop, get_or, sym, ap, ◌∙◌, subst, arith, append_assoc, append-nil, length-append, take-append-drop}
use Rattle.std.specs.Io.KnownBytes.{Consumes, IsAtEnd}
use Rattle.std.proofs.lemmas.List.{drop_more}
use Rattle.sk_image.specs.Images.{lines_of_image, joined}
use Rattle.sk_image.specs.Reading.{most_line, most_piece, BeginAnImage, IsBadAt, IsGoodSoFar, TakesInTime}
use Rattle.sk_image.specs.Inside.{Holds, HasTaken, IsBadFrom}
use Rattle.sk_image.specs.declared.part.Part.{Part}
use Rattle.sk_image.specs.declared.part.Part.TheVariants.{Nothing, Open, Whole}
use Rattle.sk_image.specs.declared.draft.Draft.{Draft}
use Rattle.sk_image.proofs.Grammar.{nothing_begins, open_begins, whole_begins}
use Rattle.sk_image.proofs.Joins.{joined_more}
use Rattle.sk_image.proofs.Texts.{bad_line, long_line, bad_end}

pub holds_begins : (part : Part) (lines : List (List ℕ)) → Holds part lines → BeginAnImage lines
holds_begins Nothing lines e = subst BeginAnImage (sym e) nothing_begins
holds_begins (Open image) lines e = subst BeginAnImage (sym e) (open_begins image.version image.k image.seed image.hashes.items image.whole)
holds_begins (Whole image) lines e = subst BeginAnImage (sym e) (whole_begins image.version image.k image.seed image.hashes.items image.whole)

pub good_so_far : (draft : Draft) (text : List ℕ) → HasTaken draft text → IsGoodSoFar text
good_so_far draft text has = record {
  lines = has.lines;
  piece = draft.line.items;
  split = has.split;
  before = holds_begins draft.part has.lines has.holds;
  no_lf = has.no_lf;
  within = has.within;
}

-- a line is whole
pub after_lf : (lines : List (List ℕ)) (line text : List ℕ) → text ≡ joined lines ++ line → text ++ 10 ∷ [] ≡ joined (lines ++ line ∷ []) ++ []
after_lf lines line text split =
    ap (λ (l : List ℕ). l ++ 10 ∷ []) split ∙ append_assoc (joined lines) line (10 ∷ []) ∙ sym (joined_more lines line) ∙ sym (append-nil (joined (lines ++ line ∷ [])))

module _ (draft : Draft) (text : List ℕ) (has : HasTaken draft text) (n : ℕ) (number : n ≡ length has.lines + 1) where
  pub bad_at_lf : ¬ BeginAnImage (has.lines ++ draft.line.items ∷ []) → IsBadFrom n (text ++ 10 ∷ [])
  bad_at_lf bad =
      subst (λ (m : ℕ). IsBadFrom m (text ++ 10 ∷ [])) (sym number)
      (bad_line has.lines draft.line.items text has.split (holds_begins draft.part has.lines has.holds) has.no_lf bad)

  pub bad_when_long : (byte : ℕ) → byte ≢ 10 → length draft.line.items ≡ most_line → IsBadFrom n (text ++ byte ∷ [])
  bad_when_long byte other full =
      subst (λ (m : ℕ). IsBadFrom m (text ++ byte ∷ [])) (sym number)
      (long_line has.lines draft.line.items text has.split (holds_begins draft.part has.lines has.holds) has.no_lf byte other full)

  pub bad_at_end : ((version k seed : ℕ) (hashes : List ℕ) → lines_of_image version k seed hashes ≡ has.lines → draft.line.items ≡ [] → ⊥) → IsBadAt n text
  bad_at_end not_whole =
      subst (λ (m : ℕ). IsBadAt m text) (sym number)
      (bad_end has.lines draft.line.items text has.split (holds_begins draft.part has.lines has.holds) has.no_lf not_whole)

pub parts_of_piece : (text bytes : List ℕ) (i : ℕ) → i < length bytes → ((text ++ take i bytes) ++ get_or bytes i 0 ∷ []) ++ drop (i + 1) bytes ≡ text ++ bytes
parts_of_piece text bytes i below =
    append_assoc (text ++ take i bytes) (get_or bytes i 0 ∷ []) (drop (i + 1) bytes) ∙ append_assoc text (take i bytes) (get_or bytes i 0 ∷ drop (i + 1) bytes)
    ∙ ap (λ (l : List ℕ). text ++ (take i bytes ++ l)) (sym (drop_more bytes i 0 below)) ∙ ap (λ (l : List ℕ). text ++ l) (take-append-drop i bytes)

-- what is known of a source's bytes after these were taken
pub all_told : (a b : Option (List ℕ)) (seen : List ℕ) → Consumes a b seen → IsAtEnd b → (P : List ℕ → Type 0) → P seen → IfSome a P
all_told None b seen taken over P holds = tt
all_told (Some x) None seen taken over P holds = absurd taken
all_told (Some x) (Some y) seen taken over P holds = subst P (sym (taken ∙ ap (λ (l : List ℕ). seen ++ l) over ∙ append-nil seen)) holds

pub bad_told : (n : ℕ) (a b : Option (List ℕ)) (seen : List ℕ) → Consumes a b seen → IsBadFrom n seen → IfSome a (λ text. IsBadAt n text)
bad_told n None b seen taken bad = tt
bad_told n (Some x) None seen taken bad = absurd taken
bad_told n (Some x) (Some y) seen taken bad = subst (IsBadAt n) (sym taken) (bad.bad y)

take_behind : (seen rest : List ℕ) (n : ℕ) → length seen ≤ n → take n (seen ++ rest) ≡ seen ++ take (n - length seen) rest
take_behind [] rest n le = ap (λ (m : ℕ). take m rest) (let e : n ≡ n - 0 = omega arith in e)
take_behind (x ∷ seen) rest zero le = absurd (omega (arith, le))
take_behind (x ∷ seen) rest (suc n) le = ap (λ (l : List ℕ). x ∷ l) (take_behind seen rest n (omega (arith, le)) ∙ ap (λ (m : ℕ). seen ++ take m rest) (let e : n - length seen ≡ suc n - suc (length seen) = omega arith in e))

pub bad_in_time : (n most : ℕ) (a b : Option (List ℕ)) (seen : List ℕ) → Consumes a b seen → length seen ≤ most → IsBadFrom n seen → IfSome a (λ text. most ≤ length text → ¬ IsGoodSoFar (take most text))
bad_in_time n most None b seen taken few bad = tt
bad_in_time n most (Some x) None seen taken few bad = absurd taken
bad_in_time n most (Some x) (Some y) seen taken few bad = λ enough good.
    bad.not_good (take (most - length seen) y) (subst IsGoodSoFar (ap (take most) taken ∙ take_behind seen y most few) good)

pub took : (a b : Option (List ℕ)) (draft : Draft) (front piece : List ℕ) (most : ℕ) → HasTaken draft front → Consumes a b (front ++ piece) →
    length piece ≤ most_piece → length (front ++ piece) ≤ most → TakesInTime a b most
took a b draft front piece most has taken short within = record {
  front = front;
  piece = piece;
  taken = taken;
  good = good_so_far draft front has;
  short = short;
  within = within;
}

pub took_front : (a b : Option (List ℕ)) (draft : Draft) (front : List ℕ) (most : ℕ) → HasTaken draft front → Consumes a b front → length front ≤ most → TakesInTime a b most
took_front a b draft front most has taken within =
    took a b draft front [] most has (subst (Consumes a b) (sym (append-nil front)) taken) (omega arith) (omega (arith, within, length-append front []))
