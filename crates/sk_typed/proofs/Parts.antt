-- Parts of texts, and bytes that are written one after another.
use Rattle.std.proofs.Common.{◌≡◌, ◌∙◌, ℕ, List, [], ◌++◌, Option, Some, None, ap, append-nil, sym, subst, take, drop}
use Rattle.std.specs.Io.KnownBytes.{Appends}
use Rattle.std.proofs.lemmas.List.{append_assoc, take-append-drop}
use Rattle.sk_typed.specs.Parts.{IsPartOf}

pub whole : (text : List ℕ) → IsPartOf text text
whole text = record { before = []; after = []; split = sym (append-nil text) }

pub front_of : (text part rest : List ℕ) → text ≡ part ++ rest → IsPartOf text part
front_of text part rest cut = record { before = []; after = rest; split = cut }

-- a part of a text is one of a longer text
behind : (front text part : List ℕ) → IsPartOf text part → IsPartOf (front ++ text) part
behind front text part inner = record {
  before = front ++ inner.before;
  after = inner.after;
  split = ap (λ l. front ++ l) inner.split ∙ sym (append_assoc front (inner.before ++ part) inner.after)
      ∙ ap (λ l. l ++ inner.after) (sym (append_assoc front inner.before part));
}

pub within : (text rest part : List ℕ) (from : ℕ) → rest ≡ drop from text → (front last : List ℕ) → rest ≡ front ++ last → IsPartOf last part → IsPartOf text part
within text rest part from left front last cut inner =
    subst (λ l. IsPartOf l part) (ap (λ l. take from text ++ l) left ∙ take-append-drop from text)
    (behind (take from text) rest part (subst (λ l. IsPartOf l part) (sym cut) (behind front last part inner)))

pub appends_both : (a b c : Option (List ℕ)) (xs ys : List ℕ) → Appends a b xs → Appends b c ys → Appends a c (xs ++ ys)
appends_both None b c xs ys one two = tt
appends_both (Some a) None c xs ys one two = absurd one
appends_both (Some a) (Some b) None xs ys one two = two
appends_both (Some a) (Some b) (Some c) xs ys one two = two ∙ ap (λ l. l ++ ys) one ∙ append_assoc a xs ys
