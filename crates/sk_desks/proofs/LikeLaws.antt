-- A line that begins with the name of a tenant and a space.
use Rattle.std.proofs.Common.{◌≡◌, ℕ, ◌+◌, ◌-◌, ◌<◌, ◌≤◌, ◌&&◌, nat_lt, true, is_some, List, length, get_or, take, drop, slice_range, Contains, Option, None, Some, IfSome, slice_get, refl, sym, ap, subst, ◌∙◌, arith, length-take, length-drop, eq-eqb}
use Rattle.std.specs.List.{position_or_len}
use Rattle.std.proofs.lemmas.Bool.{ne_eqb}
use Rattle.std.proofs.lemmas.List.{get_or-take, get_or-drop, take-take}
use Rattle.std.proofs.lemmas.List.Sums.{position_or_len_is}
use Rattle.std.proofs.lemmas.Option.{slice_get_within, get_or_from_slice_get}
use Rattle.sk_label.specs.Labels.{is_space, label_of, item_text_of, is_labelled}
use Rattle.sk_tenant.specs.Names.{HasNoSpace, place_of}
use Rattle.sk_tenant.proofs.Places.{no_name}
use Rattle.sk_desks.specs.Entries.{IsLabelledBy}
use Rattle.sk_desks.specs.Gathers.{IsOfTenant}
use Rattle.sk_desks.proofs.ClerkLaws.{range_size}

-- the first space comes after this many bytes
first_space : (line : List ℕ) (label : ℕ) → label < length line → HasNoSpace (take label line) → get_or line label 0 ≡ 32 → position_or_len is_space line ≡ label
first_space line label within plain space = position_or_len_is is_space line label 0 (omega (arith, within))
    (λ k below. ne_eqb (get_or line k 0) 32 (λ is. plain k 0 (omega (arith, below, within, length-take label line)) (get_or-take label line k 0 below ∙ is)))
    (λ _. eq-eqb (get_or line label 0) 32 space)

is_some_of : (place : Option ℕ) → (place ≡ None → ⊥) → is_some place ≡ true
is_some_of (Some t) never = refl
is_some_of None never = absurd (never refl)

module _ (line : List ℕ) (label : ℕ) (some : 0 < label) (item : label + 1 < length line) (space : get_or line label 0 ≡ 32) (plain : HasNoSpace (take label line)) where
  place : position_or_len is_space line ≡ label
  place = first_space line label (omega (arith, item)) plain space

  name_is : label_of line ≡ take label line
  name_is = ap (λ (n : ℕ). take n line) place

  text_is : item_text_of line ≡ drop (label + 1) line
  text_is = ap (λ (n : ℕ). drop (n + 1) line) place

  both : (a b : ℕ) → 0 < a → 0 < b → (nat_lt 0 a && nat_lt 0 b) ≡ true
  both a b first second = grind arith

  form : is_labelled line ≡ true
  form = both (length (label_of line)) (length (item_text_of line)) (omega (arith, some, item, ap length name_is, length-take label line)) (omega (arith, item, ap length text_is, length-drop (label + 1) line))

  of_line : (names : List (List ℕ)) → Contains names (take label line) → IsOfTenant names line
  of_line names known filled = (form, is_some_of (place_of names (label_of line)) (λ none. no_name names (label_of line) none (subst (Contains names) (sym name_is) known)))

  labelled : (names : List (List ℕ)) (t : ℕ) → slice_get names t ≡ Some (take label line) → IsLabelledBy names line t (label + 1)
  labelled names t is = record {
    within = omega (arith, item);
    none = λ end. absurd (omega (arith, item, end));
    form = λ _. form;
    label = λ _. is ∙ ap Some (sym name_is);
    text = λ _. sym text_is;
  }

-- the same of a line that lies in a text
module _ (names : List (List ℕ)) (text : List ℕ) (from to label : ℕ) (order : from ≤ to) (within : to ≤ length text) (some : 0 < label) (item : from + label + 1 < to) (space : get_or text (from + label) 0 ≡ 32) where
  abbrev name : List ℕ
  name = slice_range text from (from + label)

  abbrev line : List ℕ
  line = slice_range text from to

  inside : label + 1 < length line
  inside = omega (arith, item, range_size text from to order within)

  same_name : name ≡ take label line
  same_name = ap (λ (n : ℕ). take n (drop from text)) (omega arith) ∙ sym (take-take label (to - from) (drop from text) (omega (arith, item)))

  space_at : get_or line label 0 ≡ 32
  space_at = get_or-take (to - from) (drop from text) label 0 (omega (arith, item)) ∙ get_or-drop from text label 0 ∙ space

  pub of_tenant : Contains names name → HasNoSpace name → IsOfTenant names line
  of_tenant known plain = of_line line label some inside space_at (subst HasNoSpace same_name plain) names (subst (Contains names) same_name known)

  its_tenant : (t : ℕ) → slice_get names t ≡ Some name → Contains names name
  its_tenant t is = (t, slice_get_within names t name is, get_or_from_slice_get names t name name is)

  pub tenant_fine : (found : Option ℕ) → IfSome found (λ t. slice_get names t ≡ Some name) → IfSome found (λ _. HasNoSpace name) → IfSome found (λ _. IsOfTenant names line)
  tenant_fine (Some t) is plain = of_tenant (its_tenant t is) plain
  tenant_fine None is plain = tt

  pub tenant_labelled : (found : Option ℕ) → IfSome found (λ t. slice_get names t ≡ Some name) → IfSome found (λ _. HasNoSpace name) → IfSome found (λ t. IsLabelledBy names line t (label + 1))
  tenant_labelled (Some t) is plain = labelled line label some inside space_at (subst HasNoSpace same_name plain) names t (is ∙ ap Some same_name)
  tenant_labelled None is plain = tt

-- what a finder of these names found, of a name of this many bytes
module _ (names names' : List (List ℕ)) (text : List ℕ) (from len label : ℕ) (place : Option ℕ) (same : names' ≡ names) (long : len ≡ label) where
  pub its_found : IfSome place (λ t. slice_get names' t ≡ Some (slice_range text from (from + len))) → IfSome place (λ t. slice_get names t ≡ Some (slice_range text from (from + label)))
  its_found found =
      subst (λ (ns : List (List ℕ)). IfSome place (λ t. slice_get ns t ≡ Some (slice_range text from (from + label)))) same
      (subst (λ (n : ℕ). IfSome place (λ t. slice_get names' t ≡ Some (slice_range text from (from + n)))) long found)

  pub its_plain : IfSome place (λ _. HasNoSpace (slice_range text from (from + len))) → IfSome place (λ _. HasNoSpace (slice_range text from (from + label)))
  its_plain plain = subst (λ (n : ℕ). IfSome place (λ _. HasNoSpace (slice_range text from (from + n)))) long plain
