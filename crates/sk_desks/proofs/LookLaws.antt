-- The item of a line that lies in a text, and whose tenant is known.
use Rattle.std.proofs.Common.{◌≡◌, ⊎_elim, ℕ, ◌+◌, ◌<◌, ◌≤◌, List, [], ◌∷◌, length, slice_range, refl, ap, ◌∙◌, arith}
use Rattle.std.proofs.lemmas.Bool.{cases_lt}
use Rattle.std.proofs.lemmas.Option.{slice_get_within}
use Rattle.sk_model.specs.Murmur.{hash_of}
use Rattle.sk_label.specs.Labels.{label_of}
use Rattle.sk_tenant.specs.Desks.{DeskState}
use Rattle.sk_desks.specs.Entries.{IsLabelledBy}
use Rattle.sk_desks.specs.Feeds.{HasTenants, TakesItem, TakesLines}
use Rattle.sk_desks.proofs.ClerkLaws.{range_size, range_rest}
use Rattle.sk_desks.proofs.Taking.{takes_its_line}

-- after a label there is some
pub some_item : (names : List (List ℕ)) (text : List ℕ) (from to t label : ℕ) → from ≤ to → to ≤ length text → IsLabelledBy names (slice_range text from to) t (label + 1) → from + (label + 1) < to
some_item names text from to t label order within is = ⊎_elim
    (λ (some : from + (label + 1) < to). some)
    (λ (none : to ≤ from + (label + 1)).
    let size = range_size text from to order within in
    absurd (omega (arith, size, is.within, is.none (omega (arith, none, size, is.within, order)))))
    (cases_lt (from + (label + 1)) to)

module _ (seed : ℕ) (d : DeskState) (text : List ℕ) (from to t at item : ℕ) (order : from ≤ to) (within : to ≤ length text) (has : HasTenants d) (is : IsLabelledBy d.names (slice_range text from to) t at) (some : from + at < to) where
  abbrev line : List ℕ
  line = slice_range text from to

  inside : at < length line
  inside = omega (arith, some, range_size text from to order within)

  pub its_place : t < length d.updaters
  its_place = omega (arith, slice_get_within d.names t (label_of line) (is.label inside), has.tenants)

  -- a desk that took it took the line
  pub its_item : item ≡ hash_of seed (slice_range text (from + at) to) → (d' : DeskState) → TakesItem d t item d' → TakesLines seed d (line ∷ []) d'
  its_item hash d' took = takes_its_line seed d d' line (label_of line) (slice_range text (from + at) to) t item has.different (is.form inside) refl
      (range_rest text from to at (omega (arith, is.within, range_size text from to order within)) ∙ is.text inside) (is.label inside) hash took

-- the same of a line whose label has this many bytes
pub labelled_item : (seed : ℕ) (d : DeskState) (text : List ℕ) (from to label t item : ℕ) → from ≤ to → to ≤ length text → HasTenants d → IsLabelledBy d.names (slice_range text from to) t (label + 1)
    → item ≡ hash_of seed (slice_range text (from + label + 1) to) → (d' : DeskState) → TakesItem d t item d' → TakesLines seed d (slice_range text from to ∷ []) d'
labelled_item seed d text from to label t item order within has its hash d' took =
    let place : from + label + 1 ≡ from + (label + 1) = omega arith in
    its_item seed d text from to t (label + 1) item order within has its (some_item d.names text from to t label order within its) (hash ∙ ap (λ (n : ℕ). hash_of seed (slice_range text n to)) place) d' took
