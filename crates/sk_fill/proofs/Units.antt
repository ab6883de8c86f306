-- A unit that is empty, or an item.
use Rattle.std.proofs.Common.{◌≡◌, ◌≢◌, ◌==◌, ℕ, ◌<◌, Bool, true, false, List, [], ◌∷◌, length, Some, None, IsSome, sym, refl, ◌∙◌, subst, arith}
use Rattle.std.proofs.lemmas.Bool.{eqb-false, eqb-true}
use Rattle.sk_read.specs.declared.kind.Kind.{Kind}
use Rattle.sk_read.specs.Items.{item_of, IsGood}
use Rattle.sk_fill.specs.Windows.{item_in}

pub item_is : (kind : Kind) (unit : List ℕ) (item : ℕ) → 0 < length unit → item_of kind unit ≡ Some item → item_in kind unit ≡ Some item
item_is kind [] item some is = let none : ⊥ = omega arith in absurd none
item_is kind (byte ∷ rest) item some is = is

pub empty_is : (kind : Kind) (unit : List ℕ) → length unit ≡ 0 → item_in kind unit ≡ None
empty_is kind [] none = refl
empty_is kind (byte ∷ rest) none = let no : ⊥ = omega arith in absurd no

-- a unit that is known not to be empty
pub filled : (unit : List ℕ) (tells : Bool) → tells ≡ (length unit == 0) → tells ≡ false → 0 < length unit
filled unit tells told not_empty = let some : length unit ≢ 0 = eqb-false (length unit) 0 (sym told ∙ not_empty) in omega arith

-- one that is known to be empty
pub empty : (unit : List ℕ) (tells : Bool) → tells ≡ (length unit == 0) → tells ≡ true → length unit ≡ 0
empty unit tells told is = eqb-true (length unit) 0 (sym told ∙ is)

pub good_item : (kind : Kind) (unit : List ℕ) (item : ℕ) → item_of kind unit ≡ Some item → IsGood kind unit
good_item kind unit item is = λ some. subst IsSome (sym is) refl

pub good_empty : (kind : Kind) (unit : List ℕ) → length unit ≡ 0 → IsGood kind unit
good_empty kind unit none = λ some. let no : ⊥ = omega arith in absurd no
