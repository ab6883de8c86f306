-- Items of lines, and where a text is refused.
use Rattle.std.proofs.Common.{◌≡◌, ◌≢◌, ℕ, ◌<◌, ◌≤◌, List, [], ◌∷◌, ◌++◌, length, take, Option, Some, Result, Err, Bool, true, false, unwrap_or, refl, sym, ap, ◌∙◌, subst, arith, length-append, append-nil}
use Rattle.sk_model.specs.Missing.{Begins}
use Rattle.sk_model.specs.Lines.{AreWithin, items_of, filled}
use Rattle.sk_model.proofs.Lines.{items_append, item_of_one, item_of_empty, items_are_few, lines_are_few}
use Rattle.sk_read.specs.declared.kind.Kind.{Kind}
use Rattle.sk_read.specs.Reading.{Reading, HasGiven}
use Rattle.sk_read.specs.Items.{item_of, items_by, IsGood, Gave, Missed}
use Rattle.sk_read.specs.Reads.{Reads}
use Rattle.sk_read.specs.declared.fault.Fault.{Fault}
use Rattle.sk_read.specs.declared.fault.Fault.TheVariants.{BadItem, WriteFault}
use Rattle.sk_read.specs.declared.units.Units.{Units}
use Rattle.std.proofs.lemmas.List.Elements.{All-nil}
use Rattle.std.proofs.lemmas.Result.{MatchResult-at_err}
use Rattle.std.proofs.Math.Seq.{get_or-append_seam}

pub no_items : (kind : Kind) → items_by kind [] ≡ []
unfolding items_by items_of filled
no_items kind = refl

-- nothing was given
pub gave_none : (kind : Kind) (Stands : List ℕ → Type 0) → Stands [] → Gave kind Stands []
gave_none kind Stands empty = (All-nil (IsGood kind), subst Stands (sym (no_items kind)) empty)

pub items_are_fewer : (kind : Kind) (lines : List (List ℕ)) → length (items_by kind lines) ≤ length lines
unfolding items_by
items_are_fewer kind lines = items_are_few (λ (line : List ℕ). unwrap_or (item_of kind line) 0) lines

pub items_of_more : (kind : Kind) (lines : List (List ℕ)) (line : List ℕ) (item : ℕ) → 0 < length line → item_of kind line ≡ Some item → items_by kind (lines ++ line ∷ []) ≡ items_by kind lines ++ item ∷ []
unfolding items_by
items_of_more kind lines line item some is =
    let by : List ℕ → ℕ = λ (l : List ℕ). unwrap_or (item_of kind l) 0 in
    items_append by lines (line ∷ []) ∙ ap (λ (l : List ℕ). items_of by lines ++ l) (item_of_one by line some ∙ ap (λ (o : Option ℕ). unwrap_or o 0 ∷ []) is)

pub items_of_empty : (kind : Kind) (lines : List (List ℕ)) (line : List ℕ) → length line ≡ 0 → items_by kind (lines ++ line ∷ []) ≡ items_by kind lines
unfolding items_by
items_of_empty kind lines [] none =
    let by : List ℕ → ℕ = λ (l : List ℕ). unwrap_or (item_of kind l) 0 in
    items_append by lines ([] ∷ []) ∙ ap (λ (l : List ℕ). items_of by lines ++ l) (item_of_empty by) ∙ append-nil (items_of by lines)
items_of_empty kind lines (byte ∷ line) none = absurd (omega arith)

-- the prefix of lines that begin with these
pub front_is : {A : Type 0} (given lines : List A) → Begins given lines → take (length given) lines ≡ given
front_is {A} given lines begins = ap (take (length given)) begins.1 ∙ front given begins.0
  where
    front : (xs rest : List A) → take (length xs) (xs ++ rest) ≡ xs
    front [] rest = refl
    front (x ∷ xs) rest = ap (λ (l : List A). x ∷ l) (front xs rest)

pub has_few : (r : Reading) (given : List (List ℕ)) (taken : List ℕ) → HasGiven r given taken → length given ≤ length taken
has_few r given taken has = go r.ended refl
  where
    go : (b : Bool) → r.ended ≡ b → length given ≤ length taken
    go true ended = omega (arith, ap length (has.whole ended), lines_are_few taken)
    go false not_ended =
        let f = has.follows not_ended in
        omega (arith, ap length f.lines, lines_are_few f.front, ap length f.joined, length-append f.front r.cutter.rest)

-- the last line too is within the limit
pub last_within : (limit : ℕ) (given : List (List ℕ)) (line : List ℕ) → AreWithin limit (given ++ line ∷ []) → length line ≤ limit
last_within limit given line within =
    subst (λ (l : List ℕ). length l ≤ limit) (get_or-append_seam given line [] []) (within (length given) [] (omega (arith, length-append given (line ∷ []))))

not_written : (n : ℕ) → WriteFault ≡ BadItem n → ⊥
not_written n is = cc

-- a taker of items never stops for a write
pub no_write : (last : ℕ) (kind : Kind) (Stands : List ℕ → Type 0) (units : Units) (most : ℕ) (old new : Option (List ℕ)) (r : Result ℕ Fault) → Reads last units most (Gave kind Stands) (Missed kind Stands) old new r → r ≢ Err WriteFault
no_write last kind Stands units most old new r reads is = not_written _ (MatchResult-at_err _ _ WriteFault is reads).1.known.0
