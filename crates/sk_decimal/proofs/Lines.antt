-- Texts line by line.
use Rattle.std.proofs.Common.{◌≡◌, ℕ, ◌<◌, arith, Bool, true, false, cond, eqb, ◌⊎◌, inl, inr, List, [], ◌∷◌, ◌++◌, fold, refl, ap, sym, ◌∙◌, append_assoc, append-nil}
use Rattle.std.proofs.lemmas.List.Sums.{fold_push}
use Rattle.sk_lines.specs.Cutter.{HasNoLf, IsOfWholeLines}
use Rattle.sk_decimal.specs.Rounded.{Passage, grown, passage, rounded_line, whole_of, rounded}
use Rattle.sk_decimal.proofs.Accounts.{passage_more}
use Rattle.sk_decimal.proofs.Passages.{open_piece, ended_piece}

-- a passage with text before its lines
abbrev behind : List ℕ → Passage → Passage
behind front p = record { lines = front ++ p.lines; piece = p.piece }

one_behind : (digits : ℕ) (front : List ℕ) (p : Passage) (x : ℕ) (b : Bool) →
    (let q : Passage = cond b (record { lines = (front ++ p.lines) ++ rounded_line digits p.piece ++ 10 ∷ []; piece = [] }) (record { lines = front ++ p.lines; piece = p.piece ++ x ∷ [] }) in q)
    ≡ behind front (cond b (record { lines = p.lines ++ rounded_line digits p.piece ++ 10 ∷ []; piece = [] }) (record { lines = p.lines; piece = p.piece ++ x ∷ [] }))
one_behind digits front p x true =
    ap (λ (l : List ℕ). let q : Passage = record { lines = l; piece = [] } in q)
    (ap (λ (l : List ℕ). l ++ 10 ∷ []) (append_assoc front p.lines (rounded_line digits p.piece)) ∙ append_assoc front (p.lines ++ rounded_line digits p.piece) (10 ∷ []))
one_behind digits front p x false = refl

all_behind : (digits : ℕ) (front : List ℕ) (p : Passage) (text : List ℕ) → fold (grown digits) (behind front p) text ≡ behind front (fold (grown digits) p text)
all_behind digits front p [] = refl
all_behind digits front p (x ∷ text) = ap (λ (q : Passage). fold (grown digits) q text) (one_behind digits front p x (eqb x 10)) ∙ all_behind digits front (grown digits p x) text

at_first : (digits : ℕ) (text : List ℕ) → passage digits text ≡ fold (grown digits) (let q : Passage = record { lines = []; piece = [] } in q) text
unfolding passage
at_first digits text = refl

pub line_is : (digits : ℕ) (line : List ℕ) → HasNoLf line → rounded digits (line ++ 10 ∷ []) ≡ rounded_line digits line ++ 10 ∷ []
line_is digits line plain =
    ap whole_of (at_first digits (line ++ 10 ∷ []) ∙ ended_piece digits (record { lines = []; piece = [] }) line plain) ∙ append-nil (rounded_line digits line ++ 10 ∷ [])

pub piece_is : (digits : ℕ) (piece : List ℕ) → HasNoLf piece → rounded digits piece ≡ piece
piece_is digits piece plain = ap whole_of (at_first digits piece ∙ open_piece digits (record { lines = []; piece = [] }) piece plain)

pub apart : (digits : ℕ) (a b : List ℕ) → IsOfWholeLines a → rounded digits (a ++ b) ≡ rounded digits a ++ rounded digits b
apart digits a b (inl none) = ap (λ (l : List ℕ). rounded digits (l ++ b)) none ∙ sym (ap (λ (l : List ℕ). rounded digits l ++ rounded digits b) none ∙ ap (λ (l : List ℕ). l ++ rounded digits b) (piece_is digits [] (λ k d below. absurd (no_place k below))))
  where
    no_place : (k : ℕ) → k < 0 → ⊥
    no_place k below = omega arith
apart digits a b (inr (front, is)) =
    let before = fold (grown digits) (let q : Passage = record { lines = []; piece = [] } in q) front in
    let lines = before.lines ++ rounded_line digits before.piece ++ 10 ∷ [] in
    let ended : passage digits a ≡ record { lines = lines; piece = [] } = ap (passage digits) is ∙ at_first digits (front ++ 10 ∷ []) ∙ fold_push (grown digits) (record { lines = []; piece = [] }) front 10 in
    let nil : behind lines (record { lines = []; piece = [] }) ≡ record { lines = lines; piece = [] } = ap (λ (l : List ℕ). let q : Passage = record { lines = l; piece = [] } in q) (append-nil lines) in
    let after : passage digits (a ++ b) ≡ behind lines (passage digits b) =
    passage_more digits a b ∙ ap (λ (q : Passage). fold (grown digits) q b) (ended ∙ sym nil) ∙ all_behind digits lines (record { lines = []; piece = [] }) b
    ∙ ap (behind lines) (sym (at_first digits b)) in
    ap whole_of after ∙ append_assoc lines (passage digits b).lines (passage digits b).piece
    ∙ ap (λ (l : List ℕ). l ++ rounded digits b) (sym (ap whole_of ended ∙ append-nil lines))
