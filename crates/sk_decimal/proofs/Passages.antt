-- What a piece does to a passage, and to what is held of it.
use Rattle.std.proofs.Common.{◌≡◌, ◌≢◌, inl, inr, ℕ, ◌+◌, ◌<◌, ◌≤◌, Bool, true, false, cond, nat_lt, nat_le, List, [], ◌∷◌, ◌++◌, length, fold, take, sym, ap, ◌∙◌, arith, ne_eqb, append_assoc, append-nil, length-append, le-leb, lt-ltb, le-ltb, subst}
use borrow.Author.Tests.{lt-leb}
use Rattle.std.proofs.lemmas.Bool.{cases_Bool, ltb-true, ltb-false}
use Rattle.std.proofs.lemmas.List.Elements.{All-head, All-tail}
use Rattle.std.proofs.lemmas.List.Sums.{fold_push}
use Rattle.sk_lines.specs.Cutter.{HasNoLf}
use Rattle.sk_decimal.specs.Rounded.{Passage, grown, rounded_line, with_last, fraction_of, last_word, longest_line, settled_of, whole_of}
use Rattle.sk_decimal.specs.Inside.{IsHeld}

one_open : (digits : ℕ) (p : Passage) (x : ℕ) → x ≢ 10 → grown digits p x ≡ record p { piece = p.piece ++ x ∷ [] }
one_open digits p x other =
    let ended : Passage = record { lines = p.lines ++ rounded_line digits p.piece ++ 10 ∷ []; piece = [] } in
    let further : Passage = record p { piece = p.piece ++ x ∷ [] } in
    ap (λ (b : Bool). cond b ended further) (ne_eqb x 10 other)

-- bytes with no LF make the piece longer
pub open_piece : (digits : ℕ) (p : Passage) (bytes : List ℕ) → HasNoLf bytes → fold (grown digits) p bytes ≡ record { lines = p.lines; piece = p.piece ++ bytes }
open_piece digits p [] plain = ap (λ (l : List ℕ). let q : Passage = record { lines = p.lines; piece = l } in q) (sym (append-nil p.piece))
open_piece digits p (x ∷ bytes) plain =
    ap (λ (q : Passage). fold (grown digits) q bytes) (one_open digits p x (All-head (λ (byte : ℕ). byte ≢ 10) x bytes plain))
    ∙ open_piece digits (record p { piece = p.piece ++ x ∷ [] }) bytes (All-tail (λ (byte : ℕ). byte ≢ 10) x bytes plain)
    ∙ ap (λ (l : List ℕ). let q : Passage = record { lines = p.lines; piece = l } in q) (append_assoc p.piece (x ∷ []) bytes)

-- and with an LF after them they end a line
pub ended_piece : (digits : ℕ) (p : Passage) (bytes : List ℕ) → HasNoLf bytes → fold (grown digits) p (bytes ++ 10 ∷ []) ≡ record { lines = p.lines ++ rounded_line digits (p.piece ++ bytes) ++ 10 ∷ []; piece = [] }
ended_piece digits p bytes plain = fold_push (grown digits) p bytes 10 ∙ ap (λ (q : Passage). grown digits q 10) (open_piece digits p bytes plain)

-- a long line stays as it is
pub long_line : (digits : ℕ) (line : List ℕ) → longest_line ≤ length line → rounded_line digits line ≡ line
unfolding rounded_line
long_line digits line long = ap (λ (b : Bool). cond b (with_last digits line (fraction_of (last_word line))) line) (le-ltb (length line) longest_line long)

pub short_line : (digits : ℕ) (line : List ℕ) → length line < longest_line → rounded_line digits line ≡ with_last digits line (fraction_of (last_word line))
unfolding rounded_line
short_line digits line short = ap (λ (b : Bool). cond b (with_last digits line (fraction_of (last_word line))) line) (lt-ltb (length line) longest_line short)

-- ---- what is held

short_settled : (lines piece : List ℕ) → length piece ≤ longest_line → settled_of (record { lines = lines; piece = piece }) ≡ lines
short_settled lines piece short = ap (λ (b : Bool). lines ++ cond b [] piece) (le-leb (length piece) longest_line short) ∙ append-nil lines

long_settled : (lines piece : List ℕ) → longest_line < length piece → settled_of (record { lines = lines; piece = piece }) ≡ lines ++ piece
long_settled lines piece long = ap (λ (b : Bool). lines ++ cond b [] piece) (lt-leb (length piece) longest_line long)

pub held_short : (piece : List ℕ) → length piece ≤ longest_line → IsHeld piece piece false
held_short piece short = record {
  line = sym (ap (λ (b : Bool). cond b piece []) (le-leb (length piece) longest_line short));
  passing = sym (le-ltb longest_line (length piece) short);
}

pub held_long : (piece : List ℕ) → longest_line < length piece → IsHeld piece [] true
held_long piece long = record {
  line = sym (ap (λ (b : Bool). cond b piece []) (lt-leb (length piece) longest_line long));
  passing = sym (lt-ltb longest_line (length piece) long);
}

module _ (p : Passage) (line : List ℕ) (passes : Bool) (held : IsHeld p.piece line passes) where
  -- what is sure and what is held are all
  pub settled_and_held : settled_of p ++ line ≡ whole_of p
  settled_and_held = elim (cases_Bool (nat_le (length p.piece) longest_line)) [
    | inl short ↦
        ap (λ (l : List ℕ). (p.lines ++ cond (nat_le (length p.piece) longest_line) [] p.piece) ++ l) held.line
        ∙ ap (λ (b : Bool). (p.lines ++ cond b [] p.piece) ++ cond b p.piece []) short ∙ ap (λ (l : List ℕ). l ++ p.piece) (append-nil p.lines)
    | inr long ↦
        ap (λ (l : List ℕ). (p.lines ++ cond (nat_le (length p.piece) longest_line) [] p.piece) ++ l) held.line
        ∙ ap (λ (b : Bool). (p.lines ++ cond b [] p.piece) ++ cond b p.piece []) long ∙ append-nil (p.lines ++ p.piece)
  ]

  -- a piece that is short enough is held whole
  pub held_whole : length p.piece ≤ longest_line → line ≡ p.piece
  held_whole short = held.line ∙ ap (λ (b : Bool). cond b p.piece []) (le-leb (length p.piece) longest_line short)

  pub not_passing : length p.piece ≤ longest_line → passes ≡ false
  not_passing short = held.passing ∙ le-ltb longest_line (length p.piece) short

  -- ---- a piece that passes

  module _ (digits : ℕ) (piece : List ℕ) (long : longest_line < length p.piece + length piece) where
    all_passed : settled_of p ++ (line ++ piece) ≡ p.lines ++ (p.piece ++ piece)
    all_passed = sym (append_assoc (settled_of p) line piece) ∙ ap (λ (l : List ℕ). l ++ piece) settled_and_held ∙ append_assoc p.lines p.piece piece

    is_long : longest_line < length (p.piece ++ piece)
    is_long = omega (arith, long, length-append p.piece piece)

    pub pass_open : HasNoLf piece → settled_of (fold (grown digits) p piece) ≡ settled_of p ++ (line ++ piece)
    pass_open plain = ap settled_of (open_piece digits p piece plain) ∙ long_settled p.lines (p.piece ++ piece) is_long ∙ sym all_passed

    pub pass_open_all : HasNoLf piece → whole_of (fold (grown digits) p piece) ≡ settled_of p ++ (line ++ piece)
    pass_open_all plain = ap whole_of (open_piece digits p piece plain) ∙ sym all_passed

    pub pass_open_held : HasNoLf piece → IsHeld (fold (grown digits) p piece).piece [] true
    pass_open_held plain = subst (λ (q : Passage). IsHeld q.piece [] true) (sym (open_piece digits p piece plain)) (held_long (p.piece ++ piece) is_long)

    module _ (body : List ℕ) (plain : HasNoLf body) (is : piece ≡ body ++ 10 ∷ []) where
      line_passed : p.lines ++ rounded_line digits (p.piece ++ body) ++ 10 ∷ [] ≡ p.lines ++ (p.piece ++ piece)
      line_passed =
          ap (λ (l : List ℕ). p.lines ++ l ++ 10 ∷ []) (long_line digits (p.piece ++ body) (omega (arith, is_long, length-append p.piece piece, length-append p.piece body, length-append body (10 ∷ []), ap length is)))
          ∙ append_assoc p.lines (p.piece ++ body) (10 ∷ []) ∙ ap (λ (l : List ℕ). p.lines ++ l) (append_assoc p.piece body (10 ∷ []) ∙ ap (λ (l : List ℕ). p.piece ++ l) (sym is))

      after : fold (grown digits) p piece ≡ record { lines = p.lines ++ (p.piece ++ piece); piece = [] }
      after = ap (fold (grown digits) p) is ∙ ended_piece digits p body plain ∙ ap (λ (l : List ℕ). let q : Passage = record { lines = l; piece = [] } in q) line_passed

      pub pass_ended : settled_of (fold (grown digits) p piece) ≡ settled_of p ++ (line ++ piece)
      pass_ended = ap settled_of after ∙ append-nil (p.lines ++ (p.piece ++ piece)) ∙ sym all_passed

      pub pass_ended_all : whole_of (fold (grown digits) p piece) ≡ settled_of p ++ (line ++ piece)
      pass_ended_all = ap whole_of after ∙ append-nil (p.lines ++ (p.piece ++ piece)) ∙ sym all_passed

      pub pass_ended_held : IsHeld (fold (grown digits) p piece).piece [] false
      pass_ended_held = subst (λ (q : Passage). IsHeld q.piece [] false) (sym after) (held_short [] (omega arith))

  -- ---- a piece that is held

  module _ (digits : ℕ) (piece : List ℕ) (short : length p.piece + length piece ≤ longest_line) where
    lines_only : settled_of p ≡ p.lines
    lines_only = short_settled p.lines p.piece (omega (arith, short))

    pub keep_open : HasNoLf piece → settled_of (fold (grown digits) p piece) ≡ settled_of p ++ []
    keep_open plain =
        ap settled_of (open_piece digits p piece plain) ∙ short_settled p.lines (p.piece ++ piece) (omega (arith, short, length-append p.piece piece)) ∙ sym lines_only
        ∙ sym (append-nil (settled_of p))

    pub keep_open_held : HasNoLf piece → IsHeld (fold (grown digits) p piece).piece (line ++ piece) passes
    keep_open_held plain =
        subst (λ (q : Passage). IsHeld q.piece (line ++ piece) passes) (sym (open_piece digits p piece plain))
        (subst (λ (l : List ℕ). IsHeld (p.piece ++ piece) (l ++ piece) passes) (sym (held_whole (omega (arith, short))))
        (subst (λ (b : Bool). IsHeld (p.piece ++ piece) (p.piece ++ piece) b) (sym (not_passing (omega (arith, short)))) (held_short (p.piece ++ piece) (omega (arith, short, length-append p.piece piece)))))

    module _ (body : List ℕ) (plain : HasNoLf body) (is : piece ≡ body ++ 10 ∷ []) where
      ended : fold (grown digits) p piece ≡ record { lines = settled_of p ++ (rounded_line digits (line ++ body) ++ 10 ∷ []); piece = [] }
      ended =
          ap (fold (grown digits) p) is ∙ ended_piece digits p body plain
          ∙ ap (λ (l : List ℕ). let q : Passage = record { lines = l; piece = [] } in q)
          (append_assoc p.lines (rounded_line digits (p.piece ++ body)) (10 ∷ []) ∙ ap (λ (l : List ℕ). l ++ (rounded_line digits (p.piece ++ body) ++ 10 ∷ [])) (sym lines_only)
          ∙ ap (λ (l : List ℕ). settled_of p ++ (rounded_line digits (l ++ body) ++ 10 ∷ [])) (sym (held_whole (omega (arith, short)))))

      pub keep_ended : settled_of (fold (grown digits) p piece) ≡ settled_of p ++ (rounded_line digits (line ++ body) ++ 10 ∷ [])
      keep_ended = ap settled_of ended ∙ append-nil (settled_of p ++ (rounded_line digits (line ++ body) ++ 10 ∷ []))

      pub keep_ended_all : whole_of (fold (grown digits) p piece) ≡ settled_of p ++ (rounded_line digits (line ++ body) ++ 10 ∷ [])
      keep_ended_all = ap whole_of ended ∙ append-nil (settled_of p ++ (rounded_line digits (line ++ body) ++ 10 ∷ []))

      pub keep_ended_held : IsHeld (fold (grown digits) p piece).piece [] passes
      keep_ended_held =
          subst (λ (q : Passage). IsHeld q.piece [] passes) (sym ended)
          (subst (λ (b : Bool). IsHeld [] [] b) (sym (not_passing (omega (arith, short)))) (held_short [] (omega arith)))

  -- ---- whether it passes

  pub passes_on : (more : ℕ) → passes ≡ true → true ≡ nat_lt longest_line (length p.piece + more)
  passes_on more is =
      let long : longest_line < length p.piece = ltb-true longest_line (length p.piece) (sym held.passing ∙ is) in
      sym (lt-ltb longest_line (length p.piece + more) (omega (arith, long)))

  short_of : passes ≡ false → length p.piece ≤ longest_line
  short_of is = ltb-false longest_line (length p.piece) (sym held.passing ∙ is)

  pub held_length : passes ≡ false → length line ≡ length p.piece
  held_length is = ap length (held_whole (short_of is))
