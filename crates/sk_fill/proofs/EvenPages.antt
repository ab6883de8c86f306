-- Where the lines of a text begin that all have as many bytes.
use Rattle.std.proofs.Common.{◌≡◌, ◌≢◌, ℕ, zero, suc, ◌+◌, ◌-◌, ◌*◌, ◌<◌, ◌≤◌, List, [], ◌∷◌, ◌++◌, length, take, drop, slice_index, inl, inr, refl, sym, ap, ◌∙◌, subst, arith, length-take, length-drop, length-append, take-append-drop}
use Rattle.std.proofs.Math.Nat.{mul-le-mul_right}
use Rattle.std.proofs.lemmas.List.{take_more, get_or-take, get_or-drop}
use Rattle.sk_model.specs.Lines.{lines_of}
use Rattle.sk_model.proofs.Lines.{after_whole_lines}
use Rattle.sk_lines.specs.Cutter.{IsOfWholeLines}
use Rattle.sk_lines.specs.Runs.{EndEach}
use Rattle.sk_lines.proofs.EvenRuns.{line_inside, many}
use Rattle.sk_fill.specs.Pages.{Begins, IsEven}

module _ (len count : ℕ) (text : List ℕ) (bytes : length text ≡ count * (len + 1)) (ends : EndEach count len text) where
  -- the first lines are whole
  whole_front : (line : ℕ) → line ≤ count → IsOfWholeLines (take (line * (len + 1)) text)
  whole_front zero few = inl (let none : zero * (len + 1) ≡ 0 = omega arith in ap (λ (n : ℕ). take n text) none)
  whole_front (suc m) few =
      let at : ℕ = m * (len + 1) + len in
      let inside : at < length text = omega (arith, line_inside count m (len + 1) (omega (arith, few)), bytes) in
      let size : suc m * (len + 1) ≡ at + 1 = omega arith in
      inr (take at text, ap (λ (n : ℕ). take n text) size ∙ take_more text at 0 inside ∙ ap (λ (b : ℕ). take at text ++ b ∷ []) (ends m (omega (arith, few))))

  module _ (line : ℕ) (few : line ≤ count) (all : length (lines_of text) ≡ count) where
    abbrev at : ℕ
    at = line * (len + 1)

    abbrev front : List ℕ
    front = take at text

    abbrev back : List ℕ
    back = drop at text

    inside : at ≤ length text
    inside = omega (arith, mul-le-mul_right (len + 1) few, bytes)

    front_ends : EndEach line len front
    front_ends i less =
        let below : i * (len + 1) + len < at = omega (arith, line_inside line i (len + 1) less) in
        get_or-take at text (i * (len + 1) + len) 0 below ∙ ends i (omega (arith, less, few))

    back_bytes : length back ≡ (count - line) * (len + 1)
    back_bytes =
        let parts : count ≡ line + (count - line) = omega (arith, few) in
        let sum : count * (len + 1) ≡ line * (len + 1) + (count - line) * (len + 1) = ap (λ (n : ℕ). n * (len + 1)) parts ∙ omega arith in
        omega (arith, length-drop at text, bytes, sum)

    back_ends : EndEach (count - line) len back
    back_ends j less =
        let place : at + (j * (len + 1) + len) ≡ (line + j) * (len + 1) + len = omega arith in
        get_or-drop at text (j * (len + 1) + len) 0 ∙ ap (slice_index text) place ∙ ends (line + j) (omega (arith, less, few))

    counted : length (lines_of front) ≡ line
    counted =
        let size : length front ≡ line * (len + 1) = omega (arith, length-take at text, inside) in
        omega (
          arith,
          few,
          all,
          ap (λ (l : List ℕ). length (lines_of l)) (sym (take-append-drop at text)),
          ap length (after_whole_lines front back (whole_front line few)),
          length-append (lines_of front) (lines_of back),
          many len line front size front_ends,
          many len (count - line) back back_bytes back_ends,
        )

    pub begins_evenly : Begins text line at
    begins_evenly = record { within = inside; before = record { whole = whole_front line few; count = counted } }

-- the same where each line has as many bytes with what ended it
pub even_begins : (each line : ℕ) (text : List ℕ) → 0 < each → IsEven each (length (lines_of text)) text → line ≤ length (lines_of text) → Begins text line (line * each)
even_begins each line text some even few =
    let len : ℕ = each - 1 in
    let size : each ≡ len + 1 = omega (arith, some) in
    let known : each ≢ 0 = λ none. omega (arith, some, none) in
    let count : ℕ = length (lines_of text) in
    subst (λ (n : ℕ). Begins text line (line * n)) (sym size)
    (begins_evenly len count text (even.bytes known ∙ ap (λ (n : ℕ). count * n) size) (even.ends known) line few refl)

pub unknown : (count : ℕ) (text : List ℕ) → IsEven 0 count text
unknown count text = record { bytes = λ some. absurd (some refl); ends = λ some. absurd (some refl) }
