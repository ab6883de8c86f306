-- Some lines of a page together, in the bytes that they came in.
use Rattle.std.proofs.Common.{◌≡◌, ℕ, ◌+◌, ◌-◌, ◌<◌, ◌≤◌, ◌==◌, inl, inr, ⊎_elim, List, [], ◌++◌, length, take, drop, map, slice_range, sym, ap, ◌∙◌, subst, arith, length-append, length-take, length-drop, take-append-drop, take_at, take-take}
use Rattle.std.specs.List.{slice_split}
use Rattle.std.specs.Str.Lines.{strip_carriage_return}
use Rattle.std.proofs.lemmas.Bool.{cases_lt}
use Rattle.std.proofs.lemmas.List.{drop_at, drop-take, length-map}
use Rattle.std.proofs.lemmas.List.Splits.{length-slice_split}
use Rattle.sk_model.specs.Lines.{lines_of}
use Rattle.sk_model.proofs.Lines.{after_whole_lines, lines_at_end}
use Rattle.sk_lines.specs.Cutter.{IsOfWholeLines}
use Rattle.sk_lines.specs.Runs.{IsRun}
use Rattle.sk_fill.specs.Pages.{text_in, Begins}
use Rattle.sk_fill.proofs.PageText.{whole_behind, lines_behind}

-- whole lines are one, at least, if there are bytes
some_line : (text : List ℕ) → IsOfWholeLines text → 0 < length text → 0 < length (lines_of text)
some_line text (inl none) some = absurd (omega (arith, some, ap length none))
some_line text (inr ends) some =
    let parts : List (List ℕ) = slice_split (λ b. b == 10) ends.0 in
    omega (
      arith,
      ap (λ (l : List ℕ). length (lines_of l)) ends.1,
      ap length (lines_at_end ends.0 []),
      length-append (map strip_carriage_return parts) (lines_of []),
      length-map parts strip_carriage_return,
      length-slice_split (λ b. b == 10) ends.0,
    )

module _ (text : List ℕ) (from to a b : ℕ) (first : Begins text from a) (last : Begins text to b) where
  -- one line does not begin after a later one
  pub in_order : from ≤ to → a ≤ b
  in_order order = ⊎_elim
      (λ (less : b < a).
      let front : List ℕ = take a text in
      let more : List ℕ = drop b front in
      let same : take b front ≡ take b text = take-take b a text (omega (arith, less)) in
      let size : length front ≡ a = length-take a text ∙ omega (arith, first.within) in
      let split : lines_of front ≡ lines_of (take b text) ++ lines_of more =
      ap lines_of (sym (take-append-drop b front) ∙ ap (λ (l : List ℕ). l ++ more) same) ∙ after_whole_lines (take b text) more last.before.whole in
      let some : 0 < length (lines_of more) = some_line more (whole_behind b front (omega (arith, size, less)) first.before.whole) (omega (arith, size, less, length-drop b front)) in
      absurd (omega (arith, order, ap length split, length-append (lines_of (take b text)) (lines_of more), first.before.count, last.before.count, some)))
      (λ (order' : a ≤ b). order')
      (cases_lt b a)

  module _ (order : a ≤ b) where
    abbrev front : List ℕ
    front = take b text

    same_front : take a front ≡ take a text
    same_front = take-take a b text order

    front_size : length front ≡ b
    front_size = length-take b text ∙ omega (arith, last.within)

    begins : Begins front from a
    begins = record { within = omega (arith, front_size, order); before = subst (IsRun from) (sym same_front) first.before }

    between : slice_range text a b ≡ drop a front
    between = let size : b ≡ a + (b - a) = omega (arith, order) in sym (ap (λ (n : ℕ). drop a (take n text)) size ∙ drop-take a (b - a) text)

    split : lines_of front ≡ lines_of (take a front) ++ lines_of (drop a front)
    split = lines_behind front from a begins

    -- the lines between the two places
    pub run_is : IsRun (to - from) (slice_range text a b)
    run_is = subst (IsRun (to - from)) (sym between)
        (record {
          whole = whole_behind a front (omega (arith, front_size, order)) last.before.whole;
          count = omega (arith, ap length split, length-append (lines_of (take a front)) (lines_of (drop a front)), begins.before.count, last.before.count);
        })

    pub lines_are : from ≤ to → lines_of (slice_range text a b) ≡ slice_range (lines_of text) from to
    lines_are less =
        let all : take to (lines_of text) ≡ lines_of front = ap (take to) (lines_behind text to b last) ∙ take_at (lines_of front) (lines_of (drop b text)) to last.before.count in
        let rest : drop from (lines_of front) ≡ lines_of (drop a front) = ap (drop from) split ∙ drop_at (lines_of (take a front)) (lines_of (drop a front)) from begins.before.count in
        let size : to ≡ from + (to - from) = omega (arith, less) in
        ap lines_of between ∙ sym rest ∙ ap (drop from) (sym all) ∙ ap (λ (n : ℕ). drop from (take n (lines_of text))) size ∙ drop-take from (to - from) (lines_of text)

-- the bytes between two places of a page lie in its text
pub in_text : (bytes : List ℕ) (a b : ℕ) → a ≤ b → b ≤ length (text_in bytes) → slice_range bytes a b ≡ slice_range (text_in bytes) a b
in_text bytes a b order within =
    let size : b ≡ a + (b - a) = omega (arith, order) in
    let same : take b (text_in bytes) ≡ take b bytes = take-take b (length bytes - 64) bytes (omega (arith, within, length-take (length bytes - 64) bytes)) in
    sym (ap (λ (n : ℕ). drop a (take n bytes)) size ∙ drop-take a (b - a) bytes) ∙ ap (drop a) (sym same) ∙ ap (λ (n : ℕ). drop a (take n (text_in bytes))) size ∙ drop-take a (b - a) (text_in bytes)
