-- What many lines given together do to a reader.
use Rattle.std.proofs.Common.{◌≡◌, ℕ, ◌+◌, ◌-◌, ◌^◌, ◌<◌, ◌≤◌, List, [], ◌∷◌, ◌++◌, length, take, drop, slice_index, slice_range, refl, sym, ap, ◌∙◌, subst, arith, append_assoc, append-nil, length-append, length-take, length-drop, take-add, take-take, ⊎_elim, false, true≢false}
use Rattle.std.specs.List.{concat}
use Rattle.std.specs.Str.Lines.{strip_carriage_return}
use Rattle.std.proofs.lemmas.List.{drop-take}
use Rattle.std.proofs.lemmas.List.Elements.{All-nil, All-cons}
use Rattle.std.proofs.lemmas.Bool.{cases_lt}
use Rattle.sk_model.proofs.Lines.{length-strip}
use Rattle.sk_model.specs.Lines.{AreWithin}
use Rattle.sk_lines.specs.Cutter.{Cutter, Follows, HasLfAt, IsSound, is_long, counted}
use Rattle.sk_lines.specs.Spans.{GivesLines, AreLines, IsLine, lines_at}
use Rattle.sk_lines.specs.declared.spans.Span.{Span}
use Rattle.sk_lines.proofs.Steps.{stripped, front_of, follows_line, lf_in_text, lf_in_rest, front_of_rest, rest_behind}

refollow : (c d : Cutter) (given : List (List ℕ)) (text : List ℕ) → d.limit ≡ c.limit → d.rest ≡ c.rest → d.number ≡ c.number → Follows c given text → Follows d given text
refollow c d given text limit rest number f = record {
  front = f.front;
  joined = f.joined ∙ ap (λ (l : List ℕ). f.front ++ l) (sym rest);
  whole = f.whole;
  lines = f.lines;
  count = number ∙ f.count;
  within = subst (λ (n : ℕ). AreWithin n given) (sym limit) f.within;
}

-- a reader at a place of a text, which ends 64 bytes before its buffer of n bytes does
abbrev pub reader_at : Cutter → List ℕ → ℕ → ℕ → ℕ → Cutter
reader_at c bytes n at number = record c { front = take at bytes; rest = take (n - 64 - at) (drop at bytes); number = number }

-- what is neither hungry nor at its end, and has met nothing too long
pub sound_going : (c : Cutter) → c.hungry ≡ false → c.ended ≡ false → is_long c.last ≡ false → IsSound c
sound_going c fed going short = record {
  piece = λ hungry. absurd (true≢false (sym hungry ∙ fed));
  fits = λ hungry. absurd (true≢false (sym hungry ∙ fed));
  number = λ n long. absurd (true≢false (sym (ap is_long long) ∙ short));
  open_long = λ n long _. absurd (true≢false (sym (ap is_long long) ∙ short));
  ended_long = λ n long _. absurd (true≢false (sym (ap is_long long) ∙ short));
  ended = λ over _. absurd (true≢false (sym over ∙ going));
}

module _ (c : Cutter) (bytes : List ℕ) (n : ℕ) (whole : n ≡ length bytes) (zeros : (i : ℕ) → n ≤ i + 64 → slice_index bytes i ≡ 0) where
  abbrev at_place : ℕ → ℕ → Cutter
  at_place at number = reader_at c bytes n at number

  all_text : (at : ℕ) → at + 64 ≤ n → take at bytes ++ take (n - 64 - at) (drop at bytes) ≡ take (n - 64) bytes
  all_text at fits = let m : at + (n - 64 - at) ≡ n - 64 = omega arith in sym (take-add at (n - 64 - at) bytes) ∙ ap (λ (k : ℕ). take k bytes) m

  front_size : (at : ℕ) → at + 64 ≤ n → length (take at bytes) ≡ at
  front_size at fits = omega (arith, length-take at bytes)

  line_size : (from end : ℕ) → from ≤ end → end + 64 < n → (end - from ≤ length (strip_carriage_return (slice_range bytes from end)) + 1) × (length (strip_carriage_return (slice_range bytes from end)) ≤ end - from)
  line_size from end ordered inside =
      let piece = slice_range bytes from end in
      let size : length piece ≡ end - from = omega (arith, length-take (end - from) (drop from bytes), length-drop from bytes) in
      let s = stripped piece in
      let most = length-strip piece in (
        ⊎_elim (λ (less : length (strip_carriage_return piece) < length piece). omega (arith, ap length (s.by_cr less), length-append (strip_carriage_return piece) (13 ∷ [])))
            (λ (same : length piece ≤ length (strip_carriage_return piece)). omega arith) (cases_lt (length (strip_carriage_return piece)) (length piece)),
        omega (arith, most),
      )

  -- the line lies there in each longer prefix
  line_there : (from end at : ℕ) (span : Span) → IsLine bytes c.limit from end span → end + 64 < n → end < at → at + 64 ≤ n → slice_range (take at bytes) span.from span.to ≡ strip_carriage_return (slice_range bytes from end)
  line_there from end at span line inside behind fits =
      let piece = slice_range bytes from end in
      let l = strip_carriage_return piece in
      let size = line_size from end line.lf.from inside in
      let k : span.to - span.from ≡ length l = omega (arith, line.size, line.start) in
      let m : from + (at - from) ≡ at = omega (arith, line.lf.from) in
      let less : length l ≤ at - from = omega (arith, size.1) in
      let few : length l ≤ end - from = size.1 in
      ap (λ (j : ℕ). take j (drop span.from (take at bytes))) k ∙ ap (λ (j : ℕ). take (length l) (drop j (take at bytes))) line.start
      ∙ ap (λ (j : ℕ). take (length l) (drop from (take j bytes))) (sym m) ∙ ap (take (length l)) (drop-take from (at - from) bytes)
      ∙ take-take (length l) (at - from) (drop from bytes) less ∙ sym (take-take (length l) (end - from) (drop from bytes) few) ∙ front_of piece l refl

  -- one line
  one_given : (from end number : ℕ) (span : Span) → from + 64 ≤ n → IsLine bytes c.limit from end span → (end + 64 < n)
      × ((given : List (List ℕ)) (text : List ℕ) → Follows (at_place from number) given text → Follows (at_place (end + 1) (counted (number + 1))) (given ++ strip_carriage_return (slice_range bytes from end) ∷ []) text)
  one_given from end number span fits line =
      let inside : end + 64 < n = lf_in_text bytes end n line.lf.lf zeros in
      let have = n - 64 in
      let ordered : from ≤ have = omega arith in
      let within : have ≤ length bytes = omega (arith, whole) in
      let first = line.lf in
      let lf : HasLfAt (take (have - from) (drop from bytes)) (end - from) = lf_in_rest bytes from have ordered within end first (λ i past. zeros i (omega arith)) in
      let place : from + (end - from + 1) ≡ end + 1 = omega (arith, first.from) in
      let behind : take (have - (end + 1)) (drop (end + 1) bytes) ≡ drop (end - from + 1) (take (have - from) (drop from bytes))
      = subst (λ (k : ℕ). take (have - k) (drop k bytes) ≡ drop (end - from + 1) (take (have - from) (drop from bytes))) place (rest_behind bytes from have ordered within (end - from + 1) (omega (arith, first.from))) in
      let l = strip_carriage_return (slice_range bytes from end) in
      let piece = front_of_rest bytes from have ordered within (end - from) (omega (arith, first.from)) in
      let new : Cutter = record (at_place (end + 1) (counted (number + 1))) { line = l } in (
        inside,
        λ given text f. refollow new (at_place (end + 1) (counted (number + 1))) (given ++ l ∷ []) text refl refl refl
            (follows_line (at_place from number) new (end - from) lf refl behind refl (ap strip_carriage_return (sym piece)) (omega (arith, line.size, line.short)) given text f),
      )

  -- no line
  none_given : (at number : ℕ) → number < 2 ^ 64 → GivesLines (at_place at number) (at_place at (counted (number + 0))) []
  none_given at number few = record {
    follows = λ given text f. subst (λ (l : List (List ℕ)). Follows (at_place at (counted (number + 0))) l text) (sym (append-nil given)) (refollow (at_place at number) (at_place at (counted (number + 0))) given text refl refl (omega (arith, few)) f);
    number = refl;
    bytes = refl;
    behind = All-nil _;
    grows = omega arith;
    ends = omega arith;
    stays = refl;
  }

  pub lines_given : (spans : List Span) (from at number : ℕ) → from + 64 ≤ n → number < 2 ^ 64 → AreLines bytes c.limit from spans at
      → (at + 64 ≤ n) × (from ≤ at) × GivesLines (at_place from number) (at_place at (counted (number + length spans))) spans
  unfolding AreLines
  lines_given [] from at number fits few lines = (
    subst (λ (k : ℕ). k + 64 ≤ n) lines fits,
    omega (arith, lines),
    subst (λ (k : ℕ). GivesLines (at_place from number) (at_place k (counted (number + 0))) []) lines (none_given from number few),
  )
  lines_given (span ∷ spans) from at number fits few (end, line, more) =
      let one = one_given from end number span fits line in
      let later = lines_given spans (end + 1) at (counted (number + 1)) (omega (arith, one.0)) (omega arith) more in
      let g = later.2 in
      let new : Cutter = at_place at (counted (number + length (span ∷ spans))) in
      let l = strip_carriage_return (slice_range bytes from end) in
      let there : slice_range (take at bytes) span.from span.to ≡ l = line_there from end at span line one.0 (omega (arith, later.1)) later.0 in
      let size = line_size from end line.lf.from one.0 in
      let start = front_size from fits in
      let next = front_size (end + 1) (omega (arith, one.0)) in
      let stop = front_size at later.0 in
      let total : length (concat (lines_at (span ∷ spans) (take at bytes))) ≡ length l + length (concat (lines_at spans (take at bytes)))
      = length-append (slice_range (take at bytes) span.from span.to) (concat (lines_at spans (take at bytes))) ∙ ap (λ (x : List ℕ). length x + length (concat (lines_at spans (take at bytes)))) there in (
        later.0,
        omega (arith, later.1, line.lf.from),
        record {
          follows = λ given text f.
              refollow (at_place at (counted (counted (number + 1) + length spans))) new (given ++ lines_at (span ∷ spans) (take at bytes)) text refl refl (omega arith)
              (subst (λ (ls : List (List ℕ)). Follows (at_place at (counted (counted (number + 1) + length spans))) ls text)
              (append_assoc given (l ∷ []) (lines_at spans (take at bytes)) ∙ ap (λ (x : List ℕ). given ++ (x ∷ lines_at spans (take at bytes))) (sym there))
              (g.follows (given ++ l ∷ []) text (one.1 given text f)));
          number = refl;
          bytes = all_text from fits ∙ sym (all_text at later.0);
          behind = All-cons (λ (x : Span). (length (take from bytes) ≤ x.from) × (x.from ≤ x.to) × (x.to ≤ length (take at bytes))) span spans (omega (arith, start, line.start), omega (arith, line.size, line.start), omega (arith, stop, line.size, size.1, later.1, line.lf.from))
              (λ k d below. let s = g.behind k d below in (omega (arith, s.0, start, next, line.lf.from), s.1, s.2));
          grows = omega (arith, total, g.grows, start, next, stop, size.1, line.lf.from);
          ends = omega (arith, total, g.ends, start, next, stop, size.0, line.lf.from);
          stays = refl;
        },
      )
