-- Lemmas on the text of a page, and on the places that it notes.
use Rattle.std.proofs.Common.{◌≡◌, ◌≢◌, ℕ, ◌+◌, ◌-◌, ◌<◌, ◌≤◌, Bool, true, false, cond, inl, inr, ⊎_elim, List, [], ◌∷◌, ◌++◌, zero, All, length, take, drop, replicate, slice_index, slice_range, get_or, refl, sym, ap, ◌∙◌, subst, arith, append_assoc, length-append, length-take, take-append-drop, eq-eqb, take_at, take-take, take-add, reverse, Option, Some}
use Rattle.std.specs.List.{find}
use Rattle.std.specs.Option.{unwrap_or}
use Rattle.std.specs.Str.Lines.{strip_carriage_return}
use Rattle.std.proofs.lemmas.List.{take-append-le, take_all, drop-append-le, drop_all, drop_at, drop-take, length-replicate, length-reverse, get_or-reverse, get_or_at}
use Rattle.std.proofs.lemmas.List.Elements.{All-nil, All-cons, All-head, All-tail, All-append, All-weaker}
use Rattle.std.proofs.lemmas.Bool.{cases_lt}
use Rattle.sk_model.specs.Lines.{lines_of}
use Rattle.sk_model.proofs.Lines.{lines_of_nothing, after_whole_lines, first_line, a_line_alone, lines_are_few}
use Rattle.sk_fill.specs.declared.page.Place.{Place}
use Rattle.sk_lines.specs.Cutter.{HasNoLf, IsOfWholeLines}
use Rattle.sk_lines.specs.Marks.{KnowsLfs, TakesLf}
use Rattle.sk_lines.specs.Runs.{IsRun}
use Rattle.sk_fill.specs.Pages.{text_in, text_from, IsPadded, Begins, IsPage, AreOnTheWay}
use Rattle.sk_lines.proofs.Places as places
use Rattle.sk_lines.proofs.Steps as steps
use Rattle.sk_lines.proofs.Steps.{FoundLine}
use Rattle.sk_lines.proofs.WholeLines.{no_lines, run_more}

-- ---- whole lines

-- what lies after a place of whole lines ends as they do
pub whole_behind : (n : ℕ) (text : List ℕ) → n ≤ length text → IsOfWholeLines text → IsOfWholeLines (drop n text)
whole_behind n text within (inl none) = inl (drop_all n text (omega (arith, ap length none)))
whole_behind n text within (inr ends) = ⊎_elim
    (λ (inside : n < length text).
    let size : n ≤ length ends.0 = omega (arith, ap length ends.1, length-append ends.0 (10 ∷ [])) in
    inr (drop n ends.0, ap (drop n) ends.1 ∙ drop-append-le n ends.0 (10 ∷ []) size))
    (λ (past : length text ≤ n). inl (drop_all n text past))
    (cases_lt n (length text))

-- where there is no LF, there is no line
pub none_without_lf : (text : List ℕ) → IsOfWholeLines text → HasNoLf text → length (lines_of text) ≡ 0
none_without_lf text (inl none) no_lf = ap (λ (l : List ℕ). length (lines_of l)) none ∙ ap length lines_of_nothing
none_without_lf text (inr ends) no_lf = absurd (no_lf (length ends.0) 0
    (omega (arith, ap length ends.1, length-append ends.0 (10 ∷ [])))
    (ap (λ (l : List ℕ). get_or l (length ends.0) 0) ends.1 ∙ get_or_at ends.0 10 [] 0 (length ends.0) refl))

-- ---- a line that is ended by two bytes

strip_at : (b : Bool) (line : List ℕ) → b ≡ true → cond b (take (length (line ++ 13 ∷ []) - 1) (line ++ 13 ∷ [])) (line ++ 13 ∷ []) ≡ line
strip_at true line is = take_at line (13 ∷ []) (length (line ++ 13 ∷ []) - 1) (omega (arith, length-append line (13 ∷ [])))
strip_at false line is = absurd (cc)

strip_one : (line : List ℕ) → strip_carriage_return (line ++ 13 ∷ []) ≡ line
strip_one line =
    let place : length (line ++ 13 ∷ []) - 1 ≡ length line = omega (arith, length-append line (13 ∷ [])) in
    let cr : slice_index (line ++ 13 ∷ []) (length (line ++ 13 ∷ []) - 1) ≡ 13 = get_or_at line 13 [] 0 _ (sym place) in
    strip_at _ line (eq-eqb _ 13 cr)

pub one_line : (line : List ℕ) → HasNoLf line → lines_of (line ++ 13 ∷ 10 ∷ []) ≡ line ∷ []
one_line line none =
    let no_lf : HasNoLf (line ++ 13 ∷ []) = All-append (λ b. b ≢ 10) line (13 ∷ []) none (All-cons (λ b. b ≢ 10) 13 [] (λ is. omega (arith, is)) (All-nil (λ b. b ≢ 10))) in
    ap lines_of (sym (append_assoc line (13 ∷ []) (10 ∷ []))) ∙ a_line_alone (line ++ 13 ∷ []) no_lf ∙ ap (λ (l : List ℕ). l ∷ []) (strip_one line)

pub run_of_one : (line : List ℕ) → HasNoLf line → IsRun 1 (line ++ 13 ∷ 10 ∷ [])
run_of_one line none = record {
  whole = inr (line ++ 13 ∷ [], sym (append_assoc line (13 ∷ []) (10 ∷ [])));
  count = ap length (one_line line none);
}

-- ---- pages

pub padded : (bytes text : List ℕ) → bytes ≡ text ++ replicate 64 0 → IsPadded bytes
padded bytes text is = record {
  long = omega (arith, ap length is, length-append text (replicate 64 0), length-replicate 64 zero);
  zeros = λ i past. places.padding_behind bytes text i is past;
}

pub begins_still : (text more : List ℕ) (line at : ℕ) → Begins text line at → Begins (text ++ more) line at
begins_still text more line at b = record {
  within = omega (arith, b.within, length-append text more);
  before = subst (IsRun line) (sym (take-append-le at text more b.within)) b.before;
}

pub page_of : (bytes text : List ℕ) (noted : List Place) (count : ℕ) → bytes ≡ text ++ replicate 64 0 → IsRun count text
    → All (λ place. Begins text place.line place.at) noted → IsPage bytes noted count
page_of bytes text noted count is run begin =
    let same : text_in bytes ≡ text = places.text_of_padded bytes text (length bytes) is refl in
    record {
      padded = padded bytes text is;
      run = subst (IsRun count) (sym same) run;
      noted = subst (λ (l : List ℕ). All (λ place. Begins l place.line place.at) noted) (sym same) begin;
    }

pub text_of : (bytes text : List ℕ) → bytes ≡ text ++ replicate 64 0 → text_in bytes ≡ text
text_of bytes text is = places.text_of_padded bytes text (length bytes) is refl

-- a page that gets more whole lines
pub page_more : (old new more : List ℕ) (noted : List Place) (count n : ℕ) → new ≡ (text_in old ++ more) ++ replicate 64 0
    → IsPage old noted count → IsRun n more → IsPage new noted (count + n)
page_more old new more noted count n is page run =
    page_of new (text_in old ++ more) noted (count + n) is (run_more count n (text_in old) more page.run run)
    (All-weaker (λ place. Begins (text_in old) place.line place.at) (λ place. Begins (text_in old ++ more) place.line place.at)
    (λ place b. begins_still (text_in old) more place.line place.at b) noted page.noted)

pub lines_more : (old new more : List ℕ) (noted : List Place) (count : ℕ) → new ≡ (text_in old ++ more) ++ replicate 64 0
    → IsPage old noted count → lines_of (text_in new) ≡ lines_of (text_in old) ++ lines_of more
lines_more old new more noted count is page =
    ap lines_of (text_of new (text_in old ++ more) is) ∙ after_whole_lines (text_in old) more page.run.whole

-- what was put after the text of a page
pub appended : (new kept old more : List ℕ) (n : ℕ) → new ≡ (take (n - 64) kept ++ more) ++ replicate 64 0 → n ≡ length kept → kept ≡ old
    → new ≡ (text_in old ++ more) ++ replicate 64 0
appended new kept old more n is size same =
    is ∙ ap (λ (m : ℕ). (take (m - 64) kept ++ more) ++ replicate 64 0) size ∙ ap (λ (l : List ℕ). (text_in l ++ more) ++ replicate 64 0) same

pub count_is_few : (bytes : List ℕ) (noted : List Place) (count : ℕ) → IsPage bytes noted count → count + 64 ≤ length bytes
count_is_few bytes noted count page =
    omega (arith, page.run.count, lines_are_few (text_in bytes), length-take (length bytes - 64) bytes, page.padded.long)

line_before : (text : List ℕ) (count line at : ℕ) → IsRun count text → Begins text line at → line ≤ count
line_before text count line at run b =
    let split = ap lines_of (sym (take-append-drop at text)) ∙ after_whole_lines (take at text) (drop at text) b.before.whole in
    omega (arith, ap length split, length-append (lines_of (take at text)) (lines_of (drop at text)), run.count, b.before.count)

-- no place is after the last line
pub noted_before : (bytes : List ℕ) (noted : List Place) (count i : ℕ) (d : Place) → IsPage bytes noted count → i < length noted → (get_or noted i d).line ≤ count
noted_before bytes noted count i d page below =
    line_before (text_in bytes) count (get_or noted i d).line (get_or noted i d).at page.run (page.noted i d below)

-- the end of a page is a place
pub note_end : (bytes : List ℕ) (noted : List Place) (count n : ℕ) → n ≡ length bytes → IsPage bytes noted count
    → IsPage bytes (noted ++ record { line = count; at = n - 64 } ∷ []) count
note_end bytes noted count n size page =
    let text : List ℕ = text_in bytes in
    let end : n - 64 ≡ length text = omega (arith, length-take (length bytes - 64) bytes) in
    record {
      padded = page.padded;
      run = page.run;
      noted = All-append (λ place. Begins text place.line place.at) noted (record { line = count; at = n - 64 } ∷ []) page.noted
          (All-cons (λ place. Begins text place.line place.at) (record { line = count; at = n - 64 }) []
          (record {
            within = omega arith;
            before = subst (IsRun count) (sym (take_all (n - 64) text (omega arith))) page.run;
          })
          (All-nil (λ place. Begins text place.line place.at)));
    }

-- ---- on the way

-- the next line lies before the first LF
pub next_is : (bytes : List ℕ) (at end len scanned marks : ℕ) → FoundLine bytes at (length bytes) end scanned marks
    → len ≡ length (strip_carriage_return (slice_range bytes at end))
    → lines_of (text_from at bytes) ≡ slice_range bytes at (at + len) ∷ lines_of (text_from (end + 1) bytes)
next_is bytes at end len scanned marks f size =
    let rest : List ℕ = text_from at bytes in
    let line : List ℕ = strip_carriage_return (slice_range bytes at end) in
    let same : at + len - at ≡ length line = omega (arith, size) in
    ap lines_of f.lf.split ∙ first_line (take (end - at) rest) (drop (end - at + 1) rest) f.lf.piece
    ∙ ap (λ (l : List ℕ). strip_carriage_return l ∷ lines_of (drop (end - at + 1) rest)) f.piece
    ∙ ap (λ (l : List ℕ). line ∷ lines_of l) (sym f.behind)
    ∙ ap (λ (l : List ℕ). l ∷ lines_of (text_from (end + 1) bytes))
    (sym (ap (λ (n : ℕ). take n (drop at bytes)) same ∙ steps.taken_line (drop at bytes) line (end - at) refl))

-- while lines are to come, an LF is known or all was not scanned
pub lf_is_known : (bytes : List ℕ) (at scanned marks far more : ℕ) → AreOnTheWay bytes at scanned marks → 0 < length (lines_of (text_from at bytes))
    → KnowsLfs bytes at far more → (more ≡ 0 → length bytes ≤ far + 64) → more ≢ 0
lf_is_known bytes at scanned marks far more way some known all none =
    let have = length bytes - 64 in
    let seen : KnowsLfs bytes at far 0 = subst (KnowsLfs bytes at far) none known in
    let no_lf = steps.no_lf_in_rest bytes at have (omega (arith, way.within)) (omega arith)
    (λ i from below. places.no_lf_known bytes at far i seen from (omega (arith, all none))) in
    omega (arith, none_without_lf (text_from at bytes) way.whole no_lf)

pub next_found : (bytes : List ℕ) (at scanned marks far more end left : ℕ) → AreOnTheWay bytes at scanned marks → KnowsLfs bytes at far more
    → ((bytes : List ℕ) (at : ℕ) → KnowsLfs bytes at far more → TakesLf bytes at far end left) → FoundLine bytes at (length bytes) end far left
next_found bytes at scanned marks far more end left way known takes =
    steps.found_line bytes at (length bytes) end far left way.within refl way.padded.zeros (takes bytes at known)

-- after the next line
pub way_on : (bytes : List ℕ) (at scanned marks far end left : ℕ) → AreOnTheWay bytes at scanned marks → FoundLine bytes at (length bytes) end far left
    → far ≤ length bytes → 64 ≤ far → AreOnTheWay bytes (end + 1) far left
way_on bytes at scanned marks far end left way f bound block = record {
  padded = way.padded;
  within = omega (arith, f.text);
  whole = subst IsOfWholeLines (sym f.behind) (whole_behind (end - at + 1) (text_from at bytes) (omega (arith, f.lf.within)) way.whole);
  far = bound;
  block = λ _. block;
  known = f.known;
}

-- ---- where a line begins

found_at : (P : Place → Type 0) (passes : Bool) (place : Place) (later : Option Place) (start : Place) → P place → P (unwrap_or later start) → P (unwrap_or (cond passes (Some place) later) start)
found_at P true place later start here behind = here
found_at P false place later start here behind = behind

-- what holds of each place holds of the one that is found
found_has : (P : Place → Type 0) (test : Place → Bool) (noted : List Place) (start : Place) → All P noted → P start → P (unwrap_or (find test noted) start)
found_has P test [] start each first = first
found_has P test (place ∷ noted) start each first =
    found_at P (test place) place (find test noted) start (All-head P place noted each) (found_has P test noted start (All-tail P place noted each) first)

all_reversed : (P : Place → Type 0) (noted : List Place) → All P noted → All P (reverse noted)
all_reversed P noted each k d below =
    let inside : k < length noted = omega (arith, length-reverse noted) in
    subst P (sym (get_or-reverse noted k d inside)) (each (length noted - 1 - k) d (omega arith))

pub last_begins : (test : Place → Bool) (noted : List Place) (text : List ℕ) → All (λ place. Begins text place.line place.at) noted
    → Begins text (unwrap_or (find test (reverse noted)) (record { line = 0; at = 0 })).line (unwrap_or (find test (reverse noted)) (record { line = 0; at = 0 })).at
last_begins test noted text each =
    found_has (λ place. Begins text place.line place.at) test (reverse noted) (record { line = 0; at = 0 })
    (all_reversed (λ place. Begins text place.line place.at) noted each) (record { within = omega arith; before = no_lines })

-- the text after a place of it
behind : (bytes : List ℕ) (at : ℕ) → at + 64 ≤ length bytes → drop at (text_in bytes) ≡ text_from at bytes
behind bytes at within =
    let size : length bytes - 64 ≡ at + (length bytes - 64 - at) = omega arith in
    ap (λ (n : ℕ). drop at (take n bytes)) size ∙ drop-take at (length bytes - 64 - at) bytes

in_bytes : (bytes : List ℕ) (line at : ℕ) → IsPadded bytes → Begins (text_in bytes) line at → at + 64 ≤ length bytes
in_bytes bytes line at pad b = omega (arith, b.within, pad.long, length-take (length bytes - 64) bytes)

pub lines_behind : (text : List ℕ) (line at : ℕ) → Begins text line at → lines_of text ≡ lines_of (take at text) ++ lines_of (drop at text)
lines_behind text line at b = ap lines_of (sym (take-append-drop at text)) ∙ after_whole_lines (take at text) (drop at text) b.before.whole

run_up_to : (bytes : List ℕ) (start from count at : ℕ) → Begins (text_in bytes) start from → from ≤ at → at + 64 ≤ length bytes
    → IsRun count (slice_range bytes from at) → Begins (text_in bytes) (start + count) at
run_up_to bytes start from count at b order within run =
    let place : from + (at - from) ≡ at = omega arith in
    let first : take from (text_in bytes) ≡ take from bytes = take-take from (length bytes - 64) bytes (omega arith) in
    let all : take at (text_in bytes) ≡ take from (text_in bytes) ++ slice_range bytes from at =
    take-take at (length bytes - 64) bytes (omega arith) ∙ sym (ap (λ (n : ℕ). take n bytes) place) ∙ take-add from (at - from) bytes
    ∙ ap (λ (l : List ℕ). l ++ slice_range bytes from at) (sym first) in
    record {
      within = omega (arith, length-take (length bytes - 64) bytes);
      before = subst (IsRun (start + count)) (sym all) (run_more start count (take from (text_in bytes)) (slice_range bytes from at) b.before run);
    }

pub place_found : (bytes : List ℕ) (line start from count at : ℕ) → IsOfWholeLines (text_in bytes) → line ≤ length (lines_of (text_in bytes))
    → Begins (text_in bytes) start from → start ≤ line → count ≤ line - start → from ≤ at → at + 64 ≤ length bytes → IsRun count (slice_range bytes from at)
    → (count < line - start → (i : ℕ) → at ≤ i → i + 64 < length bytes → slice_index bytes i ≢ 10) → Begins (text_in bytes) line at
place_found bytes line start from count at whole few b before most order within run all =
    let text : List ℕ = text_in bytes in
    let here : Begins text (start + count) at = run_up_to bytes start from count at b order within run in
    let same : start + count ≡ line = ⊎_elim
    (λ (less : count < line - start).
    let no_lf = steps.no_lf_in_rest bytes at (length bytes - 64) (omega arith) (omega arith) (λ i past below. all less i past (omega arith)) in
    let none = none_without_lf (text_from at bytes) (subst IsOfWholeLines (behind bytes at within) (whole_behind at text here.within whole)) no_lf in
    absurd (omega (
      arith,
      ap length (lines_behind text (start + count) at here),
      length-append (lines_of (take at text)) (lines_of (drop at text)),
      here.before.count,
      ap (λ (l : List ℕ). length (lines_of l)) (behind bytes at within),
      none,
    )))
    (λ (enough : line - start ≤ count). omega arith)
    (cases_lt count (line - start)) in
    subst (λ (n : ℕ). Begins text n at) same here

-- from a line on
pub way_from : (bytes : List ℕ) (noted : List Place) (count line at : ℕ) → IsPage bytes noted count → Begins (text_in bytes) line at → AreOnTheWay bytes at at 0
way_from bytes noted count line at page b =
    let within : at + 64 ≤ length bytes = in_bytes bytes line at page.padded b in
    record {
      padded = page.padded;
      within = within;
      whole = subst IsOfWholeLines (behind bytes at within) (whole_behind at (text_in bytes) b.within page.run.whole);
      far = omega arith;
      block = λ some. absurd (some refl);
      known = places.known_none bytes at at (omega arith) (λ i from before. absurd (omega arith));
    }

pub rest_from : (bytes : List ℕ) (line at : ℕ) → IsPadded bytes → Begins (text_in bytes) line at → lines_of (text_from at bytes) ≡ drop line (lines_of (text_in bytes))
rest_from bytes line at pad b =
    let text : List ℕ = text_in bytes in
    ap lines_of (sym (behind bytes at (in_bytes bytes line at pad b)))
    ∙ sym (ap (λ (ls : List (List ℕ)). drop line ls) (lines_behind text line at b) ∙ drop_at (lines_of (take at text)) (lines_of (drop at text)) line b.before.count)

-- ---- a page of which the first lines are kept

begins_before : (text : List ℕ) (at line place : ℕ) → place ≤ at → at ≤ length text → Begins text line place → Begins (take at text) line place
begins_before text at line place order within b = record {
  within = omega (arith, length-take at text);
  before = subst (IsRun line) (sym (take-take place at text order)) b.before;
}

-- what is kept of a text
cut_text : (old new : List ℕ) (line at : ℕ) → new ≡ take at old ++ replicate 64 0 → IsPadded old → Begins (text_in old) line at → new ≡ take at (text_in old) ++ replicate 64 0
cut_text old new line at is pad b =
    is ∙ ap (λ (l : List ℕ). l ++ replicate 64 0) (sym (take-take at (length old - 64) old (omega (arith, in_bytes old line at pad b))))

pub page_cut : (old new : List ℕ) (noted kept : List Place) (count line at : ℕ) → new ≡ take at old ++ replicate 64 0 → IsPage old noted count
    → Begins (text_in old) line at → All (λ place. Begins (text_in old) place.line place.at) kept → All (λ place. place.at ≤ at) kept → IsPage new kept line
page_cut old new noted kept count line at is page b each before =
    page_of new (take at (text_in old)) kept line (cut_text old new line at is page.padded b) b.before
    (λ k d below. begins_before (text_in old) at (get_or kept k d).line (get_or kept k d).at (before k d below) b.within (each k d below))

pub lines_cut : (old new : List ℕ) (line at : ℕ) → new ≡ take at old ++ replicate 64 0 → IsPadded old → Begins (text_in old) line at
    → lines_of (text_in new) ≡ take line (lines_of (text_in old))
lines_cut old new line at is pad b =
    let text : List ℕ = text_in old in
    ap lines_of (text_of new (take at text) (cut_text old new line at is pad b))
    ∙ sym (ap (λ (ls : List (List ℕ)). take line ls) (lines_behind text line at b) ∙ take_at (lines_of (take at text)) (lines_of (drop at text)) line b.before.count)
