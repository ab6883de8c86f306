-- The lines of a window: those of its page, and those after them that lie in its text.
use Rattle.std.proofs.Common.{◌≡◌, ◌≢◌, ℕ, suc, ◌+◌, ◌-◌, ◌<◌, ◌≤◌, ◌==◌, nat_le, false, Result, Ok, Err, OnOk, OnErr, List, [], ◌∷◌, ◌++◌, length, take, drop, slice_range, refl, sym, ap, ◌∙◌, subst, arith, length-append, length-take, length-drop, append-nil, append_assoc, take-append-drop, take_at}
use Rattle.std.specs.List.{concat}
use Rattle.std.proofs.lemmas.Bool.{eqb-false, or_parts}
use Rattle.std.proofs.lemmas.List.{nil_from_length, drop-append-le, take-append-le, drop_at, take_all, map-append, map_push, length-map, drop-map}
use Rattle.std.proofs.Math.Seq.{drop-length, drop-append-add}
use Rattle.std.proofs.lemmas.List.Elements.{All-push}
use Rattle.std.proofs.lemmas.List.Folds.{concat-append}
use Rattle.sk_fill.specs.Pages.{PageState}
use Rattle.sk_lines.specs.Spans.{AreBehind, lines_at}
use Rattle.sk_lines.specs.declared.spans.Span.{Span}
use Rattle.sk_fill.specs.Windows.{full_bytes, fills, IsWindow}

-- ---- bytes of lines

pub concat_more : (lines more : List (List ℕ)) → length (concat (lines ++ more)) ≡ length (concat lines) + length (concat more)
concat_more lines more = ap length (concat-append lines more) ∙ length-append (concat lines) (concat more)

-- one line less to come
module _ (rest rest' : List (List ℕ)) (text : List ℕ) (from to : ℕ) (is : rest ≡ slice_range text from to ∷ rest') where
  pub fewer_lines : length rest ≡ length rest' + 1
  fewer_lines = omega (arith, ap length is)

  pub fewer_bytes : from ≤ to → to ≤ length text → length (concat rest) ≡ (to - from) + length (concat rest')
  fewer_bytes order within =
      omega (arith, ap (λ ls. length (concat ls)) is, length-append (slice_range text from to) (concat rest'), length-take (to - from) (drop from text), length-drop from text)

pub no_bytes : (rest : List (List ℕ)) → length rest ≡ 0 → length (concat rest) ≡ 0
no_bytes [] none = refl
no_bytes (line ∷ rest) none = absurd (omega (arith, none))

-- ---- lines that lie in a text

-- a piece that ends within a text stays
range_stays : (text more : List ℕ) (from to : ℕ) → from ≤ to → to ≤ length text → slice_range (text ++ more) from to ≡ slice_range text from to
range_stays text more from to le within =
    let inside : from ≤ length text = omega arith in
    let short : to - from ≤ length (drop from text) = omega (arith, length-drop from text) in
    ap (take (to - from)) (drop-append-le from text more inside) ∙ take-append-le (to - from) (drop from text) more short

-- the lines stay where the text grows
lines_stay : (spans : List Span) (text more : List ℕ) → AreBehind 0 spans text → lines_at spans (text ++ more) ≡ lines_at spans text
lines_stay [] text more within = refl
lines_stay (span ∷ spans) text more within =
    let here = within 0 span (omega arith) in
    ap (λ l. l ∷ lines_at spans (text ++ more)) (range_stays text more span.from span.to here.1 here.2)
    ∙ ap (λ ls. slice_range text span.from span.to ∷ ls) (lines_stay spans text more (λ k d below. within (suc k) d (omega arith)))

-- the line that lies after a text
line_behind : (text line : List ℕ) → slice_range (text ++ line) (length text) (length text + length line) ≡ line
line_behind text line =
    let count : length text + length line - length text ≡ length line = omega arith in
    ap (λ n. take n (drop (length text) (text ++ line))) count
    ∙ ap (take (length line)) (drop_at text line (length text) refl) ∙ take_all (length line) line (omega arith)

pub count_at : (spans : List Span) (text : List ℕ) → length (lines_at spans text) ≡ length spans
count_at spans text = length-map spans (λ (span : Span). slice_range text span.from span.to)

-- the lines from a place on that lies after those of the page
pub lines_behind : (page : PageState) (spans all : List Span) (text bytes : List ℕ) (first : List (List ℕ)) (lines place : ℕ) → lines ≡ length page.lines → first ≡ drop lines page.lines → all ≡ spans → bytes ≡ text → lines ≤ place
    → first ++ lines_at (take (length all - (place - lines)) (drop (place - lines) all)) bytes ≡ drop place (page.lines ++ lines_at spans text)
lines_behind page spans all text bytes first lines place count rest same_spans same_text behind =
    let n = place - lines in
    let sum : length page.lines + n ≡ place = omega arith in
    ap (λ ls. ls ++ lines_at (take (length all - n) (drop n all)) bytes) (rest ∙ ap (λ k. drop k page.lines) count ∙ drop-length page.lines)
    ∙ ap (λ s. lines_at s bytes) (take_all (length all - n) (drop n all) (omega (arith, length-drop n all)) ∙ ap (drop n) same_spans)
    ∙ ap (lines_at (drop n spans)) same_text
    ∙ sym (drop-map (λ (span : Span). slice_range text span.from span.to) n spans)
    ∙ sym (drop-append-add page.lines (lines_at spans text) n)
    ∙ ap (λ k. drop k (page.lines ++ lines_at spans text)) sum

-- the first of lines that lie in a text, after a page that is at its end
pub lines_apart : (page : List (List ℕ)) (spans front back : List Span) (text : List ℕ) (n : ℕ) → length page ≡ 0 → front ≡ take n spans → n ≤ length spans
    → page ++ lines_at spans text ≡ lines_at (take n (front ++ back)) text ++ (page ++ lines_at (take (length spans - n) (drop n spans)) text)
lines_apart [] spans front back text n end is few =
    let count : length front ≡ n = omega (arith, ap length is, length-take n spans) in
    let line = λ (span : Span). slice_range text span.from span.to in
    ap (λ s. lines_at s text) (sym (take-append-drop n spans)) ∙ map-append line (take n spans) (drop n spans)
    ∙ ap (λ s. lines_at s text ++ lines_at (drop n spans) text) (sym (take_at front back n count ∙ is))
    ∙ ap (λ s. lines_at (take n (front ++ back)) text ++ lines_at s text) (sym (take_all (length spans - n) (drop n spans) (omega (arith, length-drop n spans))))
lines_apart (line ∷ page) spans front back text n end is few = absurd (omega (arith, end))

-- ---- how many bytes its lines have

module _ (page : PageState) (page_bytes most : ℕ) (spans : List Span) (text : List ℕ) (window : IsWindow page page_bytes spans most text) where
  pub all_bytes : length (concat (page.lines ++ lines_at spans text)) ≡ length (concat page.lines) + length text
  all_bytes = omega (arith, concat_more page.lines (lines_at spans text), window.joined)

  pub bytes_counted : 0 < length spans → length (concat (page.lines ++ lines_at spans text)) ≡ page_bytes + length text
  bytes_counted some = omega (arith, all_bytes, window.bytes some)

  pub no_text : length spans ≡ 0 → length text ≡ 0
  no_text none = omega (arith, window.joined, no_bytes (lines_at spans text) (omega (arith, count_at spans text, none)))

  pub bytes_of_page : length spans ≡ 0 → length (concat (page.lines ++ lines_at spans text)) ≡ length (concat page.lines)
  bytes_of_page none = omega (arith, all_bytes, no_text none)

-- ---- one line more after a text

module _ (page : PageState) (page_bytes most : ℕ) (spans spans' : List Span) (text line : List ℕ) (window : IsWindow page page_bytes spans most text) (one : spans' ≡ spans ++ record { from = length text; to = length text + length line } ∷ []) where
  texts_more : lines_at spans' (text ++ line) ≡ lines_at spans text ++ line ∷ []
  texts_more =
      ap (λ l. lines_at l (text ++ line)) one ∙ map_push (λ (span : Span). slice_range (text ++ line) span.from span.to) spans (record { from = length text; to = length text + length line })
      ∙ ap (λ l. lines_at spans (text ++ line) ++ l ∷ []) (line_behind text line)
      ∙ ap (λ ls. ls ++ line ∷ []) (lines_stay spans text line window.within)

  pub lines_more : page.lines ++ lines_at spans' (text ++ line) ≡ (page.lines ++ lines_at spans text) ++ line ∷ []
  lines_more = ap (λ ls. page.lines ++ ls) texts_more ∙ sym (append_assoc page.lines (lines_at spans text) (line ∷ []))

  pub window_more : (page_bytes' : ℕ) → fills most (page.lines ++ lines_at spans text) ≡ false → page_bytes' ≡ length (concat page.lines) → IsWindow page page_bytes' spans' most (text ++ line)
  window_more page_bytes' room bytes =
      let longer : length (text ++ line) ≡ length text + length line = length-append text line in
      let lines = page.lines ++ lines_at spans text in
      let parts = or_parts (length lines == most) (nat_le full_bytes (length (concat lines))) room in
      let fewer : length lines ≢ most = eqb-false (length lines) most parts.0 in
      let count : length spans' ≡ length spans + 1 = ap length one ∙ length-append spans (record { from = length text; to = length text + length line } ∷ []) in
      let same : length lines ≡ length page.lines + length spans = length-append page.lines (lines_at spans text) ∙ ap (λ n. length page.lines + n) (count_at spans text) in
      let few = window.count in
      record {
        within = subst (λ s. AreBehind 0 s (text ++ line)) (sym one)
            (All-push (λ (span : Span). (0 ≤ span.from) × (span.from ≤ span.to) × (span.to ≤ length (text ++ line))) spans _
            (λ k d below. let old = window.within k d below in (old.0, old.1, omega (arith, longer, old.2))) (omega arith, omega arith, omega (arith, longer)));
        joined = omega (arith, longer, window.joined, ap (λ ls. length (concat ls)) texts_more, concat_more (lines_at spans text) (line ∷ []), ap length (append-nil line));
        least = window.least;
        highest = window.highest;
        count = omega (arith, count, same, fewer, few);
        small = window.small;
        bytes = λ some. bytes;
      }

-- ---- a window without lines, that has a page in the place of its own

module _ (page new : PageState) (page_bytes : ℕ) (spans : List Span) (most : ℕ) (text : List ℕ) (window : IsWindow page page_bytes spans most text) (none : page.lines ++ lines_at spans text ≡ []) where
  no_spans : length spans ≡ 0
  no_spans = omega (arith, ap length none, length-append page.lines (lines_at spans text), count_at spans text)

  turned : length new.lines ≤ most → new.size < full_bytes → IsWindow new page_bytes spans most text
  turned few small = record {
    within = window.within;
    joined = window.joined;
    least = window.least;
    highest = window.highest;
    count = omega (arith, few, no_spans);
    small = small;
    bytes = λ some. absurd (omega (arith, some, no_spans));
  }

  -- its own stays where memory was short
  pub window_turned : {A E : Type 0} (result : Result A E) (lines : List (List ℕ)) (size : ℕ) → length lines ≤ most → size < full_bytes → OnOk result (new.lines ≡ lines) → OnOk result (new.size ≡ size) → OnErr result (new ≡ page) → IsWindow new page_bytes spans most text
  window_turned (Ok x) lines size few small is sized same = turned (omega (arith, few, ap length is)) (omega (arith, small, sized))
  window_turned (Err e) lines size few small is sized same = subst (λ (p : PageState). IsWindow p page_bytes spans most text) (sym same) window

  lines_alone : new.lines ++ lines_at spans text ≡ new.lines
  lines_alone = ap (λ (ls : List (List ℕ)). new.lines ++ ls) (nil_from_length (lines_at spans text) (count_at spans text ∙ no_spans)) ∙ append-nil new.lines

  pub lines_turned : {A E : Type 0} (result : Result A E) (lines : List (List ℕ)) → OnOk result (new.lines ≡ lines) → OnOk result (new.lines ++ lines_at spans text ≡ lines)
  lines_turned (Ok x) lines is = lines_alone ∙ is
  lines_turned (Err e) lines is = tt

  pub none_kept : {A E : Type 0} (result : Result A E) → OnErr result (new ≡ page) → OnErr result (new.lines ++ lines_at spans text ≡ [])
  none_kept (Ok x) same = tt
  none_kept (Err e) same = ap (λ (p : PageState). p.lines ++ lines_at spans text) same ∙ none
