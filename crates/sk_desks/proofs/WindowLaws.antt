-- Lines that lie in a text, examined one after another.
use Rattle.std.proofs.Common.{◌≡◌, ℕ, ◌+◌, ◌<◌, inl, inr, false, is_err, Result, Ok, Err, OnOk, IfErr, List, [], ◌∷◌, ◌++◌, length, get_or, take, drop, slice_range, All, sym, ap, subst, ◌∙◌, arith, append_assoc, length-append, length-take, take-append-drop}
use Rattle.std.proofs.lemmas.List.{take_more, map-append, length-map}
use Rattle.std.proofs.lemmas.List.Elements.{All-append}
use Rattle.sk_lines.specs.Spans.{lines_at}
use Rattle.sk_lines.specs.declared.spans.Span.{Span}
use Rattle.sk_label.specs.declared.fault.LabelFault.{LabelFault}
use Rattle.sk_desks.specs.Gathers.{IsOfTenant, RefusesAs, StopsWithin}
use Rattle.sk_desks.proofs.ClerkLaws.{whole_line}

-- a span past the end of spans
abbrev pub no_bytes : Span
no_bytes = record { from = 0; to = 0 }

-- ---- one line more

module _ (text : List ℕ) (spans : List Span) (i : ℕ) (d : Span) (within : i < length spans) where
  pub lines_more : lines_at (take (i + 1) spans) text ≡ lines_at (take i spans) text ++ slice_range text (get_or spans i d).from (get_or spans i d).to ∷ []
  lines_more = ap (λ (ss : List Span). lines_at ss text) (take_more spans i d within)
      ∙ map-append (λ (span : Span). slice_range text span.from span.to) (take i spans) (get_or spans i d ∷ [])

  pub refused_among : (names : List (List ℕ)) (first : ℕ) (why : LabelFault) → All (IsOfTenant names) (lines_at (take i spans) text) →
      RefusesAs names (slice_range text (get_or spans i d).from (get_or spans i d).to) (first + i) why → StopsWithin names (lines_at spans text) first why
  refused_among names first why fine refused =
      let line : List ℕ = slice_range text (get_or spans i d).from (get_or spans i d).to in
      let before : List (List ℕ) = lines_at (take i spans) text in
      let rest : List (List ℕ) = lines_at (drop (i + 1) spans) text in
      let size : length before ≡ i = length-map (take i spans) (λ (span : Span). slice_range text span.from span.to) ∙ omega (arith, within, length-take i spans) in
      inr (record {
        before = before;
        line = line;
        begins = (
          rest,
          ap (λ (ss : List Span). lines_at ss text) (sym (take-append-drop (i + 1) spans))
              ∙ map-append (λ (span : Span). slice_range text span.from span.to) (take (i + 1) spans) (drop (i + 1) spans)
              ∙ ap (λ (l : List (List ℕ)). l ++ rest) lines_more,
        );
        fine = fine;
        refused = subst (λ (n : ℕ). RefusesAs names line (first + n) why) (sym size) refused;
      })

-- a line that is a text of its own
pub refused_alone : (names : List (List ℕ)) (line : List ℕ) (n : ℕ) (why : LabelFault) → RefusesAs names (slice_range line 0 (length line)) n why → StopsWithin names (line ∷ []) n why
refused_alone names line n why refused =
    let all : Span = record { from = 0; to = length line } in
    let here : n ≡ n + 0 = omega arith in
    subst (λ (l : List ℕ). StopsWithin names (l ∷ []) n why) (whole_line line)
    (refused_among line (all ∷ []) 0 all (omega arith) names n why (λ k d inside. absurd (omega (arith, inside))) (subst (λ (m : ℕ). RefusesAs names (slice_range line 0 (length line)) m why) here refused))

-- ---- what a result says

pub ok_of : {T E P : Type 0} (r : Result T E) → is_err r ≡ false → OnOk r P → P
ok_of (Ok x) is p = p
ok_of (Err e) is p = cc

pub if_err_so : {T E : Type 0} (P Q : E → Type 0) (r : Result T E) → ((e : E) → P e → Q e) → IfErr r P → IfErr r Q
if_err_so P Q (Ok x) so p = tt
if_err_so P Q (Err e) so p = so e p

-- ---- lines that were examined after others

-- of lines the first were fine, and of the next one is refused, or memory ran out
pub stops_after : (names lines before group rest : List (List ℕ)) (first done : ℕ) (why : LabelFault) → lines ≡ before ++ (group ++ rest) → length before ≡ done → All (IsOfTenant names) before → StopsWithin names group (first + done) why → StopsWithin names lines first why
stops_after names lines before group rest first done why is size fine (inl memory) = inl memory
stops_after names lines before group rest first done why is size fine (inr r) = inr (record {
  before = before ++ r.before;
  line = r.line;
  begins = (
    r.begins.0 ++ rest,
    is ∙ ap (λ (ls : List (List ℕ)). before ++ (ls ++ rest)) r.begins.1 ∙ ap (λ (ls : List (List ℕ)). before ++ ls) (append_assoc (r.before ++ r.line ∷ []) r.begins.0 rest)
        ∙ sym (append_assoc before (r.before ++ r.line ∷ []) (r.begins.0 ++ rest)) ∙ ap (λ (ls : List (List ℕ)). ls ++ (r.begins.0 ++ rest)) (sym (append_assoc before r.before (r.line ∷ []))),
  );
  fine = All-append (IsOfTenant names) before r.before fine r.fine;
  refused = subst (λ (n : ℕ). RefusesAs names r.line n why) (omega (arith, size, length-append before r.before)) r.refused;
})
