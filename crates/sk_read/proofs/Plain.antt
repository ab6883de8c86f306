-- Texts without a quote.
use Rattle.std.proofs.Common.{◌≡◌, ◌≢◌, ◌==◌, ℕ, ◌+◌, ◌-◌, ◌<◌, ◌≤◌, Bool, true, false, List, [], ◌∷◌, ◌++◌, length, take, drop, get_or, All, refl, sym, ap, ◌∙◌, subst, inl, inr, arith, take-append-drop}
use Rattle.std.proofs.lemmas.Bool.{cases_Bool, eqb-true, ne_eqb, false≢true}
use Rattle.std.proofs.lemmas.List.{take_more, take_all, length-take-le}
use Rattle.std.proofs.lemmas.List.Elements.{All-cons, All-head, All-tail, All-take, All-drop}
use Rattle.csv.specs.Machine.{step}
use Rattle.csv.specs.Reading.{default_config}
use Rattle.csv.specs.declared.parser.State.{State}
use Rattle.csv.specs.declared.parser.State.TheVariants as st
use Rattle.sk_read.specs.declared.records.scan.ScanState.{ScanState}
use Rattle.sk_read.specs.declared.records.scan.ScanState.TheVariants as scan
use Rattle.sk_read.specs.Scan.{IsEnd, state_of, settled, is_inside, state_after, StaysInside, IsCut}
use Rattle.sk_read.proofs.Steps.{after_cr, inside_settled, in_field}
use Rattle.sk_read.proofs.Cuts.{after_append, after_byte, after_none, cut_none}

-- a state outside quotes
abbrev pub is_unquoted : State → Bool
is_unquoted st.StartRecord = true
is_unquoted st.AfterCr = true
is_unquoted st.StartField = true
is_unquoted st.InField = true
is_unquoted st.AfterQuote = true
is_unquoted _ = false

abbrev pub IsNoQuote : ℕ → Type 0
IsNoQuote c = c ≢ 34

pub unquoted_settled : (s : State) → is_unquoted (settled s) ≡ is_unquoted s
unquoted_settled st.AfterCr = refl
unquoted_settled s = refl

-- a byte that is no quote does outside quotes what it does in a field
abbrev pub GoesPlain : State → ℕ → Type 0
GoesPlain s c = (settled (step default_config s c).0 ≡ settled (step default_config st.InField c).0) × (is_unquoted (step default_config s c).0 ≡ true)

pub field_plain : (c : ℕ) → is_unquoted (step default_config st.InField c).0 ≡ true
field_plain c = elim (cases_Bool (c == 44)) [
  | inl comma ↦ rw comma refl
  | inr no_comma ↦ elim (cases_Bool (c == 13)) [
    | inl cr ↦ rw (no_comma, cr) refl
    | inr no_cr ↦ elim (cases_Bool (c == 10)) [
      | inl lf ↦ rw (no_comma, no_cr, lf) refl
      | inr no_lf ↦ rw (no_comma, no_cr, no_lf) refl
    ]
  ]
]

record_plain : (c : ℕ) → (c == 34) ≡ false → GoesPlain st.StartRecord c
record_plain c no_quote = elim (cases_Bool (c == 13)) [
  | inl cr ↦ subst (GoesPlain st.StartRecord) (sym (eqb-true c 13 cr)) (refl, refl)
  | inr no_cr ↦ elim (cases_Bool (c == 10)) [
    | inl lf ↦ subst (GoesPlain st.StartRecord) (sym (eqb-true c 10 lf)) (refl, refl)
    | inr no_lf ↦ elim (cases_Bool (c == 44)) [
      | inl comma ↦ rw (no_cr, no_lf, no_quote, comma) (refl, refl)
      | inr no_comma ↦ rw (no_cr, no_lf, no_quote, no_comma) (refl, refl)
    ]
  ]
]

pub step_plain : (s : State) (c : ℕ) → is_unquoted s ≡ true → (c == 34) ≡ false → GoesPlain s c
step_plain st.StartRecord c plain no_quote = record_plain c no_quote
step_plain st.AfterCr c plain no_quote = rw (after_cr c) (record_plain c no_quote)
step_plain st.StartField c plain no_quote = rw no_quote (refl, field_plain c)
step_plain st.InField c plain no_quote = (refl, field_plain c)
step_plain st.AfterQuote c plain no_quote = rw no_quote (refl, field_plain c)
step_plain s c plain no_quote = absurd (false≢true plain)

-- outside quotes it stays there
plain_after : (s : State) (xs : List ℕ) → is_unquoted s ≡ true → All IsNoQuote xs → is_unquoted (state_after s xs) ≡ true
unfolding state_after
plain_after s [] plain none = unquoted_settled s ∙ plain
plain_after s (c ∷ rest) plain none =
    plain_after (step default_config s c).0 rest (step_plain s c plain (ne_eqb c 34 (All-head IsNoQuote c rest none))).1 (All-tail IsNoQuote c rest none)

-- the last byte shows the state
plain_last : (s : State) (xs : List ℕ) (c : ℕ) → is_unquoted s ≡ true → All IsNoQuote xs → c ≢ 34 → state_after s (xs ++ c ∷ []) ≡ settled (step default_config st.InField c).0
plain_last s xs c plain none other =
    after_append s xs (c ∷ []) ∙ after_byte (state_after s xs) c ∙ (step_plain (state_after s xs) c (plain_after s xs plain none) (ne_eqb c 34 other)).0

pub inside_plain : (c : ℕ) → ¬ IsEnd c → is_inside (settled (step default_config st.InField c).0) ≡ true
inside_plain c other = elim (in_field c) [
  | inl ends ↦ absurd (other ends.0)
  | inr stays ↦ inside_settled (step default_config st.InField c).0 ∙ stays.1
]

-- without an LF or CR no record ends
plain_stays : (s : State) (xs : List ℕ) → is_unquoted s ≡ true → All IsNoQuote xs → All (λ (c : ℕ). ¬ IsEnd c) xs → StaysInside s xs
unfolding StaysInside
plain_stays s [] plain none going = tt
plain_stays s (c ∷ rest) plain none going =
    let goes = step_plain s c plain (ne_eqb c 34 (All-head IsNoQuote c rest none)) in
    let inside = inside_plain c (All-head (λ (x : ℕ). ¬ IsEnd x) c rest going) in (
      sym (inside_settled (step default_config s c).0) ∙ ap is_inside goes.0 ∙ inside,
      plain_stays (step default_config s c).0 rest goes.1 (All-tail IsNoQuote c rest none) (All-tail (λ (x : ℕ). ¬ IsEnd x) c rest going),
    )

pub quoted_goes : (c : ℕ) → c ≢ 34 → (step default_config st.InQuoted c).0 ≡ st.InQuoted
quoted_goes c other = rw (ne_eqb c 34 other) refl

quoted_after : (xs : List ℕ) → All IsNoQuote xs → state_after st.InQuoted xs ≡ st.InQuoted
unfolding state_after
quoted_after [] none = refl
quoted_after (c ∷ rest) none =
    ap (λ (s : State). state_after s rest) (quoted_goes c (All-head IsNoQuote c rest none)) ∙ quoted_after rest (All-tail IsNoQuote c rest none)

quoted_stays : (xs : List ℕ) → All IsNoQuote xs → StaysInside st.InQuoted xs
unfolding StaysInside
quoted_stays [] none = tt
quoted_stays (c ∷ rest) none =
    let goes = quoted_goes c (All-head IsNoQuote c rest none) in
    (ap is_inside goes, subst (λ (s : State). StaysInside s rest) (sym goes) (quoted_stays rest (All-tail IsNoQuote c rest none)))

-- between quotes nothing is cut
pub cut_quoted : (xs : List ℕ) → All IsNoQuote xs → IsCut st.InQuoted xs st.InQuoted 0
cut_quoted xs none = record {
  front = [];
  back = xs;
  joined = refl;
  size = refl;
  between = λ some. absurd (omega (arith, some));
  inside = subst (λ (s : State). StaysInside s xs) (sym (after_none st.InQuoted)) (quoted_stays xs none);
  ends = sym (quoted_after xs none);
}

pub end_between : (c : ℕ) → IsEnd c → settled (step default_config st.InField c).0 ≡ st.StartRecord
end_between c (inl lf) = subst (λ (b : ℕ). settled (step default_config st.InField b).0 ≡ st.StartRecord) (sym lf) refl
end_between c (inr cr) = subst (λ (b : ℕ). settled (step default_config st.InField b).0 ≡ st.StartRecord) (sym cr) refl

front_of : (ys : List ℕ) (c : ℕ) → All IsNoQuote (ys ++ c ∷ []) → All IsNoQuote ys
front_of [] c all = λ k d below. absurd (omega arith)
front_of (y ∷ ys) c all = All-cons IsNoQuote y ys (All-head IsNoQuote y (ys ++ c ∷ []) all) (front_of ys c (All-tail IsNoQuote y (ys ++ c ∷ []) all))

last_of : (ys : List ℕ) (c : ℕ) → All IsNoQuote (ys ++ c ∷ []) → c ≢ 34
last_of [] c all = All-head IsNoQuote c [] all
last_of (y ∷ ys) c all = last_of ys c (All-tail IsNoQuote y (ys ++ c ∷ []) all)

-- outside quotes the cut lies after the last LF or CR
cut_plain : (s : State) (xs init : List ℕ) (last n : ℕ) → is_unquoted s ≡ true → All IsNoQuote xs → xs ≡ init ++ last ∷ [] → n ≤ length xs → (0 < n → IsEnd (get_or xs (n - 1) 0)) →
    All (λ (c : ℕ). ¬ IsEnd c) (drop n xs) → IsCut s xs (settled (step default_config st.InField last).0) n
cut_plain s xs init last n plain none whole fits end after =
    let front_none = All-take IsNoQuote n xs none in
    let shown = subst (All IsNoQuote) whole none in
    record {
      front = take n xs;
      back = drop n xs;
      joined = sym (take-append-drop n xs);
      size = length-take-le n xs fits;
      between = λ some.
          let more : n - 1 + 1 ≡ n = omega (arith, some) in
          let split : take n xs ≡ take (n - 1) xs ++ get_or xs (n - 1) 0 ∷ [] = ap (λ (m : ℕ). take m xs) (sym more) ∙ take_more xs (n - 1) 0 (omega (arith, some, fits)) in
          ap (state_after s) split ∙ plain_last s (take (n - 1) xs) (get_or xs (n - 1) 0) plain (All-take IsNoQuote (n - 1) xs none) (none (n - 1) 0 (omega (arith, some, fits))) ∙ end_between (get_or xs (n - 1) 0) (end some);
      inside = plain_stays (state_after s (take n xs)) (drop n xs) (plain_after s (take n xs) plain front_none) (All-drop IsNoQuote n xs none) after;
      ends = sym (ap (state_after s) whole ∙ plain_last s init last plain (front_of init last shown) (last_of init last shown));
    }

-- a place outside quotes
place_unquoted : (p : ScanState) → p ≢ scan.InQuotes → is_unquoted (state_of p) ≡ true
place_unquoted scan.Between other = refl
place_unquoted scan.FieldStart other = refl
place_unquoted scan.InField other = refl
place_unquoted scan.InQuotes other = absurd (other refl)
place_unquoted scan.AfterQuote other = refl

-- after a quote it stands inside a record
pub quote_inside : (p : ScanState) → is_inside (settled (step default_config (state_of p) 34).0) ≡ true
quote_inside scan.Between = refl
quote_inside scan.FieldStart = refl
quote_inside scan.InField = refl
quote_inside scan.InQuotes = refl
quote_inside scan.AfterQuote = refl

-- the same by the place of the last byte
pub cut_by_last : (p : ScanState) (xs : List ℕ) (next : State) (n : ℕ) → p ≢ scan.InQuotes → All IsNoQuote xs → 0 < length xs → next ≡ settled (step default_config st.InField (get_or xs (length xs - 1) 0)).0 → n ≤ length xs →
    (0 < n → IsEnd (get_or xs (n - 1) 0)) → All (λ (c : ℕ). ¬ IsEnd c) (drop n xs) → IsCut (state_of p) xs next n
cut_by_last p xs next n other none some goes fits end after =
    let size : length xs - 1 + 1 ≡ length xs = omega (arith, some) in
    let whole : xs ≡ take (length xs - 1) xs ++ get_or xs (length xs - 1) 0 ∷ [] =
    sym (take_all (length xs) xs (omega arith)) ∙ ap (λ (m : ℕ). take m xs) (sym size) ∙ take_more xs (length xs - 1) 0 (omega (arith, some)) in
    subst (λ (s : State). IsCut (state_of p) xs s n) (sym goes)
    (cut_plain (state_of p) xs (take (length xs - 1) xs) (get_or xs (length xs - 1) 0) n (place_unquoted p other) none whole fits end after)

pub cut_empty : (p : ScanState) (xs : List ℕ) → length xs ≡ 0 → IsCut (state_of p) xs (state_of p) 0
cut_empty p [] none = cut_none p
cut_empty p (x ∷ xs) none = absurd (omega (arith, none))
