-- A whole text, as one that may go on.
use Rattle.std.proofs.Common.{◌≡◌, ◌==◌, ◌⊎◌, inl, inr, ℕ, suc, ◌-◌, ◌<◌, ◌≤◌, Bool, true, false, List, [], ◌∷◌, ◌++◌, length, take, All, refl, sym, ap, ◌∙◌, subst, arith, append_assoc, append-nil, length-append}
use Rattle.std.proofs.lemmas.Bool.{cases_Bool}
use Rattle.std.proofs.Math.Seq.{take-append_seam}
use Rattle.std.proofs.lemmas.List.Elements.{All-nil, All-cons, All-append}
use Rattle.std.specs.Str.Lines.{strip_carriage_return}
use Rattle.csv.specs.Machine.{step, is_end}
use Rattle.csv.specs.Reading.{default_config, records, strip_bom, is_bom}
use Rattle.csv.specs.declared.parser.Action.{Action}
use Rattle.csv.specs.declared.parser.State.{State}
use Rattle.csv.specs.declared.parser.State.TheVariants as st
use Rattle.sk_model.specs.Limits.{line_limit}
use Rattle.sk_model.specs.Lines.{lines_of, open_lines_of, AreWithin}
use Rattle.sk_model.specs.Missing.{Begins}
use Rattle.sk_model.proofs.Lines.{Torn, torn, open_lines_torn, more_lines_torn, open_lines_stay, a_last_piece, length-strip}
use Rattle.sk_model.proofs.Missing.{begins_front}
use Rattle.sk_read.specs.Records.{Row, records_of, open_records_of, complete_records_of, fields_in, field_of}
use Rattle.sk_read.specs.Scan.{settled, is_inside, state_after, StaysInside}
use Rattle.sk_read.specs.Units.{units_of, complete_units_of, IsSound, IsSoundSoFar}
use Rattle.sk_read.specs.declared.units.Units.{Units}
use Rattle.sk_read.specs.declared.units.Units.TheVariants.{Lines, Column}
use Rattle.sk_read.proofs.RecordEnds.{sound_begins}
use Rattle.sk_read.proofs.Runs.{records_append, open_is_one}
use Rattle.sk_read.proofs.Steps.{settled_goes_on, between_goes_on, ends_between, stays_inside}
use Rattle.std.proofs.lemmas.List.{map-append}

-- ---- records

-- a text in two: up to a place between two records, and what stays inside one
record Split (s : State) (text : List ℕ) : Type 0 where
  front : List ℕ
  back : List ℕ
  joined : text ≡ front ++ back
  between : state_after s front ≡ st.StartRecord
  inside : StaysInside st.StartRecord back

-- inside a record, or between two
abbrev IsTidy : State → Type 0
IsTidy s = (is_inside s ≡ true) ⊎ (settled s ≡ st.StartRecord)

next_tidy : (s : State) (c : ℕ) → IsTidy s → IsTidy (step default_config s c).0
next_tidy s c (inr between) = elim (between_goes_on s c between) [
  | inl begins ↦ inl begins.1
  | inr skips ↦ inr (ap (λ (p : State × Action). settled p.0) skips.1)
]
next_tidy s c (inl inside) = by (is_end (step default_config s c).1) refl
  where
    by : (b : Bool) → is_end (step default_config s c).1 ≡ b → IsTidy (step default_config s c).0
    by true ends = inr (ends_between s c ends)
    by false goes = inl (stays_inside s c inside goes)

stays_settled : (s : State) (xs : List ℕ) → StaysInside s xs → StaysInside (settled s) xs
unfolding StaysInside
stays_settled s [] stays = tt
stays_settled s (c ∷ rest) stays = rw (settled_goes_on s c) stays

split_from : (s : State) (xs : List ℕ) → IsTidy s → StaysInside s xs ⊎ Split s xs
unfolding StaysInside state_after
split_from s [] tidy = inl tt
split_from s (c ∷ rest) tidy = by (next_tidy s c tidy) (split_from (step default_config s c).0 rest (next_tidy s c tidy))
  where
    by : IsTidy (step default_config s c).0 → StaysInside (step default_config s c).0 rest ⊎ Split (step default_config s c).0 rest → StaysInside s (c ∷ rest) ⊎ Split s (c ∷ rest)
    by is (inr later) = inr (record { front = c ∷ later.front; back = later.back; joined = ap (λ (l : List ℕ). c ∷ l) later.joined; between = later.between; inside = later.inside })
    by (inl inside) (inl stays) = inl (inside, stays)
    by (inr between) (inl stays) =
        inr (record { front = c ∷ []; back = rest; joined = refl; between = between; inside = subst (λ (t : State). StaysInside t rest) between (stays_settled (step default_config s c).0 rest stays) })

split : (text : List ℕ) → Split st.StartRecord text
unfolding state_after
split text = by (split_from st.StartRecord text (inr refl))
  where
    by : StaysInside st.StartRecord text ⊎ Split st.StartRecord text → Split st.StartRecord text
    by (inl stays) = record { front = []; back = text; joined = refl; between = refl; inside = stays }
    by (inr is) = is

-- one byte more changes no mark at the start
mark_stays : (text : List ℕ) → strip_bom (text ++ 120 ∷ []) ≡ strip_bom text ++ 120 ∷ []
unfolding strip_bom
mark_stays [] = refl
mark_stays (a ∷ []) = refl
mark_stays (a ∷ b ∷ []) = elim (cases_Bool (a == 0xEF)) [
  | inr differs ↦ rw differs refl
  | inl first ↦ elim (cases_Bool (b == 0xBB)) [
    | inr differs ↦ rw (first, differs) refl
    | inl also ↦ rw (first, also) refl
  ]
]
mark_stays (a ∷ b ∷ c ∷ rest) = elim (cases_Bool (is_bom a b c)) [
  | inl is ↦ rw is refl
  | inr other ↦ rw other refl
]

without_last : (rows : List Row) (row : Row) → take (length (rows ++ row ∷ []) - 1) (rows ++ row ∷ []) ≡ rows
without_last rows row =
    let place : length (rows ++ row ∷ []) - 1 ≡ length rows = omega (arith, length-append rows (row ∷ [])) in
    ap (λ (n : ℕ). take n (rows ++ row ∷ [])) place ∙ take-append_seam rows (row ∷ [])

-- the records that have ended in a text are its first ones
pub records_begin : (text : List ℕ) → Begins (complete_records_of text) (records_of text)
unfolding records_of
records_begin text =
    let s = split (strip_bom text) in
    let last = open_is_one s.back s.inside in
    let all : records_of text ≡ records default_config s.front ++ records default_config s.back =
    ap (records default_config) s.joined ∙ records_append s.front s.back s.between in
    let opened : open_records_of text ≡ records default_config s.front ++ last.0 ∷ [] =
    ap (records default_config) (mark_stays text ∙ ap (λ (l : List ℕ). l ++ 120 ∷ []) s.joined ∙ append_assoc s.front s.back (120 ∷ []))
    ∙ records_append s.front (s.back ++ 120 ∷ []) s.between ∙ ap (λ (l : List Row). records default_config s.front ++ l) last.1 in
    let complete : complete_records_of text ≡ records default_config s.front =
    ap (λ (l : List Row). take (length l - 1) l) opened ∙ without_last (records default_config s.front) last.0 in
    (records default_config s.back, all ∙ ap (λ (l : List Row). l ++ records default_config s.back) (sym complete))

-- ---- lines

all_of_front : (P : List ℕ → Type 0) (xs ys : List (List ℕ)) → All P (xs ++ ys) → All P xs
all_of_front P [] ys all = All-nil P
all_of_front P (x ∷ xs) ys all = All-cons P x xs (all 0 x (omega arith)) (all_of_front P xs ys (λ k d below. all (suc k) d (omega arith)))

-- of a piece that may go on no more bytes count than of one that ends here
last_within : (limit : ℕ) (piece : List ℕ) → AreWithin limit (lines_of piece) → (0 < length piece → lines_of piece ≡ piece ∷ []) → length (strip_carriage_return piece) ≤ limit
last_within limit [] within one = omega (arith, (length-strip []).1)
last_within limit (c ∷ piece) within one =
    let some : 0 < length (c ∷ piece) = omega arith in
    let whole : length (c ∷ piece) ≤ limit = subst (AreWithin limit) (one some) within 0 [] (omega arith) in
    omega (arith, whole, (length-strip (c ∷ piece)).1)

lines_within : (limit : ℕ) (text : List ℕ) → AreWithin limit (lines_of text) → AreWithin limit (open_lines_of text)
lines_within limit text within =
    let t : Torn text = torn text in
    let joined : lines_of text ≡ lines_of t.front ++ lines_of t.last =
    ap lines_of (sym (append-nil text)) ∙ more_lines_torn text [] t ∙ ap (λ (l : List ℕ). lines_of t.front ++ lines_of l) (append-nil t.last) in
    let both : AreWithin limit (lines_of t.front ++ lines_of t.last) = subst (AreWithin limit) joined within in
    let back : AreWithin limit (lines_of t.last) = λ k d below. all_of_back (lines_of t.front) (lines_of t.last) both k d below in
    subst (AreWithin limit) (sym (open_lines_torn text t))
    (All-append (λ (l : List ℕ). length l ≤ limit) (lines_of t.front) (strip_carriage_return t.last ∷ []) (all_of_front (λ (l : List ℕ). length l ≤ limit) (lines_of t.front) (lines_of t.last) both)
    (All-cons (λ (l : List ℕ). length l ≤ limit) (strip_carriage_return t.last) [] (last_within limit t.last back (a_last_piece t.last t.open_piece)) (All-nil (λ (l : List ℕ). length l ≤ limit))))
  where
    all_of_back : (xs ys : List (List ℕ)) → AreWithin limit (xs ++ ys) → AreWithin limit ys
    all_of_back [] ys all = all
    all_of_back (x ∷ xs) ys all = all_of_back xs ys (λ k d below. all (suc k) d (omega arith))

pub lines_begin : (text : List ℕ) → Begins (take (length (open_lines_of text) - 1) (open_lines_of text)) (lines_of text)
lines_begin text =
    let n = length (open_lines_of text) - 1 in
    let same : take n (lines_of text) ≡ take n (open_lines_of text) = ap (λ (l : List ℕ). take n (lines_of l)) (sym (append-nil text)) ∙ open_lines_stay text [] in
    subst (λ (l : List (List ℕ)). Begins l (lines_of text)) same (begins_front n (lines_of text))

-- ---- units

-- a text that is sound is so as one that may go on
pub sound_so_far : (u : Units) (text : List ℕ) → IsSound u text → IsSoundSoFar u text
sound_so_far Lines text sound = lines_within line_limit text sound
sound_so_far (Column c) text sound = sound_begins c (complete_records_of text) (records_of text) (records_begin text) sound

-- the units that have ended in it are its first ones
pub units_begin : (u : Units) (text : List ℕ) → Begins (complete_units_of u text) (units_of u text)
units_begin Lines text = lines_begin text
units_begin (Column c) text =
    let b = records_begin text in
    (fields_in c b.0, ap (fields_in c) b.1 ∙ map-append (field_of c) (complete_records_of text) b.0)
