-- How csv's machine reads the fields of a text with quotes.
use Rattle.std.proofs.Common.{◌≡◌, ◌≢◌, ℕ, zero, suc, ◌+◌, ◌-◌, ◌<◌, ◌≤◌, Bool, true, false, List, [], ◌∷◌, ◌++◌, length, take, drop, get_or, slice_index, Result, Ok, Err, refl, sym, ap, ◌∙◌, subst, inl, inr, arith, append_assoc, append-nil, length-drop}
use Rattle.std.specs.Prelude.{slice_range, IfOk}
use Rattle.std.proofs.lemmas.Bool.{ne_eqb, cases_lt, false≢true}
use Rattle.std.proofs.lemmas.List.{drop_all, drop_more}
use Rattle.std.proofs.Math.Seq.{get_or-drop, drop-drop}
use Rattle.csv.specs.Machine.{step}
use Rattle.csv.specs.Reading.{default_config, records}
use Rattle.csv.specs.declared.parser.Action.TheVariants as act
use Rattle.csv.specs.declared.parser.State.{State}
use Rattle.csv.specs.declared.parser.State.TheVariants as st
use Rattle.sk_model.proofs.Lists.{slice_more, slice_none}
use Rattle.sk_read.specs.declared.fault.Fault.{Fault}
use Rattle.sk_read.specs.Delimiters.{IsDelimiter, IsFirst, IsQuote}
use Rattle.sk_read.specs.Records.{Row, field_of}
use Rattle.sk_read.specs.Runs.{run}
use Rattle.sk_read.specs.Scan.{IsEnd}
use Rattle.sk_read.specs.QuotedRecords.{IsField, LeavesQuotes, kept}
use Rattle.sk_read.proofs.PlainLaws.{inside_step, end_here, none_behind}
use Rattle.sk_read.proofs.Runs.{records_are, between_alike}

-- a byte that joins the field at hand, and leaves the state as it is
abbrev IsSame : State → ℕ → Type 0
IsSame s c = step default_config s c ≡ (s, act.Copy)

joins : (s : State) (xs : List ℕ) (n : ℕ) (row : Row) (hand : List ℕ) → n ≤ length xs → ((i : ℕ) → i < n → IsSame s (get_or xs i 0)) → run s row hand xs ≡ run s row (hand ++ take n xs) (drop n xs)
unfolding run
joins s xs zero row hand fits same = ap (λ (l : List ℕ). run s row l xs) (sym (append-nil hand))
joins s [] (suc n) row hand fits same = absurd (omega (arith, fits))
joins s (c ∷ rest) (suc n) row hand fits same =
    let again = joins s rest n row (hand ++ c ∷ []) (omega (arith, fits)) (λ i below. same (suc i) (omega (arith, below))) in
    rw (same 0 (omega arith)) (again ∙ ap (λ (l : List ℕ). run s row l (drop n rest)) (append_assoc hand (c ∷ []) (take n rest)))

-- so do those from a place up to another
joined_run : (text : List ℕ) (at to : ℕ) (s : State) (row : Row) (hand : List ℕ) → at ≤ to → to ≤ length text → ((i : ℕ) → at ≤ i → i < to → IsSame s (slice_index text i)) →
    run s row hand (drop at text) ≡ run s row (hand ++ slice_range text at to) (drop to text)
joined_run text at to s row hand order within same =
    let whole : at + (to - at) ≡ to = omega (arith, order) in
    joins s (drop at text) (to - at) row hand (omega (arith, length-drop at text, within)) (λ i below.
    subst (IsSame s) (sym (get_or-drop at text i 0)) (same (at + i) (omega arith) (omega (arith, below))))
    ∙ ap (λ (l : List ℕ). run s row (hand ++ slice_range text at to) l) (drop-drop (to - at) at text ∙ ap (λ (n : ℕ). drop n text) whole)

-- the byte at a place comes first there
run_at : (s : State) (row : Row) (hand text : List ℕ) (at c : ℕ) → at < length text → slice_index text at ≡ c → run s row hand (drop at text) ≡ run s row hand (c ∷ drop (at + 1) text)
run_at s row hand text at c inside is = ap (run s row hand) (drop_more text at 0 inside ∙ ap (λ (b : ℕ). b ∷ drop (at + 1) text) is)

-- ---- outside quotes

-- what no quote begins is read as inside a field
begins_inside : (c : ℕ) (rest : List ℕ) (row : Row) (hand : List ℕ) → c ≢ 34 → run st.StartField row hand (c ∷ rest) ≡ run st.InField row hand (c ∷ rest)
unfolding run
begins_inside c rest row hand other = rw (ne_eqb c 34 other) refl

closed_inside : (c : ℕ) (rest : List ℕ) (row : Row) (hand : List ℕ) → c ≢ 34 → run st.AfterQuote row hand (c ∷ rest) ≡ run st.InField row hand (c ∷ rest)
unfolding run
closed_inside c rest row hand other = rw (ne_eqb c 34 other) refl

comma_goes : (rest : List ℕ) (row : Row) (hand : List ℕ) → run st.InField row hand (44 ∷ rest) ≡ run st.StartField (row ++ hand ∷ []) [] rest
unfolding run
comma_goes rest row hand = refl

lf_ends : (rest : List ℕ) (row : Row) (hand : List ℕ) → run st.InField row hand (10 ∷ rest) ≡ (row ++ hand ∷ []) ∷ run st.StartRecord [] [] rest
unfolding run
lf_ends rest row hand = refl

cr_ends : (rest : List ℕ) (row : Row) (hand : List ℕ) → run st.InField row hand (13 ∷ rest) ≡ (row ++ hand ∷ []) ∷ run st.AfterCr [] [] rest
unfolding run
cr_ends rest row hand = refl

over : (row : Row) (hand : List ℕ) → run st.InField row hand [] ≡ (row ++ hand ∷ []) ∷ []
unfolding run
over row hand = refl

over_quoted : (row : Row) (hand : List ℕ) → run st.InQuoted row hand [] ≡ run st.InField row hand []
unfolding run
over_quoted row hand = refl

over_closed : (row : Row) (hand : List ℕ) → run st.AfterQuote row hand [] ≡ run st.InField row hand []
unfolding run
over_closed row hand = refl

over_start : (row : Row) → run st.StartField row [] [] ≡ (row ++ [] ∷ []) ∷ []
unfolding run
over_start row = refl

-- an LF or CR ends the record
end_goes : (text : List ℕ) (at : ℕ) (row : Row) (hand : List ℕ) → at < length text → IsEnd (slice_index text at) → run st.InField row hand (drop at text) ≡ (row ++ hand ∷ []) ∷ records default_config (drop (at + 1) text)
end_goes text at row hand inside (inl lf) =
    let rest = drop (at + 1) text in
    run_at st.InField row hand text at 10 inside lf ∙ lf_ends rest row hand ∙ ap (λ (l : List Row). (row ++ hand ∷ []) ∷ l) (sym (records_are rest))
end_goes text at row hand inside (inr cr) =
    let rest = drop (at + 1) text in
    run_at st.InField row hand text at 13 inside cr ∙ cr_ends rest row hand ∙ ap (λ (l : List Row). (row ++ hand ∷ []) ∷ l) (between_alike st.AfterCr rest refl ∙ sym (records_are rest))

-- so does the end of the text
over_goes : (text : List ℕ) (at : ℕ) (row : Row) (hand : List ℕ) → length text ≤ at → run st.InField row hand (drop at text) ≡ (row ++ hand ∷ []) ∷ records default_config (drop (at + 1) text)
over_goes text at row hand past =
    ap (run st.InField row hand) (drop_all at text past) ∙ over row hand ∙ ap (λ (l : List Row). (row ++ hand ∷ []) ∷ l) (sym (none_behind text (at + 1) (omega (arith, past))))

module _ (text : List ℕ) (at to : ℕ) (first : IsFirst IsDelimiter text at to) where
  joined : (row : Row) (hand : List ℕ) → run st.InField row hand (drop at text) ≡ run st.InField row (hand ++ slice_range text at to) (drop to text)
  joined row hand = joined_run text at to st.InField row hand first.from first.within (λ i from before. inside_step (slice_index text i) (first.none i from before))

  goes_on : to < length text → slice_index text to ≡ 44 → (row : Row) (hand : List ℕ) → run st.InField row hand (drop at text) ≡ run st.StartField (row ++ (hand ++ slice_range text at to) ∷ []) [] (drop (to + 1) text)
  goes_on inside comma row hand =
      let now = hand ++ slice_range text at to in
      joined row hand ∙ run_at st.InField row now text to 44 inside comma ∙ comma_goes (drop (to + 1) text) row now

  ends_there : (to < length text → slice_index text to ≢ 44) → (row : Row) (hand : List ℕ) → run st.InField row hand (drop at text) ≡ (row ++ (hand ++ slice_range text at to) ∷ []) ∷ records default_config (drop (to + 1) text)
  ends_there other row hand =
      let now = hand ++ slice_range text at to in
      joined row hand ∙ elim (cases_lt to (length text)) [
        | inl inside ↦ end_goes text to row now inside (end_here (slice_index text to) (first.here inside) (other inside))
        | inr past ↦ over_goes text to row now past
      ]

  -- a field that begins with no quote
  pub plain_field : at < length text → slice_index text at ≢ 34 → IsField text at to (slice_range text at to)
  plain_field inside other =
      let opens : (row : Row) → run st.StartField row [] (drop at text) ≡ run st.InField row [] (drop at text) = λ row.
      run_at st.StartField row [] text at (slice_index text at) inside refl ∙ begins_inside (slice_index text at) (drop (at + 1) text) row [] other
      ∙ sym (run_at st.InField row [] text at (slice_index text at) inside refl) in
      record {
        from = first.from;
        within = first.within;
        goes = λ below comma row. opens row ∙ goes_on below comma row [];
        ends = λ other row. opens row ∙ ends_there other row [];
      }

-- ---- between quotes

same_quoted : (c : ℕ) → ¬ IsQuote c → IsSame st.InQuoted c
same_quoted c other = rw (ne_eqb c 34 other) refl

opens_quotes : (rest : List ℕ) (row : Row) → run st.StartField row [] (34 ∷ rest) ≡ run st.InQuoted row [] rest
unfolding run
opens_quotes rest row = refl

closes : (rest : List ℕ) (row : Row) (hand : List ℕ) → run st.InQuoted row hand (34 ∷ rest) ≡ run st.AfterQuote row hand rest
unfolding run
closes rest row hand = refl

doubles : (rest : List ℕ) (row : Row) (hand : List ℕ) → run st.AfterQuote row hand (34 ∷ rest) ≡ run st.InQuoted row (hand ++ 34 ∷ []) rest
unfolding run
doubles rest row hand = refl

-- a field between quotes, and what comes after them
pub quoted_field : (text : List ℕ) (start at to : ℕ) (more : List ℕ) → start < length text → slice_index text start ≡ 34 → LeavesQuotes text (start + 1) at more → IsFirst IsDelimiter text at to →
    IsField text start to (more ++ slice_range text at to)
quoted_field text start at to more inside quote leaves first =
    let opens : (row : Row) → run st.StartField row [] (drop start text) ≡ run st.InField row more (drop at text) = λ row.
    run_at st.StartField row [] text start 34 inside quote ∙ opens_quotes (drop (start + 1) text) row ∙ leaves.goes row [] in
    record {
      from = omega (arith, leaves.from, first.from);
      within = first.within;
      goes = λ below comma row. opens row ∙ goes_on text at to first below comma row more;
      ends = λ other row. opens row ∙ ends_there text at to first other row more;
    }

-- the same if nothing comes after them
pub whole_field : (text : List ℕ) (start at : ℕ) (more : List ℕ) → start < length text → slice_index text start ≡ 34 → LeavesQuotes text (start + 1) at more → (at < length text → IsDelimiter (slice_index text at)) →
    IsField text start at more
whole_field text start at more inside quote leaves ends =
    let here : IsFirst IsDelimiter text at at = record { from = omega arith; within = leaves.within; none = λ i from before. absurd (omega (arith, from, before)); here = ends } in
    subst (IsField text start at) (ap (λ (l : List ℕ). more ++ l) (slice_none text at) ∙ append-nil more) (quoted_field text start at at more inside quote leaves here)

-- these bytes join the field at hand, from one place between quotes up to another
pub record StaysQuoted (text : List ℕ) (start at : ℕ) (more : List ℕ) : Type 0 where
  pub from : start ≤ at
  pub within : at ≤ length text
  pub goes : (row : Row) (hand : List ℕ) → run st.InQuoted row hand (drop start text) ≡ run st.InQuoted row (hand ++ more) (drop at text)

pub none_quoted : (text : List ℕ) (start : ℕ) → start ≤ length text → StaysQuoted text start start []
none_quoted text start within = record {
  from = omega arith;
  within = within;
  goes = λ row hand. ap (λ (l : List ℕ). run st.InQuoted row l (drop start text)) (sym (append-nil hand));
}

module _ (text : List ℕ) (start at quote : ℕ) (more : List ℕ) (stays : StaysQuoted text start at more) (first : IsFirst IsQuote text at quote) where
  up_to : (row : Row) (hand : List ℕ) → run st.InQuoted row hand (drop start text) ≡ run st.InQuoted row (hand ++ (more ++ slice_range text at quote)) (drop quote text)
  up_to row hand =
      stays.goes row hand ∙ joined_run text at quote st.InQuoted row (hand ++ more) first.from first.within (λ i from before. same_quoted (slice_index text i) (first.none i from before))
      ∙ ap (λ (l : List ℕ). run st.InQuoted row l (drop quote text)) (append_assoc hand more (slice_range text at quote))

  -- two quotes are one
  pub doubled_quote : quote + 1 < length text → slice_index text (quote + 1) ≡ 34 → StaysQuoted text start (quote + 2) (more ++ slice_range text at (quote + 1))
  doubled_quote inside second =
      let here : quote < length text = omega (arith, inside) in
      let two : quote + 1 + 1 ≡ quote + 2 = omega arith in
      let is : get_or text quote 0 ≡ 34 = first.here here in
      let piece : slice_range text at (quote + 1) ≡ slice_range text at quote ++ 34 ∷ [] = slice_more text at quote 0 first.from here ∙ ap (λ (c : ℕ). slice_range text at quote ++ c ∷ []) is in
      record {
        from = omega (arith, stays.from, first.from);
        within = omega (arith, inside);
        goes = λ row hand.
            let now = hand ++ (more ++ slice_range text at quote) in
            let joined : now ++ 34 ∷ [] ≡ hand ++ (more ++ slice_range text at (quote + 1)) =
            append_assoc hand (more ++ slice_range text at quote) (34 ∷ []) ∙ ap (λ (l : List ℕ). hand ++ l) (append_assoc more (slice_range text at quote) (34 ∷ []) ∙ ap (λ (l : List ℕ). more ++ l) (sym piece)) in
            up_to row hand ∙ run_at st.InQuoted row now text quote 34 here is ∙ closes (drop (quote + 1) text) row now ∙ run_at st.AfterQuote row now text (quote + 1) 34 inside second
            ∙ doubles (drop (quote + 1 + 1) text) row now ∙ ap (λ (n : ℕ). run st.InQuoted row (now ++ 34 ∷ []) (drop n text)) two ∙ ap (λ (l : List ℕ). run st.InQuoted row l (drop (quote + 2) text)) joined;
      }

  -- any other ends them
  closed_at : quote < length text → (quote + 1 < length text → slice_index text (quote + 1) ≢ 34) → (row : Row) (hand : List ℕ) →
      run st.InQuoted row hand (drop quote text) ≡ run st.InField row hand (drop (quote + 1) text)
  closed_at here other row hand =
      run_at st.InQuoted row hand text quote 34 here (first.here here) ∙ closes (drop (quote + 1) text) row hand ∙ elim (cases_lt (quote + 1) (length text)) [
        | inl inside ↦
            let c = slice_index text (quote + 1) in
            run_at st.AfterQuote row hand text (quote + 1) c inside refl ∙ closed_inside c (drop (quote + 1 + 1) text) row hand (other inside) ∙ sym (run_at st.InField row hand text (quote + 1) c inside refl)
        | inr past ↦
            let none = drop_all (quote + 1) text past in
            ap (run st.AfterQuote row hand) none ∙ over_closed row hand ∙ sym (ap (run st.InField row hand) none)
      ]

  pub last_quote : (quote + 1 < length text → slice_index text (quote + 1) ≢ 34) → (to : ℕ) → (quote < length text → to ≡ quote + 1) → (length text ≤ quote → to ≡ quote) → LeavesQuotes text start to (more ++ slice_range text at quote)
  last_quote other to closed open_end = elim (cases_lt quote (length text)) [
    | inl here ↦ record {
      from = omega (arith, stays.from, first.from, closed here);
      within = omega (arith, closed here, here);
      goes = λ row hand.
          let now = hand ++ (more ++ slice_range text at quote) in
          up_to row hand ∙ closed_at here other row now ∙ ap (λ (n : ℕ). run st.InField row now (drop n text)) (sym (closed here));
    }
    | inr past ↦ record {
      from = omega (arith, stays.from, first.from, open_end past);
      within = omega (arith, open_end past, first.within);
      goes = λ row hand.
          let now = hand ++ (more ++ slice_range text at quote) in
          let none = drop_all quote text past in
          up_to row hand ∙ ap (run st.InQuoted row now) none ∙ over_quoted row now ∙ ap (run st.InField row now) (sym none) ∙ ap (λ (n : ℕ). run st.InField row now (drop n text)) (sym (open_end past));
    }
  ]

-- at the end of a text
pub quotes_over : (text : List ℕ) (start at : ℕ) (more : List ℕ) → StaysQuoted text start at more → length text ≤ at → LeavesQuotes text start at more
quotes_over text start at more stays past = record {
  from = stays.from;
  within = stays.within;
  goes = λ row hand.
      let none = drop_all at text past in
      stays.goes row hand ∙ ap (run st.InQuoted row (hand ++ more)) none ∙ over_quoted row (hand ++ more) ∙ ap (run st.InField row (hand ++ more)) (sym none);
}

-- ---- records

first_goes : (c : ℕ) (rest : List ℕ) → ¬ IsEnd c → run st.StartRecord [] [] (c ∷ rest) ≡ run st.StartField [] [] (c ∷ rest)
unfolding run
first_goes c rest other = rw (ne_eqb c 13 (λ is. other (inr is)), ne_eqb c 10 (λ is. other (inl is))) refl

-- a record begins as a field does
pub begins_as_field : (text : List ℕ) (at : ℕ) → at < length text → ¬ IsEnd (slice_index text at) → records default_config (drop at text) ≡ run st.StartField [] [] (drop at text)
begins_as_field text at inside other =
    let split = drop_more text at 0 inside in
    records_are (drop at text) ∙ ap (run st.StartRecord [] []) split ∙ first_goes (get_or text at 0) (drop (at + 1) text) other ∙ ap (run st.StartField [] []) (sym split)

-- after a last comma comes an empty field
pub over_at : (text : List ℕ) (at : ℕ) (row : Row) → length text ≤ at → run st.StartField row [] (drop at text) ≡ (row ++ [] ∷ []) ∷ records default_config (drop at text)
over_at text at row past =
    ap (run st.StartField row []) (drop_all at text past) ∙ over_start row ∙ ap (λ (l : List Row). (row ++ [] ∷ []) ∷ l) (sym (none_behind text at past))

-- ---- what is kept

pub kept_more : (keeps : Bool) (held now later a b : List ℕ) → now ≡ held ++ kept keeps a → later ≡ now ++ kept keeps b → later ≡ held ++ kept keeps (a ++ b)
kept_more true held now later a b one two = two ∙ ap (λ (l : List ℕ). l ++ b) one ∙ append_assoc held a b
kept_more false held now later a b one two = two ∙ append-nil now ∙ one

pub kept_none : (keeps : Bool) (held : List ℕ) → held ≡ held ++ kept keeps []
kept_none true held = sym (append-nil held)
kept_none false held = sym (append-nil held)

-- ---- the field in a column

kept_here : (column : ℕ) (row : Row) (field : List ℕ) → length row ≡ column → field_of column (row ++ field ∷ []) ≡ field_of column row ++ field
kept_here zero [] field is = refl
kept_here (suc column) [] field is = absurd (omega (arith, is))
kept_here zero (f ∷ row) field is = absurd (omega (arith, is))
kept_here (suc column) (f ∷ row) field is = kept_here column row field (omega (arith, is))

kept_apart : (column : ℕ) (row : Row) (field : List ℕ) → length row ≢ column → field_of column (row ++ field ∷ []) ≡ field_of column row
kept_apart zero [] field apart = absurd (apart refl)
kept_apart (suc column) [] field apart = refl
kept_apart zero (f ∷ row) field apart = refl
kept_apart (suc column) (f ∷ row) field apart = kept_apart column row field (λ is. apart (omega (arith, is)))

-- an empty field at the end is as good as none
pub kept_ended : (column : ℕ) (row : Row) → field_of column (row ++ [] ∷ []) ≡ field_of column row
kept_ended zero [] = refl
kept_ended (suc column) [] = refl
kept_ended zero (f ∷ row) = refl
kept_ended (suc column) (f ∷ row) = kept_ended column row

-- what is held has the field in the column, with those read so far
pub held_more : (column : ℕ) (row : Row) (field held now later : List ℕ) (keeps : Bool) → (keeps ≡ true → length row ≡ column) → (length row ≡ column → keeps ≡ true) → now ≡ held ++ field_of column row → later ≡ now ++ kept keeps field →
    later ≡ held ++ field_of column (row ++ field ∷ [])
held_more column row field held now later true here there one two =
    two ∙ ap (λ (l : List ℕ). l ++ field) one ∙ append_assoc held (field_of column row) field ∙ ap (λ (l : List ℕ). held ++ l) (sym (kept_here column row field (here refl)))
held_more column row field held now later false here there one two =
    two ∙ append-nil now ∙ one ∙ ap (λ (l : List ℕ). held ++ l) (sym (kept_apart column row field (λ is. false≢true (there is))))

pub no_field : (column : ℕ) → field_of column [] ≡ []
no_field zero = refl
no_field (suc column) = refl

-- what holds of what was read
pub if_ok : (r : Result ℕ Fault) (P Q : ℕ → Type 0) → ((n : ℕ) → P n → Q n) → IfOk r P → IfOk r Q
if_ok (Ok n) P Q so is = so n is
if_ok (Err e) P Q so is = tt
