-- How csv's machine reads the lines of a text with no quote.
use Rattle.std.proofs.Common.{◌≡◌, ◌≢◌, ℕ, zero, suc, ◌+◌, ◌-◌, ◌<◌, ◌≤◌, List, [], ◌∷◌, ◌++◌, length, take, drop, get_or, All, Option, Some, refl, sym, ap, ◌∙◌, subst, inl, inr, arith, append_assoc, append-nil, length-append, length-drop}
use Rattle.std.specs.Prelude.{slice_range}
use Rattle.std.proofs.lemmas.Bool.{ne_eqb, cases_lt}
use Rattle.std.proofs.lemmas.List.{drop_all, drop_more}
use Rattle.std.proofs.Math.Seq.{get_or-drop, drop-drop}
use Rattle.csv.specs.Machine.{Read, next_record, step}
use Rattle.csv.specs.Reading.{default_config, records}
use Rattle.csv.specs.declared.parser.State.{State}
use Rattle.csv.specs.declared.parser.State.TheVariants as st
use Rattle.csv.specs.declared.parser.Action.TheVariants as act
use Rattle.sk_read.specs.Records.{Row}
use Rattle.sk_read.specs.declared.records.plain.Line.{Line}
use Rattle.sk_read.specs.Delimiters.{IsDelimiter, IsNextDelimiter}
use Rattle.sk_read.specs.declared.records.plain.Fields.{Fields}
use Rattle.sk_read.specs.Columns.{IsFieldOf}
use Rattle.sk_read.specs.PlainLines.{AreFields, IsLine}
use Rattle.sk_read.specs.Scan.{IsEnd, settled}
use Rattle.sk_read.proofs.Plain.{IsNoQuote}
use Rattle.sk_read.proofs.Runs.{records_are, records_led, read_is, none_is, between_alike}
use Rattle.sk_read.proofs.ColumnLaws.{one_more_row}

-- what csv's machine reads next inside a field
abbrev pub read_on : Row → List ℕ → List ℕ → Option Read
read_on fields field text = next_record default_config st.InField fields field text

-- a record ends there, and after it the state is between two
abbrev pub Completes : Option Read → Row → List ℕ → Type 0
Completes read row rest = (state : State) × (settled state ≡ st.StartRecord) × (read ≡ Some (row, state, rest))

-- a byte inside a field joins it
pub inside_step : (c : ℕ) → ¬ IsDelimiter c → step default_config st.InField c ≡ (st.InField, act.Copy)
inside_step c inside = rw (ne_eqb c 44 (λ is. inside (inr is)), ne_eqb c 13 (λ is. inside (inl (inr is))), ne_eqb c 10 (λ is. inside (inl (inl is)))) refl

-- bytes inside a field join it
joins : (xs : List ℕ) (n : ℕ) (fields : Row) (field : List ℕ) → n ≤ length xs → ((i : ℕ) → i < n → ¬ IsDelimiter (get_or xs i 0)) →
    read_on fields field xs ≡ read_on fields (field ++ take n xs) (drop n xs)
unfolding next_record
joins xs zero fields field fits inside = ap (λ (l : List ℕ). read_on fields l xs) (sym (append-nil field))
joins [] (suc n) fields field fits inside = absurd (omega arith)
joins (c ∷ rest) (suc n) fields field fits inside =
    let again = joins rest n fields (field ++ c ∷ []) (omega (arith, fits)) (λ i below. inside (suc i) (omega (arith, below))) in
    rw (inside_step c (inside 0 (omega arith))) (again ∙ ap (λ (l : List ℕ). read_on fields l (drop n rest)) (append_assoc field (c ∷ []) (take n rest)))

-- what no quote begins continues at the start of a field as inside it
begins : (xs : List ℕ) (fields : Row) → (0 < length xs → get_or xs 0 0 ≢ 34) → next_record default_config st.StartField fields [] xs ≡ read_on fields [] xs
unfolding next_record
begins [] fields plain = refl
begins (c ∷ rest) fields plain = rw (ne_eqb c 34 (plain (omega arith))) refl

-- a comma ends a field
comma : (rest : List ℕ) (fields : Row) (field : List ℕ) → (0 < length rest → get_or rest 0 0 ≢ 34) → read_on fields field (44 ∷ rest) ≡ read_on (fields ++ field ∷ []) [] rest
unfolding next_record
comma rest fields field plain = begins rest (fields ++ field ∷ []) plain

-- LF and CR end a record
ended : (c : ℕ) (rest : List ℕ) (fields : Row) (field : List ℕ) → IsEnd c → Completes (read_on fields field (c ∷ rest)) (fields ++ field ∷ []) rest
unfolding next_record
ended c rest fields field (inl lf) = (st.StartRecord, refl, subst (λ (b : ℕ). read_on fields field (b ∷ rest) ≡ Some (fields ++ field ∷ [], st.StartRecord, rest)) (sym lf) refl)
ended c rest fields field (inr cr) = (st.AfterCr, refl, subst (λ (b : ℕ). read_on fields field (b ∷ rest) ≡ Some (fields ++ field ∷ [], st.AfterCr, rest)) (sym cr) refl)

-- so does the end of a text
over : (fields : Row) (field : List ℕ) → read_on fields field [] ≡ Some (fields ++ field ∷ [], st.StartRecord, [])
unfolding next_record
over fields field = refl

-- a record begins inside a field
first : (c : ℕ) (rest : List ℕ) → c ≢ 34 → ¬ IsEnd c → next_record default_config st.StartRecord [] [] (c ∷ rest) ≡ read_on [] [] (c ∷ rest)
unfolding next_record
first c rest no_quote no_end = rw (ne_eqb c 13 (λ is. no_end (inr is)), ne_eqb c 10 (λ is. no_end (inl is)), ne_eqb c 34 no_quote) refl

-- a delimiter that is no comma
pub end_here : (c : ℕ) → IsDelimiter c → c ≢ 44 → IsEnd c
end_here c (inl end) other = end
end_here c (inr comma) other = absurd (other comma)

module _ (text : List ℕ) (plain : All IsNoQuote text) where
  -- the byte at a place is no quote
  no_quote : (at : ℕ) → 0 < length (drop at text) → get_or (drop at text) 0 0 ≢ 34
  no_quote at some is =
      let same : at + 0 ≡ at = omega arith in
      plain at 0 (omega (arith, some, length-drop at text)) (sym (get_or-drop at text 0 0 ∙ ap (λ (n : ℕ). get_or text n 0) same) ∙ is)

  -- up to the next delimiter the bytes join the field
  pub joined : (at place : ℕ) (fields : Row) → IsNextDelimiter text at place → read_on fields [] (drop at text) ≡ read_on fields (slice_range text at place) (drop place text)
  joined at place fields next =
      let whole : at + (place - at) ≡ place = omega (arith, next.from) in
      joins (drop at text) (place - at) fields [] (omega (arith, length-drop at text, next.within)) (λ i below.
      subst (λ (c : ℕ). ¬ IsDelimiter c) (sym (get_or-drop at text i 0)) (next.none (at + i) (omega arith) (omega (arith, below))))
      ∙ ap (λ (l : List ℕ). read_on fields (slice_range text at place) l) (drop-drop (place - at) at text ∙ ap (λ (n : ℕ). drop n text) whole)

  -- after a comma comes a field more
  pub joined_comma : (at place : ℕ) (fields : Row) → IsNextDelimiter text at place → place < length text → get_or text place 0 ≡ 44 →
      read_on fields [] (drop at text) ≡ read_on (fields ++ slice_range text at place ∷ []) [] (drop (place + 1) text)
  joined_comma at place fields next inside is =
      joined at place fields next
      ∙ ap (read_on fields (slice_range text at place)) (drop_more text place 0 inside ∙ ap (λ (c : ℕ). c ∷ drop (place + 1) text) is)
      ∙ comma (drop (place + 1) text) fields (slice_range text at place) (no_quote (place + 1))

  -- what is no comma there ends the record
  joined_here : (at place : ℕ) (fields : Row) → IsNextDelimiter text at place → place < length text → IsEnd (get_or text place 0) →
      Completes (read_on fields [] (drop at text)) (fields ++ slice_range text at place ∷ []) (drop (place + 1) text)
  joined_here at place fields next inside is =
      let end = ended (get_or text place 0) (drop (place + 1) text) fields (slice_range text at place) is in
      (end.0, end.1, joined at place fields next ∙ ap (read_on fields (slice_range text at place)) (drop_more text place 0 inside) ∙ end.2)

  joined_over : (at place : ℕ) (fields : Row) → IsNextDelimiter text at place → length text ≤ place →
      Completes (read_on fields [] (drop at text)) (fields ++ slice_range text at place ∷ []) (drop (place + 1) text)
  joined_over at place fields next past =
      let row = fields ++ slice_range text at place ∷ [] in (
        st.StartRecord,
        refl,
        joined at place fields next ∙ ap (read_on fields (slice_range text at place)) (drop_all place text past) ∙ over fields (slice_range text at place)
            ∙ ap (λ (l : List ℕ). Some (row, st.StartRecord, l)) (sym (drop_all (place + 1) text (omega (arith, past)))),
      )

  pub joined_end : (at place : ℕ) (fields : Row) → IsNextDelimiter text at place → (place < length text → get_or text place 0 ≢ 44) →
      Completes (read_on fields [] (drop at text)) (fields ++ slice_range text at place ∷ []) (drop (place + 1) text)
  joined_end at place fields next no_comma = elim (cases_lt place (length text)) [
    | inl inside ↦ joined_here at place fields next inside (end_here (get_or text place 0) (next.here inside) (no_comma inside))
    | inr past ↦ joined_over at place fields next past
  ]

  -- a line that is not empty is a record
  pub line_records : (column start : ℕ) (line : Line) (is : IsLine column text start line) → start < line.end →
      records default_config (drop start text) ≡ is.row ∷ records default_config (drop (line.end + 1) text)
  line_records column start line is some =
      let inside : start < length text = omega (arith, some, is.within) in
      let rest = drop (line.end + 1) text in
      let split : drop start text ≡ get_or text start 0 ∷ drop (start + 1) text = drop_more text start 0 inside in
      let read : next_record default_config st.StartRecord [] [] (drop start text) ≡ Some (is.row, is.state, rest) =
      ap (next_record default_config st.StartRecord [] []) split ∙ first (get_or text start 0) (drop (start + 1) text) (plain start 0 inside) (is.none start (omega arith) some) ∙ ap (read_on [] []) (sym split) ∙ is.read in
      records_are (drop start text) ∙ read_is st.StartRecord [] [] (drop start text) _ read ∙ ap (λ (l : List Row). is.row ∷ l) (between_alike is.state rest is.between ∙ sym (records_are rest))

  -- an empty one is none
  pub empty_records : (column start : ℕ) (line : Line) → IsLine column text start line → start < length text → line.end ≤ start →
      records default_config (drop start text) ≡ records default_config (drop (line.end + 1) text)
  empty_records column start line is inside none =
      let here : line.end ≡ start = omega (arith, none, is.from) in
      let end : IsEnd (get_or text start 0) = subst (λ (n : ℕ). IsEnd (get_or text n 0)) here (is.here (omega (arith, here, inside))) in
      ap (records default_config) (drop_more text start 0 inside) ∙ records_led (get_or text start 0) (drop (start + 1) text) end ∙ ap (λ (n : ℕ). records default_config (drop (n + 1) text)) (sym here)

  -- the same of the records given so far and those after them
  pub one_more_line : (column start : ℕ) (line : Line) (given : List Row) (is : IsLine column text start line) → start < line.end → records default_config text ≡ given ++ records default_config (drop start text) →
      records default_config text ≡ (given ++ is.row ∷ []) ++ records default_config (drop (line.end + 1) text)
  one_more_line column start line given is some split =
      one_more_row (records default_config text) given is.row (records default_config (drop start text)) (records default_config (drop (line.end + 1) text)) split (line_records column start line is some)

-- where there is room for all records, there is room for the next
pub room_more : (most : ℕ) (rows all given more : List Row) (row : Row) → length rows + length all ≤ most → all ≡ (given ++ row ∷ []) ++ more → length (rows ++ given) < most
room_more most rows all given more row few split =
    omega (arith, few, ap length split, length-append (given ++ row ∷ []) more, length-append given (row ∷ []), length-append rows given)

-- after the end of a text there is no record
pub none_behind : (text : List ℕ) (at : ℕ) → length text ≤ at → records default_config (drop at text) ≡ []
unfolding next_record
none_behind text at past = ap (records default_config) (drop_all at text past) ∙ records_are [] ∙ none_is st.StartRecord [] [] [] refl

-- the field that lies where it is said is that of the record
pub field_of_line : (column : ℕ) (text : List ℕ) (row : Row) (fields : Fields) → AreFields column text row fields → IsFieldOf column row fields.width (slice_range text fields.field.from fields.field.to)
field_of_line column text row fields are = (are.width, are.field)
