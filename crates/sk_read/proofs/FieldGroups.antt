-- Fields of a column that are given many together.
use Rattle.std.proofs.Common.{◌≡◌, ℕ, ◌+◌, ◌-◌, ◌<◌, ◌≤◌, List, [], ◌∷◌, ◌++◌, length, take, drop, map, slice_range, set, Option, Some, None, Result, Ok, Err, inl, inr, refl, sym, ap, ◌∙◌, subst, arith, append_assoc, length-append, length-drop}
use Rattle.std.proofs.lemmas.Bool.{cases_lt}
use Rattle.std.specs.Prelude.{MatchResult}
use Rattle.std.proofs.lemmas.List.{map-append, length-map, take_more_set, take_all, take-append-le, drop-append-le}
use Rattle.std.proofs.lemmas.List.Elements.{All-push, All-drop, All-head, All-tail}
use Rattle.std.proofs.Math.Seq.{drop-append_seam}
use Rattle.csv.specs.Reading.{default_config, records}
use Rattle.sk_lines.specs.Spans.{AreBehind, lines_at}
use Rattle.sk_lines.specs.declared.spans.Span.{Span}
use Rattle.sk_model.specs.Limits.{line_limit, most_kept}
use Rattle.sk_model.specs.Lines.{AreWithin}
use Rattle.sk_model.specs.Missing.{Begins}
use Rattle.sk_model.proofs.Missing.{begins_length}
use Rattle.sk_read.specs.declared.fault.Fault.{Fault}
use Rattle.sk_read.specs.declared.fault.Fault.TheVariants as fault
use Rattle.sk_read.specs.declared.records.column.ColumnReader.{ColumnReader}
use Rattle.sk_read.specs.Columns.{HasRows, Refuses, Breaks}
use Rattle.sk_read.specs.Groups.{HasSeen, RefusesRow, HasSeenOrRefused, CutsGroup}
use Rattle.sk_read.specs.Reads.{StopsAmong}
use Rattle.sk_read.specs.Records.{Row, field_of, fields_in, AreSoundRows}
use Rattle.sk_read.proofs.ColumnLaws.{fields_more, length_fields, refused_by, ends_at}
use Rattle.sk_read.proofs.RecordEnds.{sound_begins}

-- whatever a taker was given, the table has taken the records
pub seen : (t : ColumnReader) (Gave : List (List ℕ) → Type 0) (rows : List Row) → HasRows t Gave rows → HasSeen t rows
seen t Gave rows has = record { number = has.number; width = has.width; sound = has.sound; gave = tt }

-- and if their fields were given it has them
pub has_seen : (t : ColumnReader) (Gave : List (List ℕ) → Type 0) (rows : List Row) → HasSeen t rows → Gave (fields_in t.column rows) → HasRows t Gave rows
has_seen t Gave rows has gave = record { number = has.number; width = has.width; sound = has.sound; gave = gave }

-- a record that is refused by its fields is refused
pub refused_row : (column : ℕ) (Gave : List (List ℕ) → Type 0) (Stopped : Fault → List (List ℕ) → List ℕ → Type 0) (rows : List Row) (row : Row) (f : Fault) → RefusesRow column rows row f → Gave (fields_in column rows) →
    Refuses column Gave Stopped rows row f
refused_row column Gave Stopped rows row (fault.BadCsv n) refused gave = (refused.0, refused.1, gave)
refused_row column Gave Stopped rows row (fault.LongLine n) refused gave = (refused.0, refused.1, refused.2, gave)
refused_row column Gave Stopped rows row (fault.BadItem n) refused gave = absurd refused.1.1
refused_row column Gave Stopped rows row fault.OutOfMemory refused gave = absurd refused.1
refused_row column Gave Stopped rows row fault.WriteFault refused gave = absurd refused.1
refused_row column Gave Stopped rows row _ refused gave = absurd refused

-- the places of the fields of one record more
pub one_more_place : (text : List ℕ) (spans : List Span) (count : ℕ) (span : Span) (column : ℕ) (some : List Row) (row : Row) → count < length spans → lines_at (take count spans) text ≡ fields_in column some →
    slice_range text span.from span.to ≡ field_of column row → lines_at (take (count + 1) (set spans count span)) text ≡ fields_in column (some ++ row ∷ [])
one_more_place text spans count span column some row room so_far here =
    let by : Span → List ℕ = λ (s : Span). slice_range text s.from s.to in
    ap (map by) (take_more_set spans count span room) ∙ map-append by (take count spans) (span ∷ []) ∙ ap (λ (l : List (List ℕ)). l ++ by span ∷ []) so_far
    ∙ ap (λ (l : List ℕ). fields_in column some ++ l ∷ []) here ∙ sym (fields_more column some row)

pub one_more_within : (text : List ℕ) (spans : List Span) (count : ℕ) (span : Span) → count < length spans → AreBehind 0 (take count spans) text → span.from ≤ span.to → span.to ≤ length text →
    AreBehind 0 (take (count + 1) (set spans count span)) text
one_more_within text spans count span room within order inside =
    subst (λ (l : List Span). AreBehind 0 l text) (sym (take_more_set spans count span room))
    (All-push (λ (s : Span). (0 ≤ s.from) × (s.from ≤ s.to) × (s.to ≤ length text)) (take count spans) span within (omega arith, order, inside))

-- ---- a taker that stops among them

-- records up to the one that has a unit as its field
record Reaches (column : ℕ) (rows : List Row) (front : List (List ℕ)) (unit : List ℕ) : Type 0 where
  some : List Row
  row : Row
  begins : Begins (some ++ row ∷ []) rows
  before : fields_in column some ≡ front
  here : field_of column row ≡ unit

reaches : (column : ℕ) (rows : List Row) (front : List (List ℕ)) (unit : List ℕ) → Begins (front ++ unit ∷ []) (fields_in column rows) → Reaches column rows front unit
reaches column [] [] unit begins = cc begins.1
reaches column [] (f ∷ front) unit begins = cc begins.1
reaches column (row ∷ rows) [] unit begins = record { some = []; row = row; begins = (rows, refl); before = refl; here = cc begins.1 }
reaches column (row ∷ rows) (f ∷ front) unit begins =
    let rest : fields_in column rows ≡ (front ++ unit ∷ []) ++ begins.0 = cc begins.1 in
    let first : field_of column row ≡ f = cc begins.1 in
    let more = reaches column rows front unit (begins.0, rest) in
    record {
      some = row ∷ more.some;
      row = more.row;
      begins = (more.begins.0, ap (λ (l : List Row). row ∷ l) more.begins.1);
      before = ap (λ (l : List ℕ). l ∷ fields_in column more.some) first ∙ ap (λ (l : List (List ℕ)). f ∷ l) more.before;
      here = more.here;
    }

-- it stopped at the field of one of these records, which come after others that were given
pub stopped_among : (column : ℕ) (Gave : List (List ℕ) → Type 0) (Stopped : Fault → List (List ℕ) → List ℕ → Type 0) (rows given some rest all : List Row) (units : List (List ℕ)) (f : Fault) →
    all ≡ given ++ (some ++ rest) → units ≡ fields_in column some → AreSoundRows column ((rows ++ given) ++ some) → StopsAmong Stopped f (fields_in column (rows ++ given)) units → Breaks column Gave Stopped rows all f
stopped_among column Gave Stopped rows given some rest all units f split are sound stops =
    let at = reaches column some stops.front stops.unit (subst (Begins (stops.front ++ stops.unit ∷ [])) are stops.begins) in
    let before = given ++ at.some in
    let same : rows ++ before ≡ (rows ++ given) ++ at.some = sym (append_assoc rows given at.some) in
    let begins : Begins ((rows ++ before) ++ at.row ∷ []) ((rows ++ given) ++ some) = (
      at.begins.0,
      ap (λ (l : List Row). (rows ++ given) ++ l) at.begins.1 ∙ sym (append_assoc (rows ++ given) (at.some ++ at.row ∷ []) at.begins.0)
          ∙ ap (λ (l : List Row). l ++ at.begins.0) (sym (append_assoc (rows ++ given) at.some (at.row ∷ [])) ∙ ap (λ (l : List Row). l ++ at.row ∷ []) (sym same)),
    ) in
    let sound_row = sound_begins column ((rows ++ before) ++ at.row ∷ []) ((rows ++ given) ++ some) begins sound in
    let units_before : fields_in column (rows ++ before) ≡ fields_in column (rows ++ given) ++ stops.front =
    ap (fields_in column) same ∙ map-append (field_of column) (rows ++ given) at.some ∙ ap (λ (l : List (List ℕ)). fields_in column (rows ++ given) ++ l) at.before in
    let stopped : Stopped f (fields_in column (rows ++ before)) (field_of column at.row) =
    subst (λ (l : List (List ℕ)). Stopped f l (field_of column at.row)) (sym units_before) (subst (Stopped f (fields_in column (rows ++ given) ++ stops.front)) (sym at.here) stops.stopped) in
    let n = length (fields_in column (rows ++ given)) + length stops.front + 1 in
    let place : n ≡ length (rows ++ before) + 1 = omega (arith, ap length units_before, length-append (fields_in column (rows ++ given)) stops.front, length_fields column (rows ++ before)) in
    let front : Begins (before ++ at.row ∷ []) all = (
      at.begins.0 ++ rest,
      split ∙ ap (λ (l : List Row). given ++ (l ++ rest)) at.begins.1 ∙ ap (λ (l : List Row). given ++ l) (append_assoc (at.some ++ at.row ∷ []) at.begins.0 rest)
          ∙ sym (append_assoc given (at.some ++ at.row ∷ []) (at.begins.0 ++ rest)) ∙ ap (λ (l : List Row). l ++ (at.begins.0 ++ rest)) (sym (append_assoc given at.some (at.row ∷ []))),
    ) in
    ends_at Gave Stopped column rows all before at.row f front (sound_begins column (rows ++ before) ((rows ++ before) ++ at.row ∷ []) (at.row ∷ [], refl) sound_row)
    (refused_by Gave Stopped column (rows ++ before) at.row n f place stops.fault sound_row stopped)

-- ---- what a group of records comes to

-- there is room for the records that follow
pub cut_room : (rows given all following : List Row) → length rows + length all ≤ most_kept → all ≡ given ++ following → length (rows ++ given) + length following ≤ most_kept
cut_room rows given all following few split = omega (arith, few, ap length split, length-append given following, length-append rows given)

sound_either : (t : ColumnReader) (rows following : List Row) (r : Option Fault) → HasSeenOrRefused t rows following r → AreSoundRows t.column rows
sound_either t rows following None has = has.sound
sound_either t rows following (Some fault.OutOfMemory) has = has
sound_either t rows following (Some f) has = has.0

-- so none of their fields is too long
pub cut_short : (column : ℕ) (rows some : List Row) (units : List (List ℕ)) → units ≡ fields_in column some → AreSoundRows column (rows ++ some) → AreWithin line_limit units
cut_short column rows some units are sound =
    let fields : fields_in column (rows ++ some) ≡ fields_in column rows ++ fields_in column some = map-append (field_of column) rows some in
    let within : AreWithin line_limit (fields_in column rows ++ fields_in column some) = subst (AreWithin line_limit) fields sound.within in
    subst (AreWithin line_limit) (drop-append_seam (fields_in column rows) (fields_in column some) ∙ sym are)
    (All-drop (λ (l : List ℕ). length l ≤ line_limit) (length (fields_in column rows)) (fields_in column rows ++ fields_in column some) within)

-- and a taker that has their fields too has those of all records
pub cut_gave : (column : ℕ) (Gave : List (List ℕ) → Type 0) (rows some : List Row) (units : List (List ℕ)) → units ≡ fields_in column some → Gave (fields_in column rows ++ units) → Gave (fields_in column (rows ++ some))
cut_gave column Gave rows some units are gave =
    subst Gave (ap (λ (l : List (List ℕ)). fields_in column rows ++ l) are ∙ sym (map-append (field_of column) rows some)) gave

-- the record after them is refused
pub refused_after : (column : ℕ) (Gave : List (List ℕ) → Type 0) (Stopped : Fault → List (List ℕ) → List ℕ → Type 0) (rows given some rest all : List Row) (row : Row) (f : Fault) → all ≡ given ++ (some ++ rest) → Begins (row ∷ []) rest →
    AreSoundRows column ((rows ++ given) ++ some) → RefusesRow column ((rows ++ given) ++ some) row f → Gave (fields_in column ((rows ++ given) ++ some)) → Breaks column Gave Stopped rows all f
refused_after column Gave Stopped rows given some rest all row f split next sound refused gave =
    let same : (rows ++ given) ++ some ≡ rows ++ (given ++ some) = append_assoc rows given some in
    let begins : Begins ((given ++ some) ++ row ∷ []) all = (
      next.0,
      split ∙ sym (append_assoc given some rest) ∙ ap (λ (l : List Row). (given ++ some) ++ l) next.1 ∙ sym (append_assoc (given ++ some) (row ∷ []) next.0),
    ) in
    ends_at Gave Stopped column rows all (given ++ some) row f begins (subst (AreSoundRows column) same sound)
    (subst (λ (l : List Row). Refuses column Gave Stopped l row f) same (refused_row column Gave Stopped ((rows ++ given) ++ some) row f refused gave))

-- a record that is refused by its fields is the first of those that follow
pub refused_next : (t : ColumnReader) (rows following : List Row) (row : Row) (f : Fault) → AreSoundRows t.column rows → Begins (row ∷ []) following → RefusesRow t.column rows row f → HasSeenOrRefused t rows following (Some f)
refused_next t rows following row fault.OutOfMemory sound begins refused = absurd refused.1
refused_next t rows following row f sound begins refused = (sound, (row, begins, refused))

-- why the records after a group were not taken
ends_after : (t : ColumnReader) (Gave : List (List ℕ) → Type 0) (Stopped : Fault → List (List ℕ) → List ℕ → Type 0) (rows given some rest all : List Row) (f : Fault) → all ≡ given ++ (some ++ rest) →
    HasSeenOrRefused t ((rows ++ given) ++ some) rest (Some f) → Gave (fields_in t.column ((rows ++ given) ++ some)) → Breaks t.column Gave Stopped rows all f
ends_after t Gave Stopped rows given some rest all fault.OutOfMemory split sound gave =
    let same : (rows ++ given) ++ some ≡ rows ++ (given ++ some) = append_assoc rows given some in
    inl (record {
      some = given ++ some;
      begins = (rest, split ∙ sym (append_assoc given some rest));
      sound = subst (AreSoundRows t.column) same sound;
      gave = subst (λ (l : List Row). Gave (fields_in t.column l)) same gave;
    })
ends_after t Gave Stopped rows given some rest all f split ends gave = refused_after t.column Gave Stopped rows given some rest all ends.1.0 f split ends.1.1 ends.0 ends.1.2 gave

module _ (old new : ColumnReader) (text bytes : List ℕ) (from to : ℕ) (spans : List Span) (r : Option Fault) (cuts : CutsGroup old new text bytes from to spans r) (same : new.column ≡ old.column) where
  cut_sound : (rows : List Row) → length rows + length (records default_config (drop from text)) ≤ most_kept → HasSeen old rows → AreSoundRows old.column (rows ++ cuts.some)
  cut_sound rows few has =
      subst (λ (n : ℕ). AreSoundRows n (rows ++ cuts.some)) same (sound_either new (rows ++ cuts.some) (records default_config (drop to text)) r (cuts.has rows few has))

  module _ (Gave : List (List ℕ) → Type 0) (rows given all : List Row) (few : length rows + length all ≤ most_kept) (split : all ≡ given ++ records default_config (drop from text)) (has : HasRows old Gave (rows ++ given)) where
    room : length (rows ++ given) + length (records default_config (drop from text)) ≤ most_kept
    room = cut_room rows given all (records default_config (drop from text)) few split

    sound : AreSoundRows old.column ((rows ++ given) ++ cuts.some)
    sound = cut_sound (rows ++ given) room (seen old Gave (rows ++ given) has)

    number : length (fields_in old.column (rows ++ given)) ≡ old.number
    number = omega (arith, has.number, length_fields old.column (rows ++ given))

    both : all ≡ given ++ (cuts.some ++ records default_config (drop to text))
    both = split ∙ ap (λ (l : List Row). given ++ l) cuts.split

    pub group_short : AreWithin line_limit (lines_at spans bytes)
    group_short = cut_short old.column (rows ++ given) cuts.some (lines_at spans bytes) cuts.fields sound

    pub group_room : old.number + length spans ≤ most_kept
    group_room = omega (
      arith,
      has.number,
      room,
      ap length cuts.split,
      length-append cuts.some (records default_config (drop to text)),
      ap length cuts.fields,
      length-map spans (λ (s : Span). slice_range bytes s.from s.to),
      length_fields old.column cuts.some,
    )

    -- a taker that stops at one of its fields ends the taking there
    pub group_stops : (Later : List (List ℕ) → Type 0) (Stopped : Fault → List (List ℕ) → List ℕ → Type 0) (f : Fault) →
        ((units : List (List ℕ)) → length units ≡ old.number → Gave units → StopsAmong Stopped f units (lines_at spans bytes)) → Breaks old.column Later Stopped rows all f
    group_stops Later Stopped f stops =
        stopped_among old.column Later Stopped rows given cuts.some (records default_config (drop to text)) all (lines_at spans bytes) f both cuts.fields sound
        (stops (fields_in old.column (rows ++ given)) number has.gave)

    module _ (Later : List (List ℕ) → Type 0) (went : (units : List (List ℕ)) → length units ≡ old.number → Gave units → Later (units ++ lines_at spans bytes)) where
      gave : Later (fields_in new.column ((rows ++ given) ++ cuts.some))
      gave = subst (λ (n : ℕ). Later (fields_in n ((rows ++ given) ++ cuts.some))) (sym same)
          (cut_gave old.column Later (rows ++ given) cuts.some (lines_at spans bytes) cuts.fields (went (fields_in old.column (rows ++ given)) number has.gave))

      -- so does what is refused after it
      pub group_ends : (Stopped : Fault → List (List ℕ) → List ℕ → Type 0) (f : Fault) → r ≡ Some f → Breaks old.column Later Stopped rows all f
      group_ends Stopped f is =
          let rest = records default_config (drop to text) in
          let ends = subst (HasSeenOrRefused new ((rows ++ given) ++ cuts.some) rest) is (cuts.has (rows ++ given) room (seen old Gave (rows ++ given) has)) in
          subst (λ (n : ℕ). Breaks n Later Stopped rows all f) same (ends_after new Later Stopped rows given cuts.some rest all f both ends gave)

      -- and else its fields were given
      pub group_given : r ≡ None → HasRows new Later (rows ++ (given ++ cuts.some))
      group_given is =
          let rest = records default_config (drop to text) in
          let ends : HasSeen new ((rows ++ given) ++ cuts.some) = subst (HasSeenOrRefused new ((rows ++ given) ++ cuts.some) rest) is (cuts.has (rows ++ given) room (seen old Gave (rows ++ given) has)) in
          subst (HasRows new Later) (append_assoc rows given cuts.some) (has_seen new Later ((rows ++ given) ++ cuts.some) ends gave)

    pub group_split : all ≡ (given ++ cuts.some) ++ records default_config (drop to text)
    group_split = both ∙ sym (append_assoc given cuts.some (records default_config (drop to text)))

-- ---- fields that are put after others

slice_front : (bytes more : List ℕ) (from to : ℕ) → to ≤ length bytes → slice_range (bytes ++ more) from to ≡ slice_range bytes from to
slice_front bytes more from to within = elim (cases_lt from to) [
  | inl some ↦ ap (take (to - from)) (drop-append-le from bytes more (omega (arith, some, within))) ∙ take-append-le (to - from) (drop from bytes) more (omega (arith, within, length-drop from bytes))
  | inr none ↦ let zero : to - from ≡ 0 = omega (arith, none) in ap (λ (n : ℕ). take n (drop from (bytes ++ more))) zero ∙ sym (ap (λ (n : ℕ). take n (drop from bytes)) zero)
]

-- they stay where they are
pub lines_stay : (spans : List Span) (bytes later : List ℕ) → AreBehind 0 spans bytes → Begins bytes later → lines_at spans later ≡ lines_at spans bytes
lines_stay [] bytes later within begins = refl
lines_stay (s ∷ spans) bytes later within begins =
    let here = All-head (λ (s : Span). (0 ≤ s.from) × (s.from ≤ s.to) × (s.to ≤ length bytes)) s spans within in
    let rest = lines_stay spans bytes later (All-tail (λ (s : Span). (0 ≤ s.from) × (s.from ≤ s.to) × (s.to ≤ length bytes)) s spans within) begins in
    let first : slice_range later s.from s.to ≡ slice_range bytes s.from s.to = ap (λ (l : List ℕ). slice_range l s.from s.to) begins.1 ∙ slice_front bytes begins.0 s.from s.to here.2 in
    ap (λ (l : List ℕ). l ∷ lines_at spans later) first ∙ ap (λ (l : List (List ℕ)). slice_range bytes s.from s.to ∷ l) rest

pub behind_stay : (spans : List Span) (bytes later : List ℕ) → AreBehind 0 spans bytes → Begins bytes later → AreBehind 0 spans later
behind_stay spans bytes later within begins i d inside =
    let here = within i d inside in
    (here.0, here.1, omega (arith, here.2, begins_length bytes later begins))

-- what was put after some bytes lies there
pub slice_last : (bytes field later : List ℕ) → later ≡ bytes ++ field → slice_range later (length bytes) (length later) ≡ field
slice_last bytes field later is =
    let size : length later - length bytes ≡ length field = omega (arith, ap length is, length-append bytes field) in
    ap (λ (n : ℕ). take n (drop (length bytes) later)) size ∙ ap (λ (l : List ℕ). take (length field) (drop (length bytes) l)) is ∙ ap (take (length field)) (drop-append_seam bytes field) ∙ take_all (length field) field (omega arith)

-- what holds if there is no error
pub when_ok : {A : Type 0} (r : Result A Fault) (a : A) (P : Type 0) (Q : Fault → Type 0) → MatchResult r (λ _. P) Q → r ≡ Ok a → P
when_ok (Ok b) a P Q holds is = holds
when_ok (Err e) a P Q holds is = cc is
