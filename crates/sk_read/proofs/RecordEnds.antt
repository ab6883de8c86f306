-- How the reading of a source's records ends.
use Rattle.std.proofs.Common.{◌≡◌, ◌≢◌, ◌⊎◌, ℕ, ◌+◌, ◌<◌, ◌≤◌, Bool, true, false, List, [], ◌∷◌, ◌++◌, length, take, get_or, All, Option, Ok, refl, sym, ap, ◌∙◌, subst, inl, inr, arith, append_assoc, append-nil, length-append}
use Rattle.std.specs.Io.KnownBytes.{Consumes}
use Rattle.std.proofs.lemmas.Bool.{false≢true}
use Rattle.std.proofs.lemmas.List.{map-append}
use Rattle.std.proofs.lemmas.List.Elements.{All-take}
use Rattle.std.proofs.Math.Seq.{take-append_seam, get_or-append_seam}
use Rattle.csv.specs.Reading.{default_config, records, strip_bom, is_bom}
use Rattle.csv.specs.declared.parser.State.TheVariants as st
use Rattle.sk_model.specs.Lines.{AreWithin, IsFirstLong}
use Rattle.sk_model.specs.Limits.{line_limit, most_kept}
use Rattle.sk_model.specs.Missing.{Begins}
use Rattle.sk_model.proofs.Lines.{long_after_front}
use Rattle.sk_model.proofs.Missing.{begins_append, begins_more, begins_trans}
use Rattle.sk_read.specs.declared.fault.Fault.{Fault}
use Rattle.sk_read.specs.declared.fault.Fault.TheVariants as fault
use Rattle.sk_read.specs.declared.records.parts.Parts.{Parts}
use Rattle.sk_read.specs.declared.units.Units.TheVariants.{Column}
use Rattle.sk_read.specs.Parts.{HasTaken, HasHeld, AreInTime, Lacks, Refills}
use Rattle.sk_read.specs.Scan.{state_after}
use Rattle.sk_read.specs.Reads.{IsSettled, IsInTime, BreaksOff, StopsAt, Ends}
use Rattle.sk_read.specs.Records.{Row, records_of, complete_records_of, field_of, fields_in, width_of, AreEven, AreSoundRows, IsUneven}
use Rattle.sk_read.specs.Columns.{StopsBehind, EndsAt, Breaks}
use Rattle.sk_read.specs.Units.{IsSoundUpTo, IsLongBehind, IsUnevenBehind}
use Rattle.sk_read.proofs.ItemLaws.{front_is}
use Rattle.sk_read.proofs.LineEnds.{settled_so}
use Rattle.sk_read.proofs.ColumnLaws.{length_fields, fields_more, none_sound}
use Rattle.sk_read.proofs.Runs.{records_append, records_few}

-- the records that begin with these and then this one
abbrev begun : List Row → Row → List Row → List Row
begun given row more = (given ++ row ∷ []) ++ more

fields_begun : (column : ℕ) (given : List Row) (row : Row) (more : List Row) → fields_in column (begun given row more) ≡ fields_in column given ++ field_of column row ∷ fields_in column more
fields_begun column given row more =
    map-append (field_of column) (given ++ row ∷ []) more ∙ ap (λ (l : List (List ℕ)). l ++ fields_in column more) (map-append (field_of column) given (row ∷ []))
    ∙ append_assoc (fields_in column given) (field_of column row ∷ []) (fields_in column more)

width_begun : (given : List Row) (row : Row) (more : List Row) → width_of (begun given row more) ≡ width_of (given ++ row ∷ [])
width_begun [] row more = refl
width_begun (first ∷ given) row more = refl

-- the whole records held, before those that follow
pub whole_rows : (p : Parts) (rows : List Row) (taken later : List ℕ) → HasTaken p rows taken → (p.ended ≡ true → later ≡ []) →
    (more : List Row) × (records_of (taken ++ later) ≡ (rows ++ records default_config (take p.cut p.bytes.items)) ++ more)
whole_rows p rows taken later has over =
    let is = has.cut in
    let between : state_after st.StartRecord is.front ≡ st.StartRecord = is.between (omega (arith, has.some)) in
    let given : take p.cut p.bytes.items ≡ is.front =
    ap (λ (l : List ℕ). take p.cut l) is.joined ∙ ap (λ (n : ℕ). take n (is.front ++ is.back)) (sym is.size) ∙ take-append_seam is.front is.back in
    let more = records default_config (is.back ++ later) in (
      more,
      has.follows later over
          ∙ ap (λ (l : List ℕ). rows ++ records default_config l) (ap (λ (l : List ℕ). l ++ later) is.joined ∙ append_assoc is.front is.back later)
          ∙ ap (λ (l : List Row). rows ++ l) (records_append is.front (is.back ++ later) between)
          ∙ sym (append_assoc rows (records default_config is.front) more)
          ∙ ap (λ (l : List ℕ). (rows ++ records default_config l) ++ more) (sym given),
    )

strip_shorter : (text : List ℕ) → length (strip_bom text) ≤ length text
unfolding strip_bom
strip_shorter [] = omega arith
strip_shorter (a ∷ []) = omega arith
strip_shorter (a ∷ b ∷ []) = omega arith
strip_shorter (a ∷ b ∷ c ∷ rest) = by (is_bom a b c) refl
  where
    by : (x : Bool) → is_bom a b c ≡ x → length (strip_bom (a ∷ b ∷ c ∷ rest)) ≤ length (a ∷ b ∷ c ∷ rest)
    by true e = rw e (omega arith)
    by false e = rw e (omega arith)

pub few_records : (text : List ℕ) → length (records_of text) ≤ length text
unfolding records_of
few_records text = omega (arith, records_few (strip_bom text), strip_shorter text)

-- there is room for the records of a part
pub room_whole : (p : Parts) (rows : List Row) (taken : List ℕ) → HasTaken p rows taken → length rows + length (records default_config (take p.cut p.bytes.items)) ≤ most_kept
room_whole p rows taken has =
    let part = records default_config (take p.cut p.bytes.items) in
    let whole = whole_rows p rows taken [] has (λ _. refl) in
    omega (arith, few_records (taken ++ []), ap length whole.1, length-append (rows ++ part) whole.0, length-append rows part, ap length (append-nil taken), has.count, has.bound, has.few)

pub room_rest : (p : Parts) (rows : List Row) (taken : List ℕ) → HasTaken p rows taken → length rows + length (records default_config p.bytes.items) ≤ most_kept
room_rest p rows taken has =
    let all : records_of (taken ++ []) ≡ rows ++ records default_config p.bytes.items =
    has.follows [] (λ _. refl) ∙ ap (λ (l : List ℕ). rows ++ records default_config l) (append-nil p.bytes.items) in
    omega (arith, few_records (taken ++ []), ap length all, length-append rows (records default_config p.bytes.items), ap length (append-nil taken), has.count, has.bound, has.few)

-- ---- what comes first in every text that continues from here

pub whole_settled : (p : Parts) (left : Option (List ℕ)) (rows : List Row) (taken : List ℕ) → HasHeld p left rows taken →
    IsSettled (λ (text : List ℕ). Begins (rows ++ records default_config (take p.cut p.bytes.items)) (records_of text)) left taken
whole_settled p left rows taken held = go p.ended refl
  where
    First : List ℕ → Type 0
    First text = Begins (rows ++ records default_config (take p.cut p.bytes.items)) (records_of text)

    go : (b : Bool) → p.ended ≡ b → IsSettled (λ (text : List ℕ). Begins (rows ++ records default_config (take p.cut p.bytes.items)) (records_of text)) left taken
    go true ended = inr (
      (held.end ended).0,
      subst (λ (l : List ℕ). Begins (rows ++ records default_config (take p.cut p.bytes.items)) (records_of l)) (append-nil taken) (whole_rows p rows taken [] held.has (λ _. refl)),
    )
    go false going = inl (λ later. whole_rows p rows taken later held.has (λ over. absurd (false≢true (sym going ∙ over))))

pub rest_is : (p : Parts) (left : Option (List ℕ)) (rows : List Row) (taken : List ℕ) → HasHeld p left rows taken → records_of taken ≡ rows ++ records default_config p.bytes.items
rest_is p left rows taken held =
    sym (ap records_of (append-nil taken)) ∙ held.has.follows [] (λ _. refl) ∙ ap (λ (l : List ℕ). rows ++ records default_config l) (append-nil p.bytes.items)

pub rest_settled : (p : Parts) (left : Option (List ℕ)) (rows : List Row) (taken : List ℕ) → HasHeld p left rows taken → p.ended ≡ true →
    IsSettled (λ (text : List ℕ). Begins (rows ++ records default_config p.bytes.items) (records_of text)) left taken
rest_settled p left rows taken held over = inr ((held.end over).0, ([], rest_is p left rows taken held ∙ sym (append-nil (rows ++ records default_config p.bytes.items))))

-- ---- beginnings of records

all_front : {X : Type 0} (P : X → Type 0) (xs ys : List X) → All P (xs ++ ys) → All P xs
all_front {X} P xs ys all = subst (All P) (take-append_seam xs ys) (All-take P (length xs) (xs ++ ys) all)

sound_front : (column : ℕ) (xs ys : List Row) → AreSoundRows column (xs ++ ys) → AreSoundRows column xs
sound_front column [] ys sound = none_sound column
sound_front column (x ∷ xs) ys sound = record {
  even = all_front (λ (row : Row). (length row ≡ length x) × (column < length row)) (x ∷ xs) ys sound.even;
  within = all_front (λ (l : List ℕ). length l ≤ line_limit) (fields_in column (x ∷ xs)) (fields_in column ys)
      (subst (AreWithin line_limit) (map-append (field_of column) (x ∷ xs) ys) sound.within);
}

pub sound_begins : (column : ℕ) (xs ys : List Row) → Begins xs ys → AreSoundRows column ys → AreSoundRows column xs
sound_begins column xs ys begins sound = sound_front column xs begins.0 (subst (AreSoundRows column) begins.1 sound)

fields_begin : (column : ℕ) (xs ys : List Row) → Begins xs ys → Begins (fields_in column xs) (fields_in column ys)
fields_begin column xs ys begins = (fields_in column begins.0, ap (fields_in column) begins.1 ∙ map-append (field_of column) xs begins.0)

begins_under : (zs xs ys : List Row) → Begins xs ys → Begins (zs ++ xs) (zs ++ ys)
begins_under zs xs ys begins = (begins.0, ap (λ (l : List Row). zs ++ l) begins.1 ∙ sym (append_assoc zs xs begins.0))

reaches : (rows some more all : List Row) (next : Row) → Begins (some ++ next ∷ []) more → Begins (rows ++ more) all → Begins ((rows ++ some) ++ next ∷ []) all
reaches rows some more all next begins settled =
    subst (λ (l : List Row). Begins l all) (sym (append_assoc rows some (next ∷ []))) (begins_trans (rows ++ (some ++ next ∷ [])) (rows ++ more) all (begins_under rows (some ++ next ∷ []) more begins) settled)

fields_in_time : (last column : ℕ) (rows given : List Row) (taken : List ℕ) → Begins rows given → AreSoundRows column rows → AreInTime last rows taken → IsInTime last (Column column) (fields_in column given) taken
fields_in_time last column rows given taken begins sound is = record {
  front = is.front;
  piece = is.piece;
  joined = is.joined;
  size = is.size;
  few = is.few;
  sound = sound_begins column (complete_records_of is.front) rows is.earlier sound;
  earlier = fields_begin column (complete_records_of is.front) given (begins_trans (complete_records_of is.front) rows given is.earlier begins);
}

-- the first of all records, this many, are these
front_rows : (column n : ℕ) (given all : List Row) → n ≡ length given → Begins given all → take n all ≡ given
front_rows column n given all is begins = ap (λ (m : ℕ). take m all) is ∙ front_is given all begins

-- after these records comes one whose field is too long
long_behind : (column : ℕ) (given all : List Row) (next : Row) → Begins (given ++ next ∷ []) all → AreSoundRows column given → AreEven column (given ++ next ∷ []) → line_limit < length (field_of column next) →
    AreEven column (take (length (fields_in column given) + 1) all) × IsFirstLong line_limit (length (fields_in column given)) (fields_in column all)
long_behind column given all next begins sound even long =
    let place : length (fields_in column given) + 1 ≡ length (given ++ next ∷ []) = omega (arith, length_fields column given, length-append given (next ∷ [])) in
    let fields = ap (fields_in column) begins.1 ∙ fields_begun column given next begins.0 in (
      subst (AreEven column) (sym (front_rows column (length (fields_in column given) + 1) (given ++ next ∷ []) all place begins)) even,
      subst (IsFirstLong line_limit (length (fields_in column given))) (sym fields) (long_after_front line_limit (fields_in column given) (field_of column next) (fields_in column begins.0) sound.within long),
    )

-- after these records comes one that has not as many fields or no such column
uneven_behind : (column : ℕ) (given all : List Row) (next : Row) → Begins (given ++ next ∷ []) all → AreSoundRows column given →
    (length next ≢ width_of (given ++ next ∷ [])) ⊎ (length next ≤ column) → IsUneven column (length (fields_in column given)) all
uneven_behind column given all next begins sound why = record {
  to = omega (arith, length_fields column given, ap length begins.1, length-append (given ++ next ∷ []) begins.0, length-append given (next ∷ []));
  before = subst (AreSoundRows column) (sym (front_rows column (length (fields_in column given)) given all (length_fields column given) (begins_trans given (given ++ next ∷ []) all (begins_append given (next ∷ [])) begins))) sound;
  uneven = by why;
}
  where
    here : get_or all (length (fields_in column given)) [] ≡ next
    here = ap (λ (m : ℕ). get_or all m []) (length_fields column given) ∙ ap (λ (l : List Row). get_or l (length given) []) (begins.1 ∙ append_assoc given (next ∷ []) begins.0) ∙ get_or-append_seam given next begins.0 []

    width : width_of all ≡ width_of (given ++ next ∷ [])
    width = ap width_of begins.1 ∙ width_begun given next begins.0

    by : (length next ≢ width_of (given ++ next ∷ [])) ⊎ (length next ≤ column) →
        (length (get_or all (length (fields_in column given)) []) ≢ width_of all) ⊎ (length (get_or all (length (fields_in column given)) []) ≤ column)
    by (inl other) = inl (λ same. other (ap length (sym here) ∙ same ∙ width))
    by (inr short) = inr (omega (arith, short, ap length here))

-- ---- where the reading ended

module _ (Gave : List (List ℕ) → Type 0) (Stopped : Fault → List (List ℕ) → List ℕ → Type 0) (last column most : ℕ) (old left : Option (List ℕ)) (taken : List ℕ) (consumed : Consumes old left taken) where
  abbrev E : Fault → Type 0
  E f = Ends last (Column column) most Gave Stopped old left f

  -- the reading broke off after these records
  off : (Known : List (List ℕ) → Type 0) (Comes : List (List ℕ) → List ℕ → Type 0) (rows given : List Row) → length taken ≤ most → AreInTime last rows taken → AreSoundRows column rows → Begins rows given →
      Known (fields_in column given) → IsSettled (λ (text : List ℕ). Begins (fields_in column given) (fields_in column (records_of text)) × Comes (fields_in column given) text) left taken →
      BreaksOff last (Column column) most Known Comes old left
  off Known Comes rows given size in_time sound begins known comes = record {
    given = fields_in column given;
    taken = taken;
    consumed = consumed;
    size = size;
    in_time = fields_in_time last column rows given taken begins sound in_time;
    known = known;
    comes = comes;
  }

  -- no record came after these
  pub no_row : (rows : List Row) (f : Fault) → AreSoundRows column rows → Gave (fields_in column rows) → Lacks last most rows taken f → E f
  no_row rows fault.ReadFault sound gave lacks = record {
    taken = taken;
    consumed = consumed;
    size = lacks.1;
    sound = subst (AreSoundRows column) (sym lacks.0) sound;
    gave = subst (λ (l : List Row). Gave (fields_in column l)) (sym lacks.0) gave;
  }
  no_row rows fault.TooMuch sound gave lacks = record {
    taken = taken;
    consumed = consumed;
    size = lacks.1;
    sound = subst (AreSoundRows column) (sym lacks.0) sound;
    gave = subst (λ (l : List Row). Gave (fields_in column l)) (sym lacks.0) gave;
  }
  no_row rows fault.OutOfMemory sound gave lacks = inl (
      off Gave (λ given text. IsSoundUpTo (Column column) (length given) text) rows rows lacks.0 lacks.1 sound ([], sym (append-nil rows)) gave (inl (λ later. (
        fields_begin column rows (records_of (taken ++ later)) (lacks.2 later),
        subst (AreSoundRows column) (sym (front_rows column (length (fields_in column rows)) rows (records_of (taken ++ later)) (length_fields column rows) (lacks.2 later))) sound,
      ))))
  no_row rows _ sound gave lacks = absurd lacks

  -- the reading broke off after some of some more records, at the next one
  off_at : (rows more : List Row) (f : Fault) (Known : List (List ℕ) → Type 0) (Comes : List (List ℕ) → List ℕ → Type 0) → length taken ≤ most → AreInTime last rows taken → AreSoundRows column rows →
      IsSettled (λ (text : List ℕ). Begins (rows ++ more) (records_of text)) left taken → (at : EndsAt column Gave Stopped rows more f) → Known (fields_in column (rows ++ at.some)) →
      ((all : List ℕ) → Begins ((rows ++ at.some) ++ at.next ∷ []) (records_of all) → Comes (fields_in column (rows ++ at.some)) all) → BreaksOff last (Column column) most Known Comes old left
  off_at rows more f Known Comes size in_time sound settled at known comes =
      let given = rows ++ at.some in
      off Known Comes rows given size in_time sound (begins_append rows at.some) known
      (settled_so (λ (text : List ℕ). Begins (rows ++ more) (records_of text)) (λ (text : List ℕ). Begins (fields_in column given) (fields_in column (records_of text)) × Comes (fields_in column given) text) left taken (λ text first.
      let begins = reaches rows at.some more (records_of text) at.next at.begins first in
      (fields_begin column given (records_of text) (begins_trans given (given ++ at.next ∷ []) (records_of text) (begins_append given (at.next ∷ [])) begins), comes text begins)) settled)

  -- a taker stopped at the field of one of some more records
  stops_at : (rows more : List Row) (f : Fault) (Known : List (List ℕ) → List ℕ → Type 0) → length taken ≤ most → AreInTime last rows taken → AreSoundRows column rows → IsSettled (λ (text : List ℕ). Begins (rows ++ more) (records_of text)) left taken →
      (at : EndsAt column Gave Stopped rows more f) → StopsBehind column Stopped (rows ++ at.some) at.next f → Known (fields_in column (rows ++ at.some)) (field_of column at.next) → StopsAt last (Column column) most Known old left
  stops_at rows more f Known size in_time sound settled at behind known =
      let given = rows ++ at.some in
      let unit = field_of column at.next in
      let place : length (fields_in column given) + 1 ≡ length (given ++ at.next ∷ []) = omega (arith, length_fields column given, length-append given (at.next ∷ [])) in (
        unit,
        off_at rows more f (λ given. Known given unit) (λ given text. Begins (given ++ unit ∷ []) (fields_in column (records_of text)) × IsSoundUpTo (Column column) (length given + 1) text) size in_time sound settled at known (λ text begins. (
          subst (λ (l : List (List ℕ)). Begins l (fields_in column (records_of text))) (fields_more column given at.next) (fields_begin column (given ++ at.next ∷ []) (records_of text) begins),
          subst (AreSoundRows column) (sym (front_rows column (length (fields_in column given) + 1) (given ++ at.next ∷ []) (records_of text) place begins)) behind.0,
        )),
      )

  -- one of some more records was refused, or memory ran out after some of them
  pub broke : (rows more : List Row) (f : Fault) → length taken ≤ most → AreInTime last rows taken → AreSoundRows column rows → IsSettled (λ (text : List ℕ). Begins (rows ++ more) (records_of text)) left taken →
      Breaks column Gave Stopped rows more f → E f
  broke rows more fault.OutOfMemory size in_time sound settled (inl breaks) =
      let given = rows ++ breaks.some in
      inl (off Gave (λ given text. IsSoundUpTo (Column column) (length given) text) rows given size in_time sound (begins_append rows breaks.some) breaks.gave
      (settled_so (λ (text : List ℕ). Begins (rows ++ more) (records_of text)) (λ (text : List ℕ). Begins (fields_in column given) (fields_in column (records_of text)) × AreSoundRows column (take (length (fields_in column given)) (records_of text))) left taken (λ text first.
      let begins = begins_trans given (rows ++ more) (records_of text) (begins_under rows breaks.some more breaks.begins) first in (
        fields_begin column given (records_of text) begins,
        subst (AreSoundRows column) (sym (front_rows column (length (fields_in column given)) given (records_of text) (length_fields column given) begins)) breaks.sound,
      )) settled))
  broke rows more fault.OutOfMemory size in_time sound settled (inr breaks) = inr (stops_at rows more fault.OutOfMemory (Stopped fault.OutOfMemory) size in_time sound settled breaks breaks.refused breaks.refused.1)
  broke rows more fault.WriteFault size in_time sound settled breaks = stops_at rows more fault.WriteFault (Stopped fault.WriteFault) size in_time sound settled breaks breaks.refused breaks.refused.1
  broke rows more fault.ReadFault size in_time sound settled breaks = absurd breaks.refused
  broke rows more fault.TooMuch size in_time sound settled breaks = absurd breaks.refused
  broke rows more (fault.LongLine n) size in_time sound settled breaks =
      let given = rows ++ breaks.some in
      let place : n ≡ length (fields_in column given) + 1 = omega (arith, breaks.refused.0, length_fields column given) in
      off_at rows more (fault.LongLine n) Gave (λ given text. (n ≡ length given + 1) × IsLongBehind (Column column) (length given) text) size in_time sound settled breaks breaks.refused.3
      (λ text begins. (place, long_behind column given (records_of text) breaks.next begins breaks.sound breaks.refused.1 breaks.refused.2))
  broke rows more (fault.BadCsv n) size in_time sound settled breaks =
      let given = rows ++ breaks.some in
      let place : n ≡ length (fields_in column given) + 1 = omega (arith, breaks.refused.0, length_fields column given) in
      off_at rows more (fault.BadCsv n) Gave (λ given text. (n ≡ length given + 1) × IsUnevenBehind (Column column) (length given) text) size in_time sound settled breaks breaks.refused.2
      (λ text begins. (place, uneven_behind column given (records_of text) breaks.next begins breaks.sound breaks.refused.1))
  broke rows more (fault.BadItem n) size in_time sound settled breaks =
      let place : n ≡ length (fields_in column (rows ++ breaks.some)) + 1 = omega (arith, breaks.refused.0, length_fields column (rows ++ breaks.some)) in
      stops_at rows more (fault.BadItem n) (λ given unit. (n ≡ length given + 1) × Stopped (fault.BadItem n) given unit) size in_time sound settled breaks breaks.refused.1 (place, breaks.refused.1.1)

-- what a refill leaves
pub held_by : (p : Parts) (left : Option (List ℕ)) (rows : List Row) (taken : List ℕ) (b : Bool) → Refills p left rows taken (Ok b) → HasHeld p left rows taken
held_by p left rows taken true filled = filled.0
held_by p left rows taken false filled = filled.0

pub over_by : (p : Parts) (left : Option (List ℕ)) (rows : List Row) (taken : List ℕ) (b : Bool) → b ≡ false → Refills p left rows taken (Ok b) → HasHeld p left rows taken × (p.ended ≡ true)
over_by p left rows taken true is filled = absurd (false≢true (sym is))
over_by p left rows taken false is filled = filled

pub cut_by : (p : Parts) (left : Option (List ℕ)) (rows : List Row) (taken : List ℕ) (b : Bool) → b ≡ true → Refills p left rows taken (Ok b) → 1 < p.cut
cut_by p left rows taken true is filled = filled.1
cut_by p left rows taken false is filled = absurd (false≢true is)

-- the whole records held were given
pub held_on : (p new : Parts) (left : Option (List ℕ)) (rows more : List Row) (taken : List ℕ) → HasHeld p left rows taken → HasTaken new (rows ++ more) taken → new.most ≡ p.most → new.taken ≡ p.taken →
    new.ended ≡ p.ended → new.last ≡ p.last → HasHeld new left (rows ++ more) taken
held_on p new left rows more taken held has most count ended last = record {
  has = has;
  end = λ over. let at = held.end (sym ended ∙ over) in (at.0, omega (arith, at.1, most, count));
  in_time = record {
    front = held.in_time.front;
    piece = held.in_time.piece;
    joined = held.in_time.joined;
    size = omega (arith, held.in_time.size, last);
    few = held.in_time.few;
    earlier = begins_more (complete_records_of held.in_time.front) rows more held.in_time.earlier;
  };
}
