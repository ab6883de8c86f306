-- What is held of a source that is read in parts, each of whole records.
use Rattle.std.specs.Prelude.{◌≡◌, ◌≢◌, ◌≤◌, ◌<◌, ◌⊎◌, ℕ, ◌+◌, ◌-◌, Bool, true, false, ◌==◌, ◌&&◌, List, [], ◌∷◌, ◌++◌, length, slice_index, Option, Result, Ok, Err}
use Rattle.std.specs.Io.KnownBytes.{IsAtEnd}
use Rattle.sk_model.specs.Missing.{Begins}
use Rattle.sk_read.specs.Reads.{piece_limit}
use Rattle.csv.specs.Reading.{default_config, records}
use Rattle.csv.specs.declared.parser.State.TheVariants as st
use Rattle.sk_read.specs.Scan.{state_of, IsCut}
use Rattle.sk_read.specs.Records.{Row, records_of, complete_records_of}
use Rattle.sk_read.specs.declared.records.parts.Parts.{Parts}
use Rattle.sk_read.specs.declared.fault.Fault.{Fault}
use Rattle.sk_read.specs.declared.fault.Fault.TheVariants as fault
use Rattle.sk_model.specs.Limits.{source_limit}

-- a text begins with a byte that ends a record, LF or CR
abbrev pub IsLed : List ℕ → Type 0
IsLed text = (1 ≤ length text) × ((slice_index text 0 ≡ 10) ⊎ (slice_index text 0 ≡ 13))

-- of the bytes taken of a source these records were given, and the bytes held continue from there
pub record HasTaken (p : Parts) (rows : List Row) (taken : List ℕ) : Type 0 where
  pub follows : (later : List ℕ) → (p.ended ≡ true → later ≡ []) →
      records_of (taken ++ later) ≡ rows ++ records default_config (p.bytes.items ++ later)
  pub led : IsLed p.bytes.items
  pub cut : IsCut st.StartRecord p.bytes.items (state_of p.place) p.cut
  pub some : 1 ≤ p.cut
  pub count : length taken ≡ p.taken
  pub bound : p.taken ≤ p.most
  pub few : p.most ≤ source_limit

-- these bytes more are held, none only where the source has ended
pub record Holds (old new : Parts) (more : List ℕ) : Type 0 where
  pub bytes : new.bytes.items ≡ old.bytes.items ++ more
  pub taken : new.taken ≡ old.taken + length more
  pub bound : new.taken ≤ new.most
  pub end : new.ended ≡ true → (more ≡ []) × (new.taken < new.most)
  pub last : new.last ≡ length more
  pub going : new.ended ≡ false → 1 ≤ length more
  pub cut : new.cut ≡ old.cut
  pub place : new.place ≡ old.place
  pub most : new.most ≡ old.most

-- how many bytes may still be given in parts
abbrev pub remaining_of : Parts → ℕ
remaining_of p = length p.bytes.items + (p.most - p.taken)

-- the first bytes of a byte order mark, and not all of it
abbrev pub is_mark_front : List ℕ → Bool
is_mark_front [] = true
is_mark_front (a ∷ []) = a == 0xEF
is_mark_front (a ∷ b ∷ []) = (a == 0xEF) && (b == 0xBB)
is_mark_front (a ∷ b ∷ c ∷ rest) = false

-- the bytes of the byte order mark, U+FEFF in UTF-8
abbrev pub mark : List ℕ
mark = 0xEF ∷ 0xBB ∷ 0xBF ∷ []

-- none of the bytes taken where they are a byte order mark, else all
abbrev pub IsWithoutMark : List ℕ → List ℕ → Type 0
IsWithoutMark taken held = ((taken ≡ mark) × (held ≡ [])) ⊎ ((taken ≢ mark) × (held ≡ taken))

-- the first bytes of a source were taken, enough to know whether they are a byte order mark
pub record HasStarted (p : Parts) (taken : List ℕ) : Type 0 where
  pub bytes : p.bytes.items ≡ 10 ∷ taken
  pub small : length taken ≤ 3
  pub told : p.ended ≡ false → is_mark_front taken ≡ false
  pub count : length taken ≡ p.taken
  pub bound : p.taken ≤ p.most
  pub few : p.most ≤ source_limit

-- of the bytes taken, all but those of the last read, which gave this many, were examined: the records that have
-- ended in them are among these
pub record AreInTime (last : ℕ) (rows : List Row) (taken : List ℕ) : Type 0 where
  pub front : List ℕ
  pub piece : List ℕ
  pub joined : taken ≡ front ++ piece
  pub size : length piece ≤ last
  pub few : length piece ≤ piece_limit
  pub earlier : Begins (complete_records_of front) rows

-- of a source that has this left these bytes were taken, and exactly these records of them given
pub record HasHeld (p : Parts) (left : Option (List ℕ)) (rows : List Row) (taken : List ℕ) : Type 0 where
  pub has : HasTaken p rows taken
  pub end : p.ended ≡ true → IsAtEnd left × (p.taken < p.most)
  pub in_time : AreInTime p.last rows taken

-- why no byte came after those held, if these more bytes were taken
abbrev pub LacksBytes : Parts → List ℕ → Fault → Type 0
LacksBytes old more fault.ReadFault = (more ≡ []) × (old.taken < old.most)
LacksBytes old more fault.TooMuch = (more ≡ []) × (old.taken ≡ old.most)
LacksBytes old more fault.OutOfMemory = old.taken + length more ≤ old.most
LacksBytes old more _ = ⊥

-- why no record came after these, if these bytes were taken, of which the last read gave this many
abbrev pub Lacks : ℕ → ℕ → List Row → List ℕ → Fault → Type 0
Lacks last most rows taken fault.ReadFault = (complete_records_of taken ≡ rows) × (length taken < most)
Lacks last most rows taken fault.TooMuch = (complete_records_of taken ≡ rows) × (length taken ≡ most)
Lacks last most rows taken fault.OutOfMemory = (length taken ≤ most) × AreInTime last rows taken × ((later : List ℕ) → Begins rows (records_of (taken ++ later)))
Lacks last most rows taken _ = ⊥

-- how a call of `refill` went after these records: a whole record is held, or the source has ended
abbrev pub Refills : Parts → Option (List ℕ) → List Row → List ℕ → Result Bool Fault → Type 0
Refills p left rows taken (Ok true) = HasHeld p left rows taken × (1 < p.cut)
Refills p left rows taken (Ok false) = HasHeld p left rows taken × (p.ended ≡ true)
Refills p left rows taken (Err f) = Lacks p.last p.most rows taken f
