-- The forms in memory as contracts see them, and what a call makes of them.
use Rattle.std.specs.Prelude.{◌≡◌, ℕ, ◌+◌, ◌-◌, ◌^◌, ◌==◌, Bool, ◌||◌, if◌then◌else◌, min, List, [], ◌++◌, length, map, take, drop, slice_get, Option, Some, is_none, Vec, String, string_bytes}
use Rattle.std.specs.List.{list_any}
use Rattle.std.specs.Option.{option_map, option_map_or}
use Rattle.sk_io.specs.Files.{file_named}
use Rattle.sk_io.specs.Traffic.{Traffic, IsUntouched, Ended, Doorway, text_of}
use Rattle.sk_io.specs.declared.mem_shelf.MemFile.{MemFile}

-- the numbers of the calls that fail, and how many calls were made and failed
pub record Calls : Type 0 where
  pub fails : List ℕ
  pub made : ℕ
  pub faults : ℕ

-- before the first call
abbrev pub planned : List ℕ → Calls
planned fails = record { fails = fails; made = 0; faults = 0 }

-- whether the next call is one of those that fail
abbrev pub next_fails : Calls → Bool
next_fails c = list_any (λ number. number == c.made) c.fails

-- a count after one more, which stops at the end of `u64`
abbrev pub one_more : ℕ → ℕ
one_more n = min (n + 1) (2 ^ 64 - 1)

-- one more call was made
abbrev pub called : Calls → Calls
called c = record c { made = one_more c.made }

-- one more call failed
abbrev pub failed : Calls → Calls
failed c = record c { faults = one_more c.faults }

-- a text that is read: the bytes that are left, and how many the last read gave
pub record TextState : Type 0 where
  pub left : List ℕ
  pub last : ℕ

-- before the first read
abbrev pub unread_text : List ℕ → TextState
unread_text bytes = record { left = bytes; last = 0 }

-- a source: the bytes that it has left, the most that it gives a call, how many the last read gave, and its calls
pub record SourceState : Type 0 where
  pub left : List ℕ
  pub piece : ℕ
  pub last : ℕ
  pub calls : Calls

-- how many bytes the next read gives to a buffer of this length
abbrev pub next_given : SourceState → ℕ → ℕ
next_given s len = min (min len s.piece) (length s.left)

-- after a read into a buffer of this length
abbrev pub after_read : SourceState → ℕ → SourceState
after_read s len = if next_fails s.calls
    then record s { calls = failed (called s.calls) }
    else record s { left = drop (next_given s len) s.left; last = next_given s len; calls = called s.calls }

-- a sink: the bytes that were written, the most that it holds, the most that it takes a call, and
-- its calls
pub record SinkState : Type 0 where
  pub written : List ℕ
  pub room : ℕ
  pub piece : ℕ
  pub calls : Calls

-- whether the next write fails, as one that is listed or when the room is full
abbrev pub refuses : SinkState → Bool
refuses s = next_fails s.calls || s.room - length s.written == 0

-- how many of `len` bytes the next write takes
abbrev pub next_taken : SinkState → ℕ → ℕ
next_taken s len = min (min len s.piece) (s.room - length s.written)

-- after a write of these bytes
abbrev pub after_write : SinkState → List ℕ → SinkState
after_write s bytes = if refuses s
    then record s { calls = failed (called s.calls) }
    else record s { written = s.written ++ take (next_taken s (length bytes)) bytes; calls = called s.calls }

-- a shelf: its files, its calls of `open` and of `read`, the names that were opened, as long as there was memory for
-- them, the file that was opened or read last, and how many bytes the last read gave
pub record ShelfState : Type 0 where
  pub files : List (List ℕ × List ℕ)
  pub opens : Calls
  pub reads : Calls
  pub opened : Option (List (List ℕ))
  pub last : MemFile
  pub last_read : ℕ

-- each file as its name with its bytes
abbrev pub stored : {Z Y : Type 0} → List (String Z × Vec ℕ Y) → List (List ℕ × List ℕ)
stored {Z} {Y} files = map (λ (f : String Z × Vec ℕ Y). (string_bytes f.0, f.1.items)) files

-- the bytes of each name
abbrev pub names_in : {Z Y : Type 0} → Option (Vec (String Z) Y) → Option (List (List ℕ))
names_in {Z} {Y} kept = option_map (λ (names : Vec (String Z) Y). map (λ (name : String Z). string_bytes name) names.items) kept

-- the bytes of the file with this number, from 0
abbrev pub bytes_of : List (List ℕ × List ℕ) → ℕ → List ℕ
bytes_of files number = option_map_or (λ (f : List ℕ × List ℕ). f.1) (slice_get files number) []

-- the bytes that an open file has left
abbrev pub unread : ShelfState → MemFile → List ℕ
unread s file = drop file.at (bytes_of s.files file.number)

-- whether an open of this name fails, as one that is listed or since there is no such file
abbrev pub cannot_open : ShelfState → List ℕ → Bool
cannot_open s name = next_fails s.opens || is_none (file_named s.files name)

-- after an open of this name, but for the names that were opened and the last file
abbrev pub after_open : ShelfState → List ℕ → ShelfState
after_open s name = if cannot_open s name
    then record s { opens = failed (called s.opens) }
    else record s { opens = called s.opens }

-- after a read of this file that gives this many bytes if it does not fail
abbrev pub after_shelf_read : ShelfState → MemFile → ℕ → ShelfState
after_shelf_read s file n = if next_fails s.reads
    then record s { reads = failed (called s.reads); last = file }
    else record s { reads = called s.reads; last = file; last_read = n }

-- a link: its traffic, how many bytes may be written on it, the most that one call moves, and its calls
pub record LinkState : Type 0 where
  pub traffic : Traffic
  pub room : ℕ
  pub piece : ℕ
  pub calls : Calls

-- before the first call
abbrev pub new_link : List ℕ → ℕ → ℕ → List ℕ → LinkState
new_link bytes room piece fails = record {
  traffic = record { taken = []; left = bytes; written = [] };
  room = room;
  piece = piece;
  calls = planned fails;
}

-- no read or write was called
pub record IsNew (l : LinkState) : Type 0 where
  pub traffic : IsUntouched l.traffic
  pub calls : l.calls ≡ planned l.calls.fails

-- how many bytes the next read gives to a buffer of this length
abbrev pub next_received : LinkState → ℕ → ℕ
next_received l len = min (min len l.piece) (length l.traffic.left)

-- this many more bytes were read
abbrev pub having_read : ℕ → Traffic → Traffic
having_read n t = record t { taken = t.taken ++ take n t.left; left = drop n t.left }

-- after a read into a buffer of this length
abbrev pub after_link_read : LinkState → ℕ → LinkState
after_link_read l len = if next_fails l.calls
    then record l { calls = failed (called l.calls) }
    else record l { traffic = having_read (next_received l len) l.traffic; calls = called l.calls }

-- whether the next write fails, as one that is listed or when the room is full
abbrev pub refuses_on : LinkState → Bool
refuses_on l = next_fails l.calls || l.room - length l.traffic.written == 0

-- how many of `len` bytes the next write takes
abbrev pub next_sent : LinkState → ℕ → ℕ
next_sent l len = min (min len l.piece) (l.room - length l.traffic.written)

-- these bytes more were written
abbrev pub having_sent : List ℕ → Traffic → Traffic
having_sent bytes t = record t { written = t.written ++ bytes }

-- after a write of these bytes
abbrev pub after_link_write : LinkState → List ℕ → LinkState
after_link_write l bytes = if refuses_on l
    then record l { calls = failed (called l.calls) }
    else record l { traffic = having_sent (take (next_sent l (length bytes)) bytes) l.traffic; calls = called l.calls }

-- a door: the links that it will give, those that were closed, how many were accepted, how many more may be closed, the
-- port that it listens at, and its calls of `listen` and `accept`
pub record DoorState : Type 0 where
  pub waiting : List LinkState
  pub closed : List LinkState
  pub accepted : ℕ
  pub room : ℕ
  pub port : Option ℕ
  pub calls : Calls

-- the record of a link that was closed
abbrev pub ended_of : LinkState → Ended
ended_of l = record { traffic = Some l.traffic; faults = l.calls.faults; waiting = 0 }

-- what a door shows, of which all is known
abbrev pub doorway_of : DoorState → Doorway
doorway_of d = record { port = d.port; coming = Some (map (λ l. text_of (Some l.traffic)) d.waiting); closed = map ended_of d.closed }

-- whether the next accept fails, as one that is listed or since no link is left
abbrev pub cannot_accept : DoorState → Bool
cannot_accept d = next_fails d.calls || length d.waiting == 0

-- after an accept
abbrev pub after_accept : DoorState → DoorState
after_accept d = if cannot_accept d
    then record d { calls = failed (called d.calls) }
    else record d { waiting = drop 1 d.waiting; accepted = one_more d.accepted; calls = called d.calls }
