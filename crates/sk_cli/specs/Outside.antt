-- What a run has around it, as contracts see it.
use Rattle.std.specs.Prelude.{ℕ, List, Option}
use Rattle.sk_io.specs.Base.{Base}
use Rattle.sk_io.specs.declared.door.Door as door
use Rattle.sk_io.specs.declared.shelf.Shelf as shelf
use Rattle.sk_io.specs.declared.stream.Sink as sink
use Rattle.sk_io.specs.declared.stream.Source as source
use Rattle.sk_io.specs.Traffic.{Doorway}
use Rattle.sk_watch.specs.declared.board.Seen as seen
use Rattle.sk_watch.specs.Places.{Place}
use Rattle.sk_cli.specs.Beside.{Left, Beside}

-- a source and a sink: the bytes that are left and those that were written, where these are known, how many the last read
-- gave that did not fail, and their counts of faults
pub record Streams : Type 0 where
  pub left : Option (List ℕ)
  pub last : ℕ
  pub read_faults : ℕ
  pub written : Option (List ℕ)
  pub write_faults : ℕ

abbrev pub streams_of : {S O : Type 0} → source.Ghosts S → sink.Ghosts O → S → O → Streams
streams_of s o source out = record { left = s.left source; last = s.last source; read_faults = s.faults source; written = o.written out; write_faults = o.faults out }

-- a sink next to a source that stays, of which this is left, which failed so often and whose last read gave this many bytes
abbrev pub over_output : {O : Type 0} → sink.Ghosts O → Option (List ℕ) → ℕ → ℕ → O → Streams
over_output o left faults last out = record { left = left; last = last; read_faults = faults; written = o.written out; write_faults = o.faults out }

-- a door: what it shows, how many links it has accepted, and how often it has failed
pub record Net : Type 0 where
  pub doorway : Doorway
  pub accepted : ℕ
  pub faults : ℕ

abbrev pub net_of : {D L : Type 0} → door.Ghosts D L → D → Net
net_of d door = record { doorway = d.doorway door; accepted = d.accepted door; faults = d.faults door }

-- all that a run is handed but standard error: the standard input with what it stands on, the files with the names that were opened and what is
-- left of the one opened last, how many bytes the last read of each gave, the output, the board, what is left of a hub, and the door
pub record Outside : Type 0 where
  pub input : Option (List ℕ)
  pub input_last : ℕ
  pub input_faults : ℕ
  pub input_on : Base
  pub files : Option (List (List ℕ × List ℕ))
  pub opened : Option (List (List ℕ))
  pub file_left : Option (List ℕ)
  pub file_last : ℕ
  pub file_faults : ℕ
  pub open_faults : ℕ
  pub written : Option (List ℕ)
  pub write_faults : ℕ
  pub board : List Place
  pub remains : Left
  pub net : Net

abbrev pub outside_with : {S O F D B : Type 0} → source.Ghosts S → sink.Ghosts O → shelf.Ghosts F D → seen.Ghosts B → S → O → F → B → Left → Net → Outside
outside_with s o f b input out shelf board remains net = record {
  input = s.left input;
  input_last = s.last input;
  input_faults = s.faults input;
  input_on = s.stands_on input;
  files = f.files shelf;
  opened = f.opened shelf;
  file_left = f.rest shelf;
  file_last = f.last_read shelf;
  file_faults = f.read_faults shelf;
  open_faults = f.open_faults shelf;
  written = o.written out;
  write_faults = o.faults out;
  board = b.places board;
  remains = remains;
  net = net;
}

abbrev pub outside_of : {S O F P D L B : Type 0} → source.Ghosts S → sink.Ghosts O → shelf.Ghosts F P → door.Ghosts D L → seen.Ghosts B → S → O → F → D → B → Left → Outside
outside_of s o f d b input out shelf door board remains = outside_with s o f b input out shelf board remains (net_of d door)

-- the standard input with the output
abbrev pub over_input : Outside → Streams
over_input o = record { left = o.input; last = o.input_last; read_faults = o.input_faults; written = o.written; write_faults = o.write_faults }

-- a file of which this is left, with the output
abbrev pub over_file : Option (List ℕ) → Outside → Streams
over_file left o = record { left = left; last = o.file_last; read_faults = o.file_faults; written = o.written; write_faults = o.write_faults }

-- the board, and what is left of a hub
abbrev pub beside_in : Outside → Beside
beside_in o = record { board = o.board; remains = o.remains }

-- what a door showed before a run, and what it shows after it
pub record Doorways : Type 0 where
  pub before : Doorway
  pub after : Doorway

abbrev pub doorways : Doorway → Doorway → Doorways
doorways before after = record { before = before; after = after }

-- the door of a run, before and after it
abbrev pub doorways_of : Outside → Outside → Doorways
doorways_of old new = doorways old.net.doorway new.net.doorway
