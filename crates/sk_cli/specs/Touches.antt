-- Which of the objects that a run is handed it touches.
use Rattle.std.specs.Prelude.{◌≡◌, ◌≢◌, ℕ, true, false, Option, IfSome}
use Rattle.sk_cli.specs.Command.{Asked, Frame, frame_of}

-- the objects that a run is handed: the standard input, the output, the shelf, the door and the board
pub record Handed (S O F D B : Type 0) : Type 0 where
  pub input : S
  pub out : O
  pub shelf : F
  pub door : D
  pub board : B

abbrev pub handed : {S O F D B : Type 0} → S → O → F → D → B → Handed S O F D B
handed input out shelf door board = record { input = input; out = out; shelf = shelf; door = door; board = board }

-- what is not read, opened or accepted from is not touched; nor is the output if a file can't be opened, or if a command
-- that writes last ends by anything but a failed write
pub record TouchesOnly {S O F D B : Type 0} (frame : Frame) (status : ℕ) (old new : Handed S O F D B) : Type 0 where
  pub input : frame.reads_input ≡ false → new.input ≡ old.input
  pub shelf : frame.opens_files ≡ false → new.shelf ≡ old.shelf
  pub door : frame.accepts_links ≡ false → new.door ≡ old.door
  pub closed : status ≡ 8 → new.out ≡ old.out
  pub last : frame.writes_last ≡ true → status ≢ 0 → status ≢ 4 → new.out ≡ old.out

-- words that ask for nothing touch nothing
pub record Touches {S O F D B : Type 0} (asked : Option Asked) (status : ℕ) (old new : Handed S O F D B) : Type 0 where
  pub usage : status ≡ 2 → new ≡ old
  pub only : IfSome asked (λ a. TouchesOnly (frame_of a) status old new)
