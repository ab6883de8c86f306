-- What an opening hands back.
use Rattle.std.specs.Prelude.{Result, Ok, Err}
use Rattle.std.specs.Borrow.{MutBor}
use Rattle.sk_io.specs.declared.shelf.Shelf as shelf
use Rattle.sk_io.specs.declared.open_file.OpenFile.{OpenFile}
use Rattle.sk_io.specs.declared.open_file.NotOpened.{NotOpened}

-- the borrow of the shelf, which the file holds or the error
abbrev pub shelf_in : {F D : Type 0} {g : shelf.Ghosts F D} → Result (OpenFile F D g) (NotOpened F) → MutBor F
shelf_in (Ok file) = file.shelf
shelf_in (Err e) = e.shelf
