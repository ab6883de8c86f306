-- Lines of a source that are gathered, given to desks through rings, and fed.
use Rattle.std.specs.Prelude.{◌≡◌, ℕ, ◌+◌, Bool, List, ◌++◌, length, Option, Result, OnOk}
use Rattle.sk_read.specs.Reading.{Reading, HasRead}
use Rattle.sk_read.specs.declared.kind.Kind.{Kind}
use Rattle.sk_fill.specs.Blocks.{blocks_of}
use Rattle.sk_fill.specs.Windows.{all_lines}
use Rattle.sk_fill.specs.Stretches.{StretchState}
use Rattle.sk_feed.specs.Deliveries.{windows_of}
use Rattle.sk_lanes.specs.Rings.{Outlet, GaveEach, AllEnd}
use Rattle.sk_lanes.specs.Lanes.{TakeAll}
use Rattle.sk_label.specs.declared.fault.LabelFault.{LabelFault}
use Rattle.sk_desks.specs.declared.taker.DeskTaker.{DeskTaker}
use Rattle.sk_desks.specs.Entries.{window_lines}
use Rattle.sk_desks.specs.Feeds.{seed_of, TakesLines}
use Rattle.sk_desks.specs.Gathers.{Gathers}

-- desk i of n took its blocks of these windows
abbrev pub took : Kind → ℕ → ℕ → DeskTaker → DeskTaker → List (List (List ℕ)) → Type 0
took kind i n t u windows = TakesLines (seed_of kind) t.desk (blocks_of windows i n) u.desk

-- a stretch was gathered of a source, the last of what was read of it
pub record HasStarted (s : StretchState) (r : Reading) (left : Option (List ℕ)) : Type 0 where
  pub most : s.most ≡ window_lines
  pub given : List (List ℕ)
  pub taken : List ℕ
  pub read : HasRead r left given taken
  pub count : length given ≡ s.first + length (all_lines s.windows)

-- what was read of a source was given to these rings: all end with its last line
pub record HasGiven (os : List Outlet) (r : Reading) (left : Option (List ℕ)) : Type 0 where
  pub given : List (List ℕ)
  pub taken : List ℕ
  pub read : HasRead r left given taken
  pub ends : AllEnd os (length given)

-- stretches were gathered and given to all rings, and then one more was gathered
pub record GathersAndGives (names : List (List ℕ)) (os os' : List Outlet) (next : StretchState) (r r' : Reading) (old new : Option (List ℕ)) (result : Result Bool LabelFault) : Type 0 where
  pub given : List StretchState
  pub gave : OnOk result (GaveEach os os' given)
  pub lines : List (List ℕ)
  pub gathers : Gathers names r r' old new lines result
  pub joined : OnOk result (lines ≡ all_lines (windows_of given) ++ all_lines next.windows)
  pub last : OnOk result (next.first + length (all_lines next.windows) ≡ r'.cutter.number)

-- the windows of a stretch and others after them were fed to desks, and then a stretch was gathered
pub record FeedsAndGathers (kind : Kind) (names : List (List ℕ)) (s next : StretchState) (ts ts' : List DeskTaker) (r r' : Reading) (old new : Option (List ℕ)) (result : Result Bool LabelFault) : Type 0 where
  pub more : List (List (List ℕ))
  pub fed : OnOk result (TakeAll (took kind) (s.windows ++ more) ts ts')
  pub lines : List (List ℕ)
  pub gathers : Gathers names r r' old new lines result
  pub joined : OnOk result (lines ≡ all_lines more ++ all_lines next.windows)
  pub last : OnOk result (next.first + length (all_lines next.windows) ≡ r'.cutter.number)
