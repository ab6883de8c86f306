-- What it means that stretches were read and given to rings.
use Rattle.std.specs.Prelude.{◌≡◌, ℕ, Bool, List, length, Option, Result, OnOk}
use Rattle.sk_read.specs.Reading.{Reading, HasRead}
use Rattle.sk_read.specs.declared.fault.Fault.{Fault}
use Rattle.sk_read.specs.declared.kind.Kind.{Kind}
use Rattle.sk_fill.specs.Stretches.{StretchState, StretchGoes, ReadsStretch}
use Rattle.sk_feed.specs.Deliveries.{windows_of}
use Rattle.sk_lanes.specs.Rings.{Outlet, GaveEach, AllEnd}

-- what was read of a source was given to these rings: all end with its last line
pub record HasGiven (os : List Outlet) (r : Reading) (left : Option (List ℕ)) : Type 0 where
  pub given : List (List ℕ)
  pub taken : List ℕ
  pub read : HasRead r left given taken
  pub ends : AllEnd os (length given)

-- stretches were read and given to all rings, and then one more was read
pub record Supplies (kind : Kind) (most : ℕ) (os os' : List Outlet) (next : StretchState) (r r' : Reading) (old new : Option (List ℕ)) (result : Result Bool Fault) : Type 0 where
  pub given : List StretchState
  pub gave : OnOk result (GaveEach os os' given)
  pub between : Reading
  pub mid : Option (List ℕ)
  pub goes : StretchGoes kind most (windows_of given) r between old mid
  pub last : List (List (List ℕ))
  pub reads : ReadsStretch kind most last between r' mid new result
  pub is : OnOk result (last ≡ next.windows)
  pub first : OnOk result (next.first ≡ between.cutter.number)
