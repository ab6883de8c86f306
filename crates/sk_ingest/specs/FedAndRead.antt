-- What it means that windows were fed, and then a stretch was read.
use Rattle.std.specs.Prelude.{◌≡◌, ℕ, ◌+◌, ◌≤◌, Bool, List, ◌++◌, length, Option, Result, OnOk}
use Rattle.sk_read.specs.Reading.{Reading, HasRead}
use Rattle.sk_read.specs.declared.fault.Fault.{Fault}
use Rattle.sk_read.specs.declared.kind.Kind.{Kind}
use Rattle.sk_fill.specs.Windows.{most_lines, all_lines}
use Rattle.sk_fill.specs.Stretches.{StretchState, StretchGoes, ReadsStretch}

-- a stretch was read of a source, the last of what was read of it; its windows take from 1 line to as many as any
pub record HasStarted (s : StretchState) (r : Reading) (left : Option (List ℕ)) : Type 0 where
  pub least : 1 ≤ s.most
  pub highest : s.most ≤ most_lines
  pub given : List (List ℕ)
  pub taken : List ℕ
  pub read : HasRead r left given taken
  pub count : length given ≡ s.first + length (all_lines s.windows)

-- windows that were read and others after them were fed, and then a stretch was read: these are its windows
pub record FeedsAndReads (Fed : List (List (List ℕ)) → Type 0) (kind : Kind) (most : ℕ) (old new : StretchState) (r r' : Reading) (left left' : Option (List ℕ)) (result : Result Bool Fault) : Type 0 where
  -- those that were read and fed
  pub more : List (List (List ℕ))
  pub between : Reading
  pub mid : Option (List ℕ)
  pub goes : StretchGoes kind most more r between left mid
  pub fed : OnOk result (Fed (old.windows ++ more))
  -- and those that were read then
  pub last : List (List (List ℕ))
  pub reads : ReadsStretch kind most last between r' mid left' result
  pub is : OnOk result (last ≡ new.windows)
  pub first : OnOk result (new.first ≡ between.cutter.number)
