-- Windows of lines that are read before they are fed, and what it means that they were read.
use Rattle.std.specs.Prelude.{◌≡◌, ◌≢◌, ℕ, ◌<◌, ◌≤◌, Bool, true, false, List, [], ◌∷◌, ◌++◌, ◌-◌, ◌^◌, min, length, All, Option, Result, Ok, OnOk, IfErr}
use Rattle.std.specs.List.{concat}
use Rattle.std.specs.Io.KnownBytes.{Consumes}
use Rattle.sk_read.specs.Items.{IsGood}
use Rattle.sk_read.specs.Reading.{Reading, HasRead, remaining_of}
use Rattle.sk_read.specs.Reads.{Ends}
use Rattle.sk_read.specs.declared.fault.Fault.{Fault}
use Rattle.sk_read.specs.declared.kind.Kind.{Kind}
use Rattle.sk_read.specs.declared.units.Units.TheVariants.{Lines}
use Rattle.sk_fill.specs.Windows.{FillsNone, IsFullWindow, AreWindows, all_lines}
use Rattle.sk_fill.specs.Fills.{RefusesLine}

-- windows that are read before they are fed
pub record StretchState : Type 0 where
  -- the lines of each
  pub windows : List (List (List ℕ))
  -- how many lines each takes at most
  pub most : ℕ
  -- how many lines of the source come before them
  pub first : ℕ

-- ---- how large a stretch grows

-- as many bytes of lines as this make a stretch full
abbrev pub stretch_bytes : ℕ
stretch_bytes = 1048576

-- windows have this many lines, and these no more than this many bytes, or both counts are as high as they can be
pub record IsCounted (count size : ℕ) (windows : List (List (List ℕ))) : Type 0 where
  pub lines : count ≡ min (length (all_lines windows)) (2 ^ 64 - 1)
  pub bytes : min (length (concat (all_lines windows))) (2 ^ 64 - 1) ≤ size

-- windows have fewer lines than are enough, and these have fewer bytes
pub record HaveFewer (enough bytes_enough : ℕ) (windows : List (List (List ℕ))) : Type 0 where
  pub lines : length (all_lines windows) < enough
  pub bytes : length (concat (all_lines windows)) < bytes_enough

-- there is a last window, and those before it, if there are any, are not enough
pub record StopsAtEnough (enough bytes_enough : ℕ) (windows : List (List (List ℕ))) : Type 0 where
  pub before : List (List (List ℕ))
  pub last : List (List ℕ)
  pub joined : windows ≡ before ++ last ∷ []
  pub fewer : 0 < length before → HaveFewer enough bytes_enough before

-- ---- what was read

-- the last of these windows is not full, and each before it is
pub record EndUnfilled (most : ℕ) (windows : List (List (List ℕ))) : Type 0 where
  pub before : List (List (List ℕ))
  pub last : List (List ℕ)
  pub joined : windows ≡ before ++ last ∷ []
  pub full : All (IsFullWindow most) before
  pub unfilled : FillsNone most last

-- after these units came others, each empty or an item, that are windows and a rest
pub record GoOnInWindows (kind : Kind) (most : ℕ) (given units : List (List ℕ)) : Type 0 where
  pub more : List (List ℕ)
  pub joined : units ≡ given ++ more
  pub windows : List (List (List ℕ))
  pub rest : List (List ℕ)
  pub cut : AreWindows most more windows rest
  pub good : All (IsGood kind) more

-- so it is, and then a line was refused
abbrev pub RefusesBehind : Kind → ℕ → List (List ℕ) → Fault → List (List ℕ) → List ℕ → Type 0
RefusesBehind kind most given why units line = GoOnInWindows kind most given units × RefusesLine kind units why units line

-- lines of a source were read by a reader into an empty window: it is full, or the source ended
pub record ReadsWindow (kind : Kind) (most : ℕ) (lines : List (List ℕ)) (r r' : Reading) (old new : Option (List ℕ)) (result : Result Bool Fault) : Type 0 where
  pub full : result ≡ Ok true → IsFullWindow most lines
  pub unfilled : result ≢ Ok true → FillsNone most lines
  pub good : All (IsGood kind) lines
  pub read : OnOk result ((given : List (List ℕ)) (taken : List ℕ) → HasRead r old given taken
      → (more : List ℕ) × Consumes old new more × HasRead r' new (given ++ lines) (taken ++ more))
  pub end : result ≡ Ok false → r'.ended ≡ true
  pub progress : result ≡ Ok true → remaining_of r' < remaining_of r
  pub bound : r'.most ≡ r.most
  pub stopped : IfErr result (λ why. (first : Option (List ℕ)) (given : List (List ℕ)) (taken : List ℕ) → Consumes first old taken → HasRead r old given taken
      → Ends r'.last Lines r.most (λ l. l ≡ given ++ lines) (RefusesLine kind (given ++ lines)) first new why)

-- windows of a source's lines were read by a reader into a stretch: all are full, or the source ended in the last
pub record ReadsStretch (kind : Kind) (most : ℕ) (windows : List (List (List ℕ))) (r r' : Reading) (old new : Option (List ℕ)) (result : Result Bool Fault) : Type 0 where
  pub full : result ≡ Ok true → All (IsFullWindow most) windows
  pub unfilled : result ≡ Ok false → EndUnfilled most windows
  pub good : OnOk result (All (IsGood kind) (all_lines windows))
  pub read : OnOk result ((given : List (List ℕ)) (taken : List ℕ) → HasRead r old given taken
      → (more : List ℕ) × Consumes old new more × HasRead r' new (given ++ all_lines windows) (taken ++ more))
  pub end : result ≡ Ok false → r'.ended ≡ true
  pub progress : result ≡ Ok true → remaining_of r' < remaining_of r
  pub bound : r'.most ≡ r.most
  pub stopped : IfErr result (λ why. (first : Option (List ℕ)) (given : List (List ℕ)) (taken : List ℕ) → Consumes first old taken → HasRead r old given taken
      → Ends r'.last Lines r.most (GoOnInWindows kind most given) (RefusesBehind kind most given) first new why)

-- windows of a source's lines were read by a reader, and all are full
pub record StretchGoes (kind : Kind) (most : ℕ) (windows : List (List (List ℕ))) (r r' : Reading) (old new : Option (List ℕ)) : Type 0 where
  pub full : All (IsFullWindow most) windows
  pub good : All (IsGood kind) (all_lines windows)
  pub read : (given : List (List ℕ)) (taken : List ℕ) → HasRead r old given taken → (more : List ℕ) × Consumes old new more × HasRead r' new (given ++ all_lines windows) (taken ++ more)
  pub bound : r'.most ≡ r.most
  pub progress : remaining_of r' ≤ remaining_of r
