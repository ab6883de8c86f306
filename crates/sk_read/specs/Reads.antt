-- How a source was read into units, and where the reading ended.
use Rattle.std.specs.Prelude.{◌≡◌, ◌⊎◌, ℕ, ◌+◌, ◌<◌, ◌≤◌, List, [], ◌∷◌, ◌++◌, length, Option, Result, MatchResult}
use Rattle.std.specs.Io.KnownBytes.{Consumes, IsAtEnd}
use Rattle.sk_model.specs.Missing.{Begins}
use Rattle.sk_read.specs.declared.units.Units.{Units}
use Rattle.sk_read.specs.declared.fault.Fault.{Fault}
use Rattle.sk_read.specs.declared.fault.Fault.TheVariants.{OutOfMemory, ReadFault, LongLine, BadItem, BadCsv, TooMuch, WriteFault}
use Rattle.sk_read.specs.Faults.{IsOfTaker}
use Rattle.sk_read.specs.Units.{units_of, complete_units_of, IsSound, IsSoundUpTo, IsSoundSoFar, IsLongBehind, IsUnevenBehind}

-- one read takes at most this many bytes
abbrev pub piece_limit : ℕ
piece_limit = 65536

-- a fact of each text that begins with the bytes taken, or, where the source was found at its end, of these
abbrev pub IsSettled : (List ℕ → Type 0) → Option (List ℕ) → List ℕ → Type 0
IsSettled P left taken = ((later : List ℕ) → P (taken ++ later)) ⊎ (IsAtEnd left × P taken)

-- of the bytes taken, all but those of the last read, which gave this many, were examined: no unit is refused in
-- them, and those that have ended in them were given
pub record IsInTime (last : ℕ) (units : Units) (given : List (List ℕ)) (taken : List ℕ) : Type 0 where
  pub front : List ℕ
  pub piece : List ℕ
  pub joined : taken ≡ front ++ piece
  pub size : length piece ≤ last
  pub few : length piece ≤ piece_limit
  pub sound : IsSoundSoFar units front
  pub earlier : Begins (complete_units_of units front) given

-- the source was read to its end, and all its units were given, this many
pub record ReadsAll (units : Units) (most n : ℕ) (Gave : List (List ℕ) → Type 0) (old new : Option (List ℕ)) : Type 0 where
  pub taken : List ℕ
  pub consumed : Consumes old new taken
  pub end : IsAtEnd new
  pub size : length taken < most
  pub sound : IsSound units taken
  pub number : n ≡ length (units_of units taken)
  pub gave : Gave (units_of units taken)

-- this many bytes were taken, no unit in them is refused, and those that have ended were given
pub record ReadsSome (units : Units) (IsSize : ℕ → Type 0) (Gave : List (List ℕ) → Type 0) (old new : Option (List ℕ)) : Type 0 where
  pub taken : List ℕ
  pub consumed : Consumes old new taken
  pub size : IsSize (length taken)
  pub sound : IsSoundSoFar units taken
  pub gave : Gave (complete_units_of units taken)

-- the reading broke off after these units, at most the last read after them
pub record BreaksOff (last : ℕ) (units : Units) (most : ℕ) (Known : List (List ℕ) → Type 0) (Comes : List (List ℕ) → List ℕ → Type 0) (old new : Option (List ℕ)) : Type 0 where
  pub given : List (List ℕ)
  pub taken : List ℕ
  pub consumed : Consumes old new taken
  pub size : length taken ≤ most
  pub in_time : IsInTime last units given taken
  pub known : Known given
  pub comes : IsSettled (λ text. Begins given (units_of units text) × Comes given text) new taken

-- the reading broke off at the unit after those given, at which the taker stopped: up to it all are sound
abbrev pub StopsAt : ℕ → Units → ℕ → (List (List ℕ) → List ℕ → Type 0) → Option (List ℕ) → Option (List ℕ) → Type 0
StopsAt last units most Stopped old new = (unit : List ℕ) × BreaksOff last units most (λ given. Stopped given unit)
    (λ given text. Begins (given ++ unit ∷ []) (units_of units text) × IsSoundUpTo units (length given + 1) text) old new

-- a taker of units that come after those given stopped at one of them
pub record StopsAmong (Stopped : Fault → List (List ℕ) → List ℕ → Type 0) (why : Fault) (given units : List (List ℕ)) : Type 0 where
  pub front : List (List ℕ)
  pub unit : List ℕ
  pub begins : Begins (front ++ unit ∷ []) units
  pub stopped : Stopped why (given ++ front) unit
  pub fault : IsOfTaker (length given + length front + 1) why

-- why it ended before the source
abbrev pub Ends : ℕ → Units → ℕ → (List (List ℕ) → Type 0) → (Fault → List (List ℕ) → List ℕ → Type 0) → Option (List ℕ) → Option (List ℕ) → Fault → Type 0
Ends last units most Gave Stopped old new OutOfMemory =
    BreaksOff last units most Gave (λ given text. IsSoundUpTo units (length given) text) old new ⊎ StopsAt last units most (Stopped OutOfMemory) old new
Ends last units most Gave Stopped old new ReadFault = ReadsSome units (λ size. size < most) Gave old new
Ends last units most Gave Stopped old new TooMuch = ReadsSome units (λ size. size ≡ most) Gave old new
Ends last units most Gave Stopped old new (LongLine n) = BreaksOff last units most Gave (λ given text. (n ≡ length given + 1) × IsLongBehind units (length given) text) old new
Ends last units most Gave Stopped old new (BadCsv n) = BreaksOff last units most Gave (λ given text. (n ≡ length given + 1) × IsUnevenBehind units (length given) text) old new
Ends last units most Gave Stopped old new (BadItem n) = StopsAt last units most (λ given unit. (n ≡ length given + 1) × Stopped (BadItem n) given unit) old new
Ends last units most Gave Stopped old new WriteFault = StopsAt last units most (Stopped WriteFault) old new

-- how the reading went, where a taker was given these units, or stopped for a fault at one after them
abbrev pub Reads : ℕ → Units → ℕ → (List (List ℕ) → Type 0) → (Fault → List (List ℕ) → List ℕ → Type 0) → Option (List ℕ) → Option (List ℕ) → Result ℕ Fault → Type 0
Reads last units most Gave Stopped old new result = MatchResult result (λ n. ReadsAll units most n Gave old new) (λ fault. Ends last units most Gave Stopped old new fault)
