-- How a session ends.
use Rattle.std.specs.Prelude.{◌≡◌, ◌≢◌, ◌⊎◌, ℕ, ◌+◌, ◌<◌, ◌≤◌, List, [], ◌∷◌, ◌++◌, length, Option}
use Rattle.std.specs.Io.KnownBytes.{IsAtEnd}
use Rattle.sk_model.specs.Limits.{line_limit}
use Rattle.sk_model.specs.Lines.{lines_of, AreWithin, IsFirstLong}
use Rattle.sk_model.specs.Missing.{Begins}
use Rattle.sk_io.specs.Traffic.{Traffic, Exchanges, SendsPart, left_of}
use Rattle.sk_theta.specs.Sizes.{Sizes}
use Rattle.sk_read.specs.Reading.{HaveEnded}
use Rattle.sk_read.specs.Reads.{piece_limit, IsSettled, IsInTime}
use Rattle.sk_read.specs.declared.units.Units.TheVariants.{Lines}
use Rattle.sk_hub.specs.Updaters.{UpdaterState}
use Rattle.sk_line.specs.Pumps.{IsPumped, HasRisen}
use Rattle.sk_line.specs.Replies.{reply_line}
use Rattle.sk_line.specs.Requests.{client_request}
use Rattle.sk_line.specs.Serving.{Answered, AnswersEach, lines_in, replies_to, pumps_for}
use Rattle.sk_line.specs.declared.requests.Request.TheVariants.{Quit as AsksToQuit}
use Rattle.sk_line.specs.declared.sessions.End.{End}
use Rattle.sk_line.specs.declared.sessions.End.TheVariants.{Quit, Closed, LinkFault, Long, TooMuch, OutOfMemory}

-- what a session changes: the link's traffic, where it is told, the updater, and the pump's count
pub record SessionState : Type 0 where
  pub traffic : Option Traffic
  pub updater : UpdaterState
  pub pumps : ℕ

abbrev pub session_state : Option Traffic → UpdaterState → ℕ → SessionState
session_state traffic updater pumps = record { traffic = traffic; updater = updater; pumps = pumps }

-- ---- its course

-- these bytes were read, and exactly the replies to these lines sent; behind them one pumping more may have come
pub record Went (shape : Sizes) (a : SessionState) (answered : List Answered) (taken : List ℕ) (b : SessionState) : Type 0 where
  pub exchanges : Exchanges a.traffic b.traffic taken (replies_to answered)
  pub last : UpdaterState
  pub takes : AnswersEach shape a.updater answered last
  pub pump : IsPumped last b.updater
  pub pumped : HasRisen (pumps_for answered) a.pumps b.pumps

-- the link was read to its end, and each line of all that came was answered
pub record Closes (shape : Sizes) (most : ℕ) (a b : SessionState) : Type 0 where
  pub answered : List Answered
  pub taken : List ℕ
  pub went : Went shape a answered taken b
  pub lines : lines_of taken ≡ lines_in answered
  pub within : AreWithin line_limit (lines_in answered)
  pub end : IsAtEnd (left_of b.traffic)
  pub size : length taken < most

-- the next line asks to quit
pub record Quits (shape : Sizes) (most : ℕ) (a b : SessionState) : Type 0 where
  pub answered : List Answered
  pub line : List ℕ
  pub taken : List ℕ
  pub went : Went shape a answered taken b
  pub quit : client_request line ≡ AsksToQuit
  pub lines : IsSettled (λ text. Begins (lines_in answered ++ line ∷ []) (lines_of text)) (left_of b.traffic) taken
  pub within : AreWithin line_limit (lines_in answered ++ line ∷ [])
  pub in_time : IsInTime piece_limit Lines (lines_in answered) taken
  pub size : length taken ≤ most

-- the next line, with this number, is the first that is too long
pub record IsTooLong (shape : Sizes) (most n : ℕ) (a b : SessionState) : Type 0 where
  pub answered : List Answered
  pub taken : List ℕ
  pub went : Went shape a answered taken b
  pub number : n ≡ length answered + 1
  pub lines : IsSettled (λ text. Begins (lines_in answered) (lines_of text) × IsFirstLong line_limit (length answered) (lines_of text)) (left_of b.traffic) taken
  pub in_time : IsInTime piece_limit Lines (lines_in answered) taken
  pub size : length taken ≤ most

-- so many bytes were read; each line that ended in them was answered, and none is too long
pub record StopsReading (shape : Sizes) (IsSize : ℕ → Type 0) (a b : SessionState) : Type 0 where
  pub answered : List Answered
  pub taken : List ℕ
  pub went : Went shape a answered taken b
  pub lines : HaveEnded (lines_in answered) taken
  pub size : IsSize (length taken)

-- the reply to the last line was not sent whole, and those before it were
pub record IsCutOff (shape : Sizes) (most : ℕ) (a b : SessionState) : Type 0 where
  pub answered : List Answered
  pub last : Answered
  pub taken : List ℕ
  pub before : Option Traffic
  pub exchanges : Exchanges a.traffic before taken (replies_to answered)
  pub part : SendsPart before b.traffic (reply_line last.answer)
  pub takes : AnswersEach shape a.updater (answered ++ last ∷ []) b.updater
  pub pumped : HasRisen (pumps_for (answered ++ last ∷ [])) a.pumps b.pumps
  pub lines : IsSettled (λ text. Begins (lines_in answered ++ last.line ∷ []) (lines_of text)) (left_of b.traffic) taken
  pub within : AreWithin line_limit (lines_in answered ++ last.line ∷ [])
  pub in_time : IsInTime piece_limit Lines (lines_in answered) taken
  pub size : length taken ≤ most

-- to which end a session came that takes at most so many bytes
abbrev pub ComesTo : Sizes → ℕ → SessionState → SessionState → End → Type 0
ComesTo shape most a b Quit = Quits shape most a b
ComesTo shape most a b Closed = Closes shape most a b
ComesTo shape most a b LinkFault = StopsReading shape (λ size. size < most) a b ⊎ IsCutOff shape most a b
ComesTo shape most a b (Long n) = IsTooLong shape most n a b
ComesTo shape most a b TooMuch = StopsReading shape (λ size. size ≡ most) a b
ComesTo shape most a b OutOfMemory = b ≡ a

-- it came to an end and ended so; or what waited on the link could not be sent there, which is a fault of the link
pub record SessionEnds (shape : Sizes) (most : ℕ) (a b : SessionState) (end : End) : Type 0 where
  pub due : End
  pub comes : ComesTo shape most a b due
  pub told : (end ≡ due) ⊎ ((due ≢ OutOfMemory) × (end ≡ LinkFault))
