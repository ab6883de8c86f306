-- Where a session is between two requests.
use Rattle.std.specs.Prelude.{◌≡◌, ℕ, ◌+◌, ◌<◌, ◌≤◌, Bool, List, [], ◌++◌, length, Option, Result, Ok, Err}
use Rattle.sk_compose.specs.Numbers.{k_of}
use Rattle.sk_hub.specs.Updaters.{UpdaterState, kept_of}
use Rattle.sk_io.specs.Traffic.{Traffic, Exchanges, left_of}
use Rattle.sk_theta.specs.Sizes.{Sizes}
use Rattle.sk_read.specs.Reading.{Reading, HasRead, Goes, remaining_of}
use Rattle.sk_read.specs.declared.reader.LineFault.{LineFault}
use Rattle.sk_line.specs.Pumps.{HasRisen}
use Rattle.sk_line.specs.Serving.{Answered, AnswersEach, lines_in, replies_to, pumps_for}
use Rattle.sk_line.specs.Sessions.{SessionState, ComesTo}
use Rattle.sk_line.specs.declared.sessions.End.{End}

-- since the start these bytes were read, and these lines of them answered
pub record IsUnderWay (shape : Sizes) (a : SessionState) (answered : List Answered) (taken : List ℕ) (r : Reading) (b : SessionState) : Type 0 where
  pub exchanges : Exchanges a.traffic b.traffic taken (replies_to answered)
  pub takes : AnswersEach shape a.updater answered b.updater
  pub pumped : HasRisen (pumps_for answered) a.pumps b.pumps
  pub read : HasRead r (left_of b.traffic) (lines_in answered) taken

-- so it is after one line more, or it ended
abbrev pub Proceeds : {T : Type 0} → Sizes → SessionState → Reading → SessionState → Result T End → Type 0
Proceeds shape a r b (Ok _) = (answered : List Answered) × (taken : List ℕ) × IsUnderWay shape a answered taken r b
Proceeds shape a r b (Err end) = ComesTo shape r.most a b end

-- the sketch keeps this many hashes still, less is left to be read, and at most one item was kept for each byte that was read
pub record Advances (hashes : ℕ) (old : Reading) (u : UpdaterState) (new : Reading) (v : UpdaterState) : Type 0 where
  pub k : k_of v.view.numbers ≡ hashes
  pub progress : remaining_of new < remaining_of old
  pub room : length (kept_of v) + remaining_of new ≤ length (kept_of u) + remaining_of old

-- the next line was read of a link, or none came
pub record Comes (old new : Reading) (a b : Option Traffic) (result : Result Bool LineFault) : Type 0 where
  pub goes : (given : List (List ℕ)) (taken : List ℕ) → HasRead old (left_of a) given taken →
      (more : List ℕ) × Exchanges a b more [] × Goes new (left_of b) given (taken ++ more) result
