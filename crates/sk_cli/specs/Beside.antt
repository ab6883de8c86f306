-- What stands beside the streams of a run: a board of watchers, and what is left of a hub.
use Rattle.std.specs.Prelude.{◌≡◌, ℕ, List, length, All, IsSome, Option, None, map}
use Rattle.sk_gate.specs.Hands.{TokenState}
use Rattle.sk_hub.specs.Hearts.{HeartState}
use Rattle.sk_snap.specs.Versions.{Learnt}
use Rattle.sk_watch.specs.Places.{Place}
use Rattle.sk_cli.specs.declared.remains.Remains.{Remains}

-- how many places a board is handed in with
abbrev pub board_places : ℕ
board_places = 8

-- a board as a run is handed it: each of its places has a watcher
pub record IsFullBoard (board : List Place) : Type 0 where
  pub places : length board ≡ board_places
  pub live : All IsSome board

-- what is left of a hub: of one that counted, or of one that ranked
pub record Left : Type 0 where
  pub heart : Option HeartState
  pub token : Option TokenState
  pub ranks : Option HeartState
  pub reader : Option Learnt

abbrev pub left_of : {W : Type 0} → Remains W → Left
left_of remains = record { heart = remains.heart; token = remains.token; ranks = remains.ranks; reader = remains.reader }

-- nothing is left, as a run is handed it
abbrev pub nothing_left : Left
nothing_left = record { heart = None; token = None; ranks = None; reader = None }

-- the hub that a command makes, and leaves behind if it ends well: none, one that counts, or one that ranks
pub data MadeHub : Type 0 where
  NoHub : MadeHub
  CountingHub : MadeHub
  RankingHub : MadeHub

-- no handles of another hub are left
abbrev pub LeavesOnly : MadeHub → Left → Left → Type 0
LeavesOnly NoHub old new = new ≡ old
LeavesOnly CountingHub old new = (new.ranks ≡ old.ranks) × (new.reader ≡ old.reader)
LeavesOnly RankingHub old new = (new.heart ≡ old.heart) × (new.token ≡ old.token)

-- the places of the board, and what is left of a hub
pub record Beside : Type 0 where
  pub board : List Place
  pub remains : Left

abbrev pub beside_of : {W : Type 0} → List Place → Remains W → Beside
beside_of board remains = record { board = board; remains = left_of remains }

-- what is left of a hub that counted is as it was
abbrev pub SameHub : {W : Type 0} → Remains W → Remains W → Type 0
SameHub old new = (new.heart ≡ old.heart) × (new.token ≡ old.token)

-- what is left of a hub that ranked is as it was
abbrev pub SameRanks : {W : Type 0} → Remains W → Remains W → Type 0
SameRanks old new = (new.ranks ≡ old.ranks) × (new.reader ≡ old.reader)

-- the places with no watcher left
abbrev pub cleared : List Place → List Place
cleared places = map (λ _. None) places
