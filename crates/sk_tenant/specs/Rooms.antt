-- Room for updaters.
use Rattle.std.specs.Prelude.{ℕ, List, [], map}
use Rattle.sk_hub.specs.Updaters.{UpdaterState}

pub record RoomState : Type 0 where
  pub items : List UpdaterState
  -- for how many there is room
  pub most : ℕ

-- room for this many, of which none is there
abbrev pub empty_room : ℕ → RoomState
empty_room most = record { items = []; most = most }

-- the updaters in each room
abbrev pub lists_in : List RoomState → List (List UpdaterState)
lists_in rooms = map (λ room. room.items) rooms

-- for how many there is room in each
abbrev pub sizes_of : List RoomState → List ℕ
sizes_of rooms = map (λ room. room.most) rooms

-- the same rooms, and nothing in them
abbrev pub emptied : List RoomState → List RoomState
emptied rooms = map (λ room. empty_room room.most) rooms
