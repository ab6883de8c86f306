-- What a door does for a server: links come, and are closed.
use Rattle.std.specs.Prelude.{◌≡◌, ℕ, ◌+◌, ◌-◌, ◌^◌, min, List, ◌++◌, length, map, Option}
use Rattle.sk_io.specs.Traffic.{Ended, Doorway, Arrive, Pass, text_of}
use Rattle.sk_io.specs.declared.door.Door as door

-- a door as contracts see it: what it shows of links, how many it has accepted, how many more it can close, and how
-- often a call of it has failed
pub record DoorView : Type 0 where
  pub doorway : Doorway
  pub accepted : ℕ
  pub room : ℕ
  pub faults : ℕ

abbrev pub door_of : {D L : Type 0} → door.Ghosts D L → D → DoorView
door_of d door = record { doorway = d.doorway door; accepted = d.accepted door; room = d.room door; faults = d.faults door }

-- a count after n more, as far as it can say
abbrev pub HasCounted : ℕ → ℕ → ℕ → Type 0
HasCounted before n now = min now (2 ^ 64 - 1) ≡ min (before + n) (2 ^ 64 - 1)

-- links over these texts were accepted
pub record LetsIn (texts : List (Option (List ℕ))) (old new : DoorView) : Type 0 where
  pub arrive : Arrive old.doorway new.doorway texts
  pub accepted : HasCounted old.accepted (length texts) new.accepted
  pub room : new.room ≡ old.room

-- links over these texts were closed, in order
pub record LetsOut (texts : List (Option (List ℕ))) (links : List Ended) (old new : DoorView) : Type 0 where
  pub are : map (λ e. text_of e.traffic) links ≡ texts
  pub doorway : new.doorway ≡ record old.doorway { closed = old.doorway.closed ++ links }
  pub accepted : new.accepted ≡ old.accepted
  pub room : new.room + length links ≡ old.room
  pub faults : new.faults ≡ old.faults

-- these links were accepted and closed, in the order in which they came
pub record LetsThrough (links : List Ended) (old new : DoorView) : Type 0 where
  pub passes : Pass old.doorway new.doorway links
  pub port : new.doorway.port ≡ old.doorway.port
  pub accepted : HasCounted old.accepted (length links) new.accepted
  pub room : new.room + length links ≡ old.room
