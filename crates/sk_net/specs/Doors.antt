-- What a door shows.
use Rattle.std.specs.Prelude.{List, map, Option, None}
use Rattle.std.specs.Option.{option_map}
use Rattle.std.specs.Net.Socket.{socket_port}
use Rattle.sk_io.specs.Traffic.{Ended, Doorway}
use Rattle.sk_net.specs.declared.tcp_door.ClosedLink.{ClosedLink}
use Rattle.sk_net.specs.declared.listening.Listening.{Listening}

-- a link whose traffic is not known
abbrev pub ended_with : ClosedLink → Ended
ended_with link = record { traffic = None; faults = link.faults; waiting = link.waiting }

-- the same of each
abbrev pub all_ended : List ClosedLink → List Ended
all_ended links = map ended_with links

-- it listens at the port that was asked for, and knows of no link before it comes
abbrev pub doorway_of : {L : Type 0} → Option (Listening L) → List ClosedLink → Doorway
doorway_of {L} listening closed = record { port = option_map (λ (l : Listening L). socket_port l.address) listening; coming = None; closed = all_ended closed }
