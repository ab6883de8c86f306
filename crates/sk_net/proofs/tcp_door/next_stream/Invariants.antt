use Rattle.std.proofs.Common.{◌≡◌}
use Rattle.sk_net.proofs.tcp_door.next_stream.Given as goal

abbrev pub invariant-next : goal.invariant-next
invariant-next g l = l.accepted ≡ l.initial.accepted
