use Rattle.std.proofs.Common.{All}
use Rattle.sk_net.specs.Waiting.{IsUnused}
use Rattle.sk_net.proofs.tcp_door.spare_replies.Given as goal

abbrev pub invariant-link : goal.invariant-link
invariant-link l = All IsUnused l.spare.items
