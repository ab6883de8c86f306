use Rattle.std.proofs.Common.{◌≡◌, ◌≤◌, [], ◌-◌, length, drop}
use Rattle.std.specs.Io.KnownBytes.{Keeps, append_known}
use Rattle.sk_net.proofs.replies.send_from.Given as goal

abbrev pub invariant-send : goal.invariant-send
invariant-send g l = record {
  within : l.place ≤ length l.bytes;
  none : drop l.initial.place l.bytes ≡ [] → (l.out ≡ l.initial.out) × (l.place ≡ l.initial.place);
  sent : Keeps (append_known (g.W.Write.contents l.initial.out) (drop l.initial.place l.bytes)) (append_known (g.W.Write.contents l.out) (drop l.place l.bytes));
}

abbrev pub decreases-send : goal.decreases-send
decreases-send g l = length l.bytes - l.place
