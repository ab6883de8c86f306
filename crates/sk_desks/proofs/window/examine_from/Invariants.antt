use Rattle.std.proofs.Common.{◌≡◌, ◌-◌, ◌≤◌, All, take, drop}
use Rattle.sk_desks.specs.Gathers.{IsOfTenant}
use Rattle.sk_desks.proofs.window.examine_from.Given as goal

abbrev pub invariant-group : goal.invariant-group
invariant-group l = record {
  within : l.done ≤ l.count;
  rest : l.lines.rest ≡ drop l.done (drop l.place l.window.lines);
  fine : All (IsOfTenant l.names) (take l.done (drop l.place l.window.lines));
}

abbrev pub decreases-group : goal.decreases-group
decreases-group l = l.count - l.done
