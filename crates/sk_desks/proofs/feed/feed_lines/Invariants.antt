use Rattle.std.proofs.Common.{◌≡◌, ◌-◌, ◌≤◌, drop, slice_range}
use Rattle.sk_desks.specs.Feeds.{HasRoom, HasTenants, TakesLines}
use Rattle.sk_desks.proofs.feed.feed_lines.Given as goal

abbrev pub invariant-group : goal.invariant-group
invariant-group g l = record {
  low : l.fn.from ≤ l.at;
  high : l.at ≤ l.fn.to;
  rest : l.lines.rest ≡ drop l.at l.window.lines;
  took : TakesLines l.seed l.initial.desk (slice_range l.window.lines l.fn.from l.at) l.desk;
  tenants : HasTenants l.desk;
  room : HasRoom (l.fn.to - l.at) l.desk;
}

abbrev pub decreases-group : goal.decreases-group
decreases-group g l = l.fn.to - l.at
