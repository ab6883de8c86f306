use Rattle.std.proofs.Common.{◌-◌, length, take}
use Rattle.sk_lines.specs.Spans.{lines_at}
use Rattle.sk_desks.specs.Feeds.{HasRoom, HasTenants, TakesLines}
use Rattle.sk_desks.proofs.feed.feed_group.Given as goal

abbrev pub invariant-line : goal.invariant-line
invariant-line g l = record {
  took : TakesLines l.seed l.initial.desk (lines_at (take l.i l.spans) l.text) l.desk;
  tenants : HasTenants l.desk;
  room : HasRoom (length l.spans - l.i) l.desk;
}
