use Rattle.std.proofs.Common.{◌≡◌, length, take}
use Rattle.sk_tenant.specs.Desks.{AreDone}
use Rattle.uses.specs.Adds.{adds_of}
use Rattle.uses.proofs.tenants.add_each.Given as goal

abbrev pub invariant-line : goal.invariant-line
invariant-line l = record {
  done : AreDone l.initial.desk (adds_of (take l.line-index l.lines) l.answers.items) l.desk;
  count : length l.answers.items ≡ l.line-index;
  tenants : length l.desk.updaters ≡ length l.initial.desk.updaters;
}
