use Rattle.std.proofs.Common.{◌≡◌, ◌+◌, ℕ, List, ◌++◌, length, take}
use Rattle.sk_lines.specs.Spans.{lines_at}
use Rattle.sk_read.proofs.units.UnitTaker.take_all.Given as goal

abbrev pub invariant-unit : goal.invariant-unit
invariant-unit g l = record {
  number : l.number ≡ l.before + l.span-index;
  went : (start : _) (units : List (List ℕ)) → length units ≡ l.before → g.Self.UnitTaker.went start l.initial.self units
      → g.Self.UnitTaker.went start l.self (units ++ lines_at (take l.span-index l.spans) l.text);
  stays : g.Self.UnitTaker.stands_on l.self ≡ g.Self.UnitTaker.stands_on l.initial.self;
}
