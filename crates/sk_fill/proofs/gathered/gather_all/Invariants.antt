use Rattle.std.proofs.Common.{◌≡◌, ◌≤◌, take}
use Rattle.std.specs.List.{filter}
use Rattle.sk_lines.specs.Spans.{lines_at}
use Rattle.sk_fill.specs.Windows.{items_in}
use Rattle.sk_fill.proofs.gathered.gather_all.Given as goal

abbrev pub invariant-line : goal.invariant-line
invariant-line g l = record {
  few : l.count ≤ l.at;
  kept : take l.count l.kept ≡ filter (g.C.Composable.keeps_of l.hint) (items_in l.kind (take l.at (lines_at l.spans l.text)));
}
