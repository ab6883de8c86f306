use Rattle.sk_lines.specs.Spans.{lines_at}
use Rattle.sk_fill.specs.Gathers.{HasGathered}
use Rattle.sk_fill.proofs.gathered.gather_rest.Given as goal

abbrev pub invariant-line : goal.invariant-line
invariant-line g l = HasGathered (g.C.Composable.keeps_of l.hint) l.kind (lines_at l.spans l.text) l.kept l.at l.items
