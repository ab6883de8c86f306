use Rattle.sk_lines.specs.Spans.{lines_at}
use Rattle.sk_fill.proofs.Gathering.{nothing_gathered}
use Rattle.sk_fill.proofs.gathered.gather.Goals as goal

pub gather_rest-requires-in-Raw-clause-first : goal.gather_rest-requires-in-Raw-clause-first
gather_rest-requires-in-Raw-clause-first g c = nothing_gathered (g.C.Composable.keeps_of c.args.hint) c.args.kind (lines_at c.args.spans.now c.args.text.now) c.args.kept.now
