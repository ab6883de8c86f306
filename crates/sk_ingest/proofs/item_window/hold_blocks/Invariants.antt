use Rattle.std.proofs.Common.{◌*◌}
use Rattle.sk_lines.specs.Spans.{lines_at}
use Rattle.sk_ingest.specs.ItemWindows.{HasHeld}
use Rattle.sk_ingest.proofs.item_window.hold_blocks.Given as goal

abbrev pub invariant-line : goal.invariant-line
invariant-line l = HasHeld l.kind (lines_at l.spans l.text) l.held l.at (16 * l.at)
