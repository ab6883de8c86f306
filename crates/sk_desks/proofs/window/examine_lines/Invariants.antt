use Rattle.std.proofs.Common.{All, take}
use Rattle.sk_lines.specs.Spans.{lines_at}
use Rattle.sk_desks.specs.Gathers.{IsOfTenant}
use Rattle.sk_desks.proofs.window.examine_lines.Given as goal

abbrev pub invariant-line : goal.invariant-line
invariant-line l = record { fine : All (IsOfTenant l.names) (lines_at (take l.i l.spans) l.text) }
