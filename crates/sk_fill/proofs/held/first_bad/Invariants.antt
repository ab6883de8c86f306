use Rattle.std.proofs.Common.{◌≡◌, drop, take, All}
use Rattle.sk_read.specs.Items.{IsGood}
use Rattle.sk_fill.proofs.held.first_bad.Given as goal

abbrev pub invariant-line : goal.invariant-line
invariant-line l = record {
  rest : l.lines.rest ≡ drop l.place l.window.lines;
  good : All (IsGood l.kind) (drop l.first (take l.place l.window.lines));
}
