use Rattle.std.proofs.Common.{◌≡◌, ◌+◌, ◌*◌, ◌<◌, ℕ, slice_index}
use Rattle.sk_lines.proofs.runs.end_each.Given as goal

abbrev pub invariant-line : goal.invariant-line
invariant-line l = record {
  so_far : (j : ℕ) → j < l.i → slice_index l.run (j * (l.len + 1) + l.len) ≡ 10;
}
