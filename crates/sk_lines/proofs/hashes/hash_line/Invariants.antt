use Rattle.std.proofs.Common.{◌≡◌, ◌≤◌, ◌+◌, ◌++◌, drop, length}
use Rattle.sk_model.specs.Width.{item_digits}
use Rattle.sk_lines.specs.Hashes.{hex, hash_line}
use Rattle.sk_lines.proofs.hashes.hash_line.Given as goal

abbrev pub invariant-digit : goal.invariant-digit
invariant-digit l = record {
  within : l.place ≤ item_digits;
  size : length l.line ≡ item_digits + 1;
  written : hash_line l.hash ≡ hex l.place l.rest ++ drop l.place l.line;
}

abbrev pub decreases-digit : goal.decreases-digit
decreases-digit l = l.place
