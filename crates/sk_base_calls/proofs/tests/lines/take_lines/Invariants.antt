use Rattle.std.proofs.Common.{◌≡◌, List, ℕ, length, map, false}
use Rattle.sk_lines.specs.Cutter.{Follows}
use Rattle.sk_base_calls.proofs.tests.lines.take_lines.Given as goal

abbrev pub invariant-lines : goal.invariant-lines
invariant-lines l = record {
  follows : (text : List ℕ) → Follows l.initial.lines (map (λ line. line.items) l.initial.all.items) text → Follows l.lines (map (λ line. line.items) l.all.items) text;
  limit : l.lines.limit ≡ l.initial.lines.limit;
  ended : l.lines.ended ≡ false;
}

abbrev pub decreases-lines : goal.decreases-lines
decreases-lines l = length l.lines.rest
