use Rattle.std.proofs.Common.{◌≡◌, ◌+◌, ◌≤◌, length}
use Rattle.std.specs.List.{concat}
use Rattle.sk_fill.proofs.window.bytes_of.Given as goal

abbrev pub invariant-line : goal.invariant-line
invariant-line l =
    (l.counter + length l.lines.rest ≡ length l.page.lines)
    × (l.bytes + length (concat l.lines.rest) ≡ length (concat l.page.lines))
    × (length (concat l.page.lines) ≤ l._size)
    × (l.end ≡ length l.page.lines)
