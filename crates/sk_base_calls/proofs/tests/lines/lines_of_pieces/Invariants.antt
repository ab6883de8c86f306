use Rattle.std.proofs.Common.{◌≡◌, map, take, true, false}
use Rattle.std.specs.List.{flat_map}
use Rattle.sk_lines.specs.Cutter.{Follows}
use Rattle.sk_base_calls.proofs.tests.lines.lines_of_pieces.Given as goal

abbrev pub invariant-pieces : goal.invariant-pieces
invariant-pieces l = record {
  follows : Follows l.lines (map (λ line. line.items) l.all.items) (flat_map (λ piece. piece.now) (take l.piece-index l.pieces));
  hungry : l.lines.hungry ≡ true;
  not_ended : l.lines.ended ≡ false;
  limit : l.lines.limit ≡ l.limit;
}
