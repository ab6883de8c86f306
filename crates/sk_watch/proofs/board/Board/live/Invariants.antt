use Rattle.std.proofs.Common.{◌≡◌, map, take, is_some}
use Rattle.sk_watch.specs.Masks.{mask_of}
use Rattle.sk_watch.proofs.board.Board.live.Given as goal

abbrev pub invariant-live : goal.invariant-live
invariant-live g l = l.live ≡ mask_of (map is_some (take l.place l.self.boxes.items))
