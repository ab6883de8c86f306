use Rattle.std.proofs.lemmas.List.{map-set}
use Rattle.sk_watch.proofs.board.Board.drop_at.Goals as goal

pub returns : goal.returns
returns g c = map-set _ _ _ _
