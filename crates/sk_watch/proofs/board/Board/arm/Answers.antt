use Rattle.std.proofs.Common.{None, option_map}
use Rattle.sk_watch.specs.Watching.{armed}
use Rattle.sk_watch.proofs.Places.{seen-set, seen_within}
use Rattle.sk_watch.proofs.board.Board.arm.Goals as goal

pub returns : goal.returns
returns g c = seen-set _ (option_map (armed c.args.k c.args.mark)) _ _ _ _ None (seen_within _ _ _ c.requires) c.index_mut.ensures.value c.arm_at.ensures
