use Rattle.std.proofs.Common.{◌∙◌, arith}
use Rattle.sk_cli.proofs.WatcherLaws.{cleared_more}
use Rattle.sk_cli.proofs.watchers.clear.Goals as goal

pub clear-preserved : goal.clear-preserved
clear-preserved g c = c.let_go.ensures ∙ cleared_more _ _ c.clear.place (omega (arith, c.requires)) c.clear.invariant
