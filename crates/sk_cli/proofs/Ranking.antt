-- How `quantile` goes.
use Rattle.std.proofs.Common.{◌≡◌, ℕ, Some}
use Rattle.sk_hub.specs.Hearts.{HeartState}
use Rattle.sk_read.specs.declared.fault.Fault.{Fault as ReadingFault}
use Rattle.sk_snap.specs.Versions.{Learnt}
use Rattle.sk_rank.specs.declared.plan.Plan.{Plan}
use Rattle.sk_rank.specs.Plans.{rank_manner}
use Rattle.sk_tell.specs.Endings.{setting, TellsAll, EndsAt, ReadsUnits}
use Rattle.sk_cli.specs.Beside.{Beside, RankingHub}
use Rattle.sk_cli.specs.commands.Quantile.{ranking, LeavesRanks}
use Rattle.sk_cli.specs.Fault.{fault_by}
use Rattle.sk_cli.specs.Outside.{Streams}
use Rattle.sk_cli.specs.Run.{Finishes, Ends}
use Rattle.sk_cli.proofs.ByManner.{ended_by_manner, finished_by_manner}

module _ (plan : Plan) (most : ℕ) (from to : Beside) (a b : Streams) where
  pub rank_ended : (f : ReadingFault) → EndsAt (rank_manner plan) b.last most (setting a.left a.written) (setting b.left b.written) f → Ends (ranking plan) most from to a b (fault_by 0 f)
  rank_ended f ends = ended_by_manner (rank_manner plan) RankingHub (LeavesRanks plan) most from to a b f ends

  pub rank_finished : (heart : HeartState) (reader : Learnt) → to.remains.ranks ≡ Some heart → to.remains.reader ≡ Some reader
      → ReadsUnits 0 most (TellsAll (rank_manner plan) (setting a.left a.written) (setting b.left b.written) heart reader) a.left b.left → Finishes (ranking plan) most from to a b
  rank_finished heart reader heart_left reader_left all =
      finished_by_manner (rank_manner plan) RankingHub (LeavesRanks plan) most from to a b heart reader
      (λ units text told. record { heart = heart; reader = reader; heart_left = heart_left; reader_left = reader_left; ranks = told }) all
