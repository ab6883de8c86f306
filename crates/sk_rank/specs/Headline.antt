-- The headline: what a ranking that ends well has written of its lines, in every interleaving of its threads, and what it
-- leaves to show it.
use Rattle.std.specs.Prelude.{ℕ, List}
use Rattle.sk_hub.specs.Hearts.{HeartState}
use Rattle.sk_snap.specs.Versions.{Learnt}
use Rattle.sk_tell.specs.Headline.{TellsLines}
use Rattle.sk_rank.specs.declared.plan.Plan.{Plan}
use Rattle.sk_rank.specs.Plans.{rank_manner}

-- each line that it wrote is the rank in one growing list of updates, off by at most the error that the line has: in each
-- moment's list, which lacks at most the last two buffers of each updater's share, and last in all items
abbrev pub RanksNear : Plan → List (List ℕ) → HeartState → Learnt → List ℕ → Type 0
RanksNear plan lines heart reader text = TellsLines (rank_manner plan) lines heart reader text
