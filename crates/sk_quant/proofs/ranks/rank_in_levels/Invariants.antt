use Rattle.std.proofs.Common.{◌≡◌, drop}
use Rattle.sk_quant.specs.Ranks.{weighted_rank}
use Rattle.sk_quant.specs.Stored.{lists_of}
use Rattle.sk_quant.proofs.ranks.rank_in_levels.Given as goal

abbrev pub invariant-levels : goal.invariant-levels
invariant-levels l = l.below ≡ weighted_rank l.x (drop l.l (lists_of l.levels))
