use Rattle.std.proofs.Common.{◌≡◌}
use Rattle.sk_quant.specs.Ranks.{error_terms}
use Rattle.sk_quant.proofs.ranks.error_of.Given as goal

abbrev pub invariant-terms : goal.invariant-terms
invariant-terms l = l.error ≡ error_terms l.n l.k l.l
