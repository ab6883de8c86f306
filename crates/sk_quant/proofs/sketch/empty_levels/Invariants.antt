use Rattle.std.proofs.Common.{◌≡◌, ◌≤◌, [], replicate, All, vec_capacity}
use Rattle.sk_quant.specs.Stored.{lists_of}
use Rattle.sk_quant.proofs.sketch.empty_levels.Given as goal

abbrev pub invariant-levels : goal.invariant-levels
invariant-levels l = record {
  levels : lists_of l.levels.items ≡ replicate l.counter [];
  rooms : All (λ level. l.k ≤ vec_capacity level) l.levels.items;
}
