use Rattle.std.proofs.Common.{◌≡◌, ◌+◌, ◌*◌, ◌≤◌, All, vec_len, vec_capacity}
use Rattle.std.specs.List.Sorted.{IsNonDecreasing}
use Rattle.sk_quant.specs.Coins.{coin_of}
use Rattle.sk_quant.proofs.Carries.{IsCarrying}
use Rattle.sk_quant.specs.Stored.{lists_of}
use Rattle.sk_quant.proofs.compaction.carry.Given as goal

abbrev pub invariant-levels : goal.invariant-levels
invariant-levels l = record {
  carrying : IsCarrying (coin_of l.fn.coins.key) l.fn.coins.taken l.coins.taken l.fn.items.items l.items.items (lists_of l.fn.levels) (lists_of l.levels) l.level-index;
  key : l.coins.key ≡ l.fn.coins.key;
  taken : l.coins.taken ≡ l.fn.coins.taken + l.level-index;
  few : vec_len l.items ≤ 2 * l.k;
  rise : IsNonDecreasing l.items.items;
  room : vec_capacity l.fn.items ≤ vec_capacity l.items;
  rooms : All (λ level. l.k ≤ vec_capacity level) l.levels;
}
