use Rattle.std.proofs.Common.{◌≡◌, ℕ, ◌<◌, length, slice_index}
use Rattle.sk_report.specs.Sizes.{size_at}
use Rattle.sk_count.proofs.counting.sizes_of.Given as goal

abbrev pub invariant-size : goal.invariant-size
invariant-size l = (length l.sizes.items ≡ l.i) × ((i : ℕ) → i < l.i → slice_index l.sizes.items i ≡ size_at l.plan.sizes i)
