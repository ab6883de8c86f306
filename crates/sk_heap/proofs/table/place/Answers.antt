use Rattle.std.proofs.Common.{◌≡◌, ℕ, ◌-◌, ◌%◌, bit_and, subst, sym}
use Rattle.std.proofs.lemmas.Nat.{and_mask}
use Rattle.sk_heap.proofs.table.place.Goals as goal

pub returns : goal.returns
returns c = let power = c.requires in subst (λ (len : ℕ). bit_and c.args.n (len - 1) ≡ c.args.n % len) (sym power.1) (and_mask c.args.n power.0)
